-- Memory with zeros is what the meaning says.
use Rattle.std.proofs.Common.{◌≡◌, ℕ, zero, suc, List, refl, ap}
use Rattle.std.specs.Prelude.{slice_set}
use Rattle.ns_types.specs.SecureRam.{ram_place}
use Rattle.ns_types.specs.State.{Memory}
use Rattle.c_mean.specs.Homes as homes
use Rattle.c_memory.specs.Zeros as zeros

zeroed_is : (at n : ℕ) (bytes : List ℕ) → zeros.zeroed at n bytes ≡ homes.zeroed at n bytes
zeroed_is at zero bytes = refl
zeroed_is at (suc n) bytes = zeroed_is (suc at) n (slice_set bytes at 0)

pub cleared_is : (a n : ℕ) (m : Memory) → zeros.cleared a n m ≡ homes.cleared a n m
cleared_is a n m = ap (λ (bytes : List ℕ). record m { secure_ram = bytes }) (zeroed_is (ram_place a) n m.secure_ram)
