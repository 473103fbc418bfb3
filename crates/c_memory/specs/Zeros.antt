-- Memory with zeros, and with other bytes at the beginning of Secure data.
use Rattle.std.specs.Prelude.{ℕ, zero, suc, List, ◌++◌, drop, length, slice_set}
use Rattle.ns_types.specs.SecureRam.{ram_place}
use Rattle.ns_types.specs.State.{Memory}

-- bytes with n zeros from a place on
abbrev pub zeroed : ℕ → ℕ → List ℕ → List ℕ
zeroed at zero bytes = bytes
zeroed at (suc n) bytes = zeroed (suc at) n (slice_set bytes at 0)

-- memory with n zeros from an address of Secure data on
abbrev pub cleared : ℕ → ℕ → Memory → Memory
cleared a n m = record m { secure_ram = zeroed (ram_place a) n m.secure_ram }

-- memory with these bytes at the beginning of Secure data
abbrev pub with_data : List ℕ → Memory → Memory
with_data bytes m = record m { secure_ram = bytes ++ drop (length bytes) m.secure_ram }
