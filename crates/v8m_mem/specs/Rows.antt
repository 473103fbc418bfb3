-- All bytes of the device: those of Secure ROM, which nothing changes, and those of the other regions.
use Rattle.std.specs.Prelude.{◌≡◌, ℕ, Bool, ◌||◌, eqb, length}
use Rattle.ns_types.specs.State.{Device, Memory}
use Rattle.ns_types.specs.Memory.{rom_size, IsWhole}

-- Secure ROM with the Non-secure callable region behind it, and the rest
pub record Rows : Type 0 where
  pub device : Device
  pub memory : Memory

-- each region has its length
pub record AreWhole (r : Rows) : Type 0 where
  pub rom : length r.device.rom ≡ rom_size
  pub memory : IsWhole r.memory

-- the sizes of an access
abbrev pub is_size : ℕ → Bool
is_size n = eqb n 1 || (eqb n 2 || eqb n 4)
