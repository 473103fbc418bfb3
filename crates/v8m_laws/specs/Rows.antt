-- What the C program may touch of two memories: rows 0, 1 and 4.
use Rattle.std.specs.Prelude.{◌≡◌, ◌⊎◌, ℕ, take}
use Rattle.ns_types.specs.State.{Memory}
use Rattle.ns_types.specs.Platform.{row_size}

-- These rows are alike in both. Secure RAM is row 4 and then row 5.
pub record SameRows (m n : Memory) : Type 0 where
  pub ns_rom : m.ns_rom ≡ n.ns_rom
  pub ns_ram : m.ns_ram ≡ n.ns_ram
  pub secure_data : take (row_size 4) m.secure_ram ≡ take (row_size 4) n.secure_ram

-- the sizes of accesses, in bytes
abbrev pub IsSize : ℕ → Type 0
IsSize n = (n ≡ 1) ⊎ ((n ≡ 2) ⊎ (n ≡ 4))
