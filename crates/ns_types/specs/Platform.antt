-- The regions of the device, by their rows.
use Rattle.std.specs.Prelude.{ℕ, ◌+◌, ◌-◌, ◌%◌, Bool, cond, ◌&&◌, ◌||◌, ltb, leb, Option, Some, None, slice_index_or}
use Rattle.cm_base.specs.declared.regions.Row.{Row}
use Rattle.cm_base.specs.declared.regions.TheConstants.{PLATFORM}

-- row k: 0 Non-secure ROM, 1 Non-secure RAM, 2 Secure ROM, 3 Non-secure callable, 4 Secure data, 5 Secure control
abbrev pub row : ℕ → Row
row k = slice_index_or PLATFORM.rows k (record { from = 0; to = 0 })

-- the number of bytes of row k
abbrev pub row_size : ℕ → ℕ
row_size k = (row k).to - (row k).from

-- an address lies in row k
abbrev pub in_row : ℕ → ℕ → Bool
in_row k a = leb (row k).from a && ltb a (row k).to

-- n bytes at an address lie in row k
abbrev pub lies_in : ℕ → ℕ → ℕ → Bool
lies_in k a n = leb (row k).from a && leb (a + n) (row k).to

-- the row that holds an address
unfoldable pub region_of : ℕ → Option ℕ
region_of a = cond (in_row 0 a) (Some 0) (cond (in_row 1 a) (Some 1) (cond (in_row 2 a) (Some 2) (cond (in_row 3 a) (Some 3) (cond (in_row 4 a) (Some 4) (cond (in_row 5 a) (Some 5) None)))))

-- one row holds all n bytes: Secure code may read them
unfoldable pub is_readable : ℕ → ℕ → Bool
is_readable a n = lies_in 0 a n || (lies_in 1 a n || (lies_in 2 a n || (lies_in 3 a n || (lies_in 4 a n || lies_in 5 a n))))

-- one row that can be written holds all n bytes
unfoldable pub is_writable : ℕ → ℕ → Bool
is_writable a n = lies_in 1 a n || (lies_in 4 a n || lies_in 5 a n)

-- Secure memory: the rows 2 to 5
abbrev pub is_secure : ℕ → Bool
is_secure a = in_row 2 a || (in_row 3 a || (in_row 4 a || in_row 5 a))

-- Non-secure memory: the rows 0 and 1
abbrev pub is_nonsecure : ℕ → Bool
is_nonsecure a = in_row 0 a || in_row 1 a

-- Secure code may stand here: the rows 2 and 3, which are adjacent
abbrev pub is_in_rom : ℕ → Bool
is_in_rom a = leb (row 2).from a && ltb a (row 3).to

-- a number with its low bits cleared
abbrev pub aligned : ℕ → ℕ → ℕ
aligned n a = a - a % n
