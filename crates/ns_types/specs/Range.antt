-- The check of an address range (ECM0359818, address range check intrinsic). It speaks of every byte of the range.
use Rattle.std.specs.Prelude.{ℕ, zero, suc, ◌+◌, ◌-◌, ◌/◌, ◌%◌, max, Bool, true, cond, not, ◌&&◌, ◌||◌, eqb, ltb, Option, Some, None}
use Rattle.ns_types.specs.Platform.{in_row}

-- every one of n bytes from p lies in row k
abbrev pub all_in : ℕ → ℕ → ℕ → Bool
all_in k p zero = true
all_in k p (suc n) = in_row k (p + n) && all_in k p n

-- the one row that holds them all
unfoldable pub row_of_all : ℕ → ℕ → Option ℕ
row_of_all p n =
    cond (all_in 0 p n) (Some 0) (cond (all_in 1 p n) (Some 1) (cond (all_in 2 p n) (Some 2) (cond (all_in 3 p n) (Some 3) (cond (all_in 4 p n) (Some 4) (cond (all_in 5 p n) (Some 5) None)))))

-- Secure code may write the row; it may read every row
abbrev pub can_write_row : ℕ → Bool
can_write_row k = eqb k 1 || (eqb k 4 || eqb k 5)

abbrev pub is_secure_row : ℕ → Bool
is_secure_row k = ltb 1 k

-- a flag, by its weight
abbrev pub asks : ℕ → ℕ → Bool
asks weight flags = eqb (flags / weight % 2) 1

-- The row has what the flags ask: 1 asks for writes, 2 for Non-secure memory, and 8 for reads, which every row allows.
-- 4 and 16 ask nothing more here.
abbrev pub has_asked : ℕ → ℕ → Bool
has_asked flags k = (not (asks 1 flags) || can_write_row k) && (not (asks 2 flags) || not (is_secure_row k))

abbrev pub if_asked : ℕ → ℕ → Option ℕ → ℕ
if_asked p flags None = 0
if_asked p flags (Some k) = cond (has_asked flags k) p 0

-- The check of n bytes from p, where n is taken as 1 if it is 0: p, or NULL where a flag is unknown, the range goes past
-- the last address, no one row holds all of it, or its row hasn't what the flags ask.
unfoldable pub checked_range : ℕ → ℕ → ℕ → ℕ
checked_range p n flags =
    cond (ltb 31 flags || ltb 0xFFFFFFFF (p + max n 1 - 1)) 0 (if_asked p flags (row_of_all p (max n 1)))
