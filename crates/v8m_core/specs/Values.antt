-- What instructions compute, on numbers of 32 bits and on the flags (DDI0553, shared functions of the pseudocode). Sums,
-- differences, products and the rest are those of words; shifts and quotients go further here than C's operators.
use Rattle.std.specs.Prelude.{ℕ, ◌+◌, ◌*◌, ◌/◌, ◌%◌, ◌^◌, Bool, cond, ◌&&◌, not, eqb, leb}
use Rattle.ns_types.specs.Operators.{wrapped, subtract, complement, is_negative, magnitude, with_sign}
use Rattle.v8m_mem.specs.Target.{flag}

-- Shifts by any number of bits (LSL, LSR, ASR). A shift of a negative number to the right rounds down: its inverse
-- is shifted.
unfoldable pub shifted_left : ℕ → ℕ → ℕ
shifted_left a k = wrapped (a * 2 ^ k)

unfoldable pub shifted_right : ℕ → ℕ → ℕ
shifted_right a k = a / 2 ^ k

unfoldable pub shifted_with_sign : ℕ → ℕ → ℕ
shifted_with_sign a k = cond (is_negative a) (complement (shifted_right (complement a) k)) (shifted_right a k)

-- Division rounds toward 0, and by 0 gives 0 (UDIV, SDIV). 80000000 by FFFFFFFF is 80000000.
unfoldable pub quotient : ℕ → ℕ → ℕ
quotient a b = cond (eqb b 0) 0 (a / b)

unfoldable pub signed_quotient : ℕ → ℕ → ℕ
signed_quotient a b =
    let negative = cond (is_negative a) (not (is_negative b)) (is_negative b) in
    cond (eqb b 0) 0 (with_sign negative (magnitude a / magnitude b))

-- The flags of a - b (CMP): N 16, Z 8, C 4, V 2; Q 1 stays as it was. C says that nothing was borrowed, and V that
-- the result as a number with a sign isn't the difference.
abbrev pub overflows : ℕ → ℕ → Bool
overflows a b =
    let r = subtract a b in
    cond (is_negative a) (not (is_negative b) && not (is_negative r)) (is_negative b && is_negative r)

unfoldable pub compared : ℕ → ℕ → ℕ → ℕ
compared a b flags =
    let r = subtract a b in
    flag (is_negative r) 16 + flag (eqb r 0) 8 + flag (leb b a) 4 + flag (overflows a b) 2 + flags % 2

-- a flag, by its weight
abbrev pub is_set : ℕ → ℕ → Bool
is_set flags weight = eqb (flags / weight % 2) 1

abbrev pub same : Bool → Bool → Bool
same a b = cond a b (not b)

-- whether a condition holds (ConditionHolds): by its bits 3 to 1, and bit 0 turns it round
abbrev pub tested : ℕ → (n z c v : Bool) → Bool
tested k n z c v =
    cond (eqb k 0) z
    (cond (eqb k 1) c
    (cond (eqb k 2) n
    (cond (eqb k 3) v
    (cond (eqb k 4) (c && not z)
    (cond (eqb k 5) (same n v) (same n v && not z))))))

unfoldable pub condition_holds : ℕ → ℕ → Bool
condition_holds condition flags = same (eqb (condition % 2) 0) (tested (condition / 2) (is_set flags 16) (is_set flags 8) (is_set flags 4) (is_set flags 2))
