-- The operators of C on 32-bit words, which are numbers below 2 ^ 32; a signed value is a word in two's complement.
-- Sums, differences and products wrap (C11 6.5.5 to 6.5.7; what C leaves open is as the device does it). The
-- operators & | ^ are bit_and, bit_or and bit_xor.
use Rattle.std.specs.Prelude.{ℕ, ◌+◌, ◌-◌, ◌*◌, ◌/◌, ◌%◌, ◌^◌, Bool, cond, not, eqb, ltb, Result, Ok, Err}
use Rattle.cm_base.specs.declared.stop.Stop.{Stop}
use Rattle.cm_base.specs.declared.stop.Stop.TheVariants.{Divide}

-- the low 32 bits
abbrev pub wrapped : ℕ → ℕ
wrapped n = n % 4294967296

abbrev pub add : ℕ → ℕ → ℕ
add a b = wrapped (a + b)

abbrev pub subtract : ℕ → ℕ → ℕ
subtract a b = wrapped (a + (4294967296 - b))

abbrev pub multiply : ℕ → ℕ → ℕ
multiply a b = wrapped (a * b)

-- unary - and ~
abbrev pub negate : ℕ → ℕ
negate a = subtract 0 a

abbrev pub complement : ℕ → ℕ
complement a = 0xFFFFFFFF - a

-- a signed value is below 0
abbrev pub is_negative : ℕ → Bool
is_negative a = not (ltb a 0x80000000)

abbrev pub magnitude : ℕ → ℕ
magnitude a = cond (is_negative a) (negate a) a

abbrev pub with_sign : Bool → ℕ → ℕ
with_sign negative n = cond negative (negate n) n

-- Division toward 0 (C11 6.5.5); the remainder has the sign of the first operand. By 0 both stop.
abbrev pub unless_zero : ℕ → ℕ → Result ℕ Stop
unless_zero b result = cond (eqb b 0) (Err Divide) (Ok result)

abbrev pub divide_unsigned : ℕ → ℕ → Result ℕ Stop
divide_unsigned a b = unless_zero b (a / b)

abbrev pub remainder_unsigned : ℕ → ℕ → Result ℕ Stop
remainder_unsigned a b = unless_zero b (a % b)

abbrev pub divide_signed : ℕ → ℕ → Result ℕ Stop
divide_signed a b =
    let negative = cond (is_negative a) (not (is_negative b)) (is_negative b) in
    unless_zero b (with_sign negative (magnitude a / magnitude b))

abbrev pub remainder_signed : ℕ → ℕ → Result ℕ Stop
remainder_signed a b = unless_zero b (with_sign (is_negative a) (magnitude a % magnitude b))

-- Shifts, by an amount modulo 32; a signed value that is shifted right keeps its sign (C11 6.5.7).
abbrev pub shift_left : ℕ → ℕ → ℕ
shift_left a n = wrapped (a * 2 ^ (n % 32))

abbrev pub shift_right_unsigned : ℕ → ℕ → ℕ
shift_right_unsigned a n = a / 2 ^ (n % 32)

abbrev pub shift_right_signed : ℕ → ℕ → ℕ
shift_right_signed a n = cond (is_negative a) (complement (shift_right_unsigned (complement a) n)) (shift_right_unsigned a n)

-- Comparison (C11 6.5.8, 6.5.9): 1 where it holds, and 0 elsewhere.
abbrev pub truth : Bool → ℕ
truth holds = cond holds 1 0

-- signed values in the order of numbers: the one that is least becomes 0
abbrev pub from_least : ℕ → ℕ
from_least a = add a 0x80000000

abbrev pub equal : ℕ → ℕ → ℕ
equal a b = truth (eqb a b)

abbrev pub differs : ℕ → ℕ → ℕ
differs a b = truth (not (eqb a b))

abbrev pub less_unsigned : ℕ → ℕ → ℕ
less_unsigned a b = truth (ltb a b)

abbrev pub less_signed : ℕ → ℕ → ℕ
less_signed a b = truth (ltb (from_least a) (from_least b))

abbrev pub at_most_unsigned : ℕ → ℕ → ℕ
at_most_unsigned a b = truth (not (ltb b a))

abbrev pub at_most_signed : ℕ → ℕ → ℕ
at_most_signed a b = truth (not (ltb (from_least b) (from_least a)))

-- Conversion to a type of 1, 2 or 4 bytes (C11 6.3.1.3): the low bytes, extended to a word by the type's sign.
abbrev pub low_bytes : ℕ → ℕ → ℕ
low_bytes bytes a = a % 256 ^ bytes

abbrev pub to_unsigned : ℕ → ℕ → ℕ
to_unsigned bytes a = low_bytes bytes a

abbrev pub to_signed : ℕ → ℕ → ℕ
to_signed bytes a = let low = low_bytes bytes a in cond (ltb (2 * low) (256 ^ bytes)) low (wrapped (low + (4294967296 - 256 ^ bytes)))
