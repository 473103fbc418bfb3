-- C's operators, as instructions compute them.
use Rattle.std.proofs.Common.{◌≡◌, ℕ, ◌+◌, ◌-◌, ◌*◌, ◌/◌, ◌%◌, ◌^◌, ◌<◌, ◌≤◌, Bool, true, false, cond, refl, sym, ap, ◌∙◌, subst, arith, Result, Ok, Err}
use Rattle.std.specs.Prelude.{eqb, ltb, not, bit_and}
use Rattle.std.proofs.lemmas.Bool.Decides.{nat_tests}
use Rattle.std.proofs.Math.Nat.{div-le_self}
use Rattle.std.proofs.lemmas.Nat.{and_mask}
use Rattle.cm_base.specs.declared.stop.Stop.{Stop}
use Rattle.cm_base.specs.declared.stop.Stop.TheVariants as stop
use Rattle.ns_types.specs.Operators.{wrapped, subtract, multiply, negate, complement, is_negative, magnitude, with_sign, divide_unsigned, remainder_unsigned, divide_signed, remainder_signed, shift_left, shift_right_unsigned, shift_right_signed}
use Rattle.v8m_core.specs.Values.{shifted_left, shifted_right, shifted_with_sign, quotient, signed_quotient}

-- Division by another number than 0

pub quotient_is : (a b : ℕ) → eqb b 0 ≡ false → divide_unsigned a b ≡ Ok (quotient a b)
unfolding quotient
quotient_is a b ne = rw ne refl

pub signed_quotient_is : (a b : ℕ) → eqb b 0 ≡ false → divide_signed a b ≡ Ok (signed_quotient a b)
unfolding signed_quotient
signed_quotient_is a b ne = rw ne refl

-- Remainders, as MLS computes them of a quotient

-- a number is its quotient times the divisor, and its remainder
record Parts (a b : ℕ) : Type 0 where
  sum : a / b * b + a % b ≡ a

parts : (a b : ℕ) → Parts a b
parts a b = record { sum = grind arith }

remainder_of : (a b : ℕ) → a < 4294967296 → subtract a (multiply (a / b) b) ≡ a % b
remainder_of a b lt =
    let p : ℕ = a / b * b in
    let sum : p + a % b ≡ a = (parts a b).sum in
    left p (a % b) a lt sum
  where
    left : (p r a : ℕ) → a < 4294967296 → p + r ≡ a → subtract a (wrapped p) ≡ r
    left p r a lt sum = omega arith

pub remainder_is : (a b : ℕ) → a < 4294967296 → eqb b 0 ≡ false → remainder_unsigned a b ≡ Ok (subtract a (multiply (quotient a b) b))
unfolding quotient
remainder_is a b lt ne = rw ne (ap Ok (sym (remainder_of a b lt)))

-- Products of negated numbers

distributes : (d x y : ℕ) → (d + x) * y ≡ d * y + x * y
distributes d x y = grind arith

commutes : (x y : ℕ) → x * y ≡ y * x
commutes x y = grind arith

negates : (s t y : ℕ) → s + t ≡ 4294967296 * y → wrapped s ≡ negate (wrapped t)
negates s t y e = omega arith

negate_is : (x : ℕ) → x < 4294967296 → eqb x 0 ≡ false → negate x ≡ 4294967296 - x
negate_is x lt ne = grind (arith, nat_tests)

negate_zero : (x : ℕ) → eqb x 0 ≡ true → x ≡ 0
negate_zero x e = grind (arith, nat_tests)

negate_left : (x y : ℕ) → x < 4294967296 → multiply (negate x) y ≡ negate (multiply x y)
negate_left x y lt = by_zero (eqb x 0) refl
  where
    by_zero : (t : Bool) → eqb x 0 ≡ t → multiply (negate x) y ≡ negate (multiply x y)
    by_zero true e = ap (λ z. multiply (negate z) y) (negate_zero x e) ∙ zero_times y ∙ ap (λ z. negate (multiply z y)) (sym (negate_zero x e))
      where
        zero_times : (y : ℕ) → multiply (negate 0) y ≡ negate (multiply 0 y)
        zero_times y = grind arith
    by_zero false e =
        let d : ℕ = 4294967296 - x in
        let whole : d + x ≡ 4294967296 = omega arith in
        ap (λ z. multiply z y) (negate_is x lt e) ∙ negates (d * y) (x * y) y (sym (distributes d x y) ∙ ap (λ z. z * y) whole)

negate_right : (x y : ℕ) → y < 4294967296 → multiply x (negate y) ≡ negate (multiply x y)
negate_right x y lt = ap wrapped (commutes x (negate y)) ∙ negate_left y x lt ∙ ap (λ z. negate (wrapped z)) (commutes y x)

twice : (x : ℕ) → x < 4294967296 → negate (negate x) ≡ x
twice x lt = omega arith

both : (p r a : ℕ) → a < 4294967296 → p + r ≡ a → subtract (negate a) (negate (wrapped p)) ≡ negate r
both p r a lt sum = omega arith

-- of magnitudes m and n with their signs
signed_parts : (p q : Bool) (m n : ℕ) → m < 4294967296 → n < 4294967296 →
    subtract (with_sign p m) (multiply (with_sign (cond p (not q) q) (m / n)) (with_sign q n)) ≡ with_sign p (m % n)
signed_parts p q m n lt_m lt_n = shape p q
  where
    d : ℕ
    d = m / n

    sum : d * n + m % n ≡ m
    sum = (parts m n).sum

    lt_d : d < 4294967296
    lt_d = omega (arith, div-le_self m n, lt_m)

    lt_p : multiply d n < 4294967296
    lt_p = omega arith

    shape : (p q : Bool) → subtract (with_sign p m) (multiply (with_sign (cond p (not q) q) d) (with_sign q n)) ≡ with_sign p (m % n)
    shape false false = remainder_of m n lt_m
    shape false true =
        ap (λ z. subtract m z) (negate_left d (negate n) lt_d ∙ ap negate (negate_right d n lt_n) ∙ twice (multiply d n) lt_p) ∙ remainder_of m n lt_m
    shape true false = ap (λ z. subtract (negate m) z) (negate_left d n lt_d) ∙ both (d * n) (m % n) m lt_m sum
    shape true true = ap (λ z. subtract (negate m) z) (negate_right d n lt_n) ∙ both (d * n) (m % n) m lt_m sum

magnitude_lt : (a : ℕ) → a < 4294967296 → magnitude a < 4294967296
magnitude_lt a lt = by_sign (is_negative a)
  where
    by_sign : (p : Bool) → cond p (negate a) a < 4294967296
    by_sign true = omega arith
    by_sign false = lt

-- a word is its magnitude with its sign
sign_back : (a : ℕ) → a < 4294967296 → with_sign (is_negative a) (magnitude a) ≡ a
sign_back a lt = by_sign (is_negative a)
  where
    by_sign : (p : Bool) → cond p (negate (cond p (negate a) a)) (cond p (negate a) a) ≡ a
    by_sign true = twice a lt
    by_sign false = refl

pub signed_remainder_is : (a b : ℕ) → a < 4294967296 → b < 4294967296 → eqb b 0 ≡ false → remainder_signed a b ≡ Ok (subtract a (multiply (signed_quotient a b) b))
unfolding signed_quotient
signed_remainder_is a b lt_a lt_b ne =
    let p = is_negative a in
    let q = is_negative b in
    let m = magnitude a in
    let n = magnitude b in
    let sign = cond p (not q) q in
    rw ne (ap Ok (sym (
    ap (λ x. subtract x (multiply (with_sign (cond (is_negative a) (not (is_negative b)) (is_negative b)) (magnitude a / magnitude b)) b)) (sym (sign_back a lt_a))
    ∙ ap (λ x. subtract (with_sign p m) (multiply (with_sign sign (m / n)) x)) (sym (sign_back b lt_b))
    ∙ signed_parts p q m n (magnitude_lt a lt_a) (magnitude_lt b lt_b))))

-- Division by 0

pub divide_by_zero : (a b : ℕ) → eqb b 0 ≡ true → divide_unsigned a b ≡ Err stop.Divide
divide_by_zero a b e = rw e refl

pub signed_divide_by_zero : (a b : ℕ) → eqb b 0 ≡ true → divide_signed a b ≡ Err stop.Divide
signed_divide_by_zero a b e = rw e refl

pub remainder_by_zero : (a b : ℕ) → eqb b 0 ≡ true → remainder_unsigned a b ≡ Err stop.Divide
remainder_by_zero a b e = rw e refl

pub signed_remainder_by_zero : (a b : ℕ) → eqb b 0 ≡ true → remainder_signed a b ≡ Err stop.Divide
signed_remainder_by_zero a b e = rw e refl

-- Shifts by the low five bits of a number

low_five : (n : ℕ) → bit_and n 31 % 256 ≡ n % 32
low_five n = ap (λ x. x % 256) (and_mask n 5) ∙ omega arith

pub shift_left_is : (a n : ℕ) → shift_left a n ≡ shifted_left a (bit_and n 31 % 256)
unfolding shifted_left
shift_left_is a n = ap (λ k. wrapped (a * 2 ^ k)) (sym (low_five n))

pub shift_right_is : (a n : ℕ) → shift_right_unsigned a n ≡ shifted_right a (bit_and n 31 % 256)
unfolding shifted_right
shift_right_is a n = ap (λ k. a / 2 ^ k) (sym (low_five n))

pub signed_shift_right_is : (a n : ℕ) → shift_right_signed a n ≡ shifted_with_sign a (bit_and n 31 % 256)
unfolding shifted_with_sign shifted_right
signed_shift_right_is a n = ap (λ k. cond (is_negative a) (complement (complement a / 2 ^ k)) (a / 2 ^ k)) (sym (low_five n))
