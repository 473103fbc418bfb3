-- Shifts by 32 bits and more.
use Rattle.std.proofs.Common.{◌≡◌, ℕ, ◌+◌, ◌-◌, ◌*◌, ◌/◌, ◌%◌, ◌^◌, ◌<◌, ◌≤◌, ap, ◌∙◌, arith}
use Rattle.std.proofs.lemmas.Nat.{pow-add, pow_pos, shr_below}
use Rattle.v8m_core.specs.Values.{shifted_left, shifted_right}

-- 2 to such a number is a multiple of 2 ^ 32
multiple : (k : ℕ) → 32 ≤ k → 2 ^ k ≡ 2 ^ (k - 32) * 4294967296
multiple k h =
    let e : k ≡ (k - 32) + 32 = omega arith in
    ap (λ j. 2 ^ j) e ∙ pow-add 2 (k - 32) 32

regroup : (a b c : ℕ) → a * (b * c) ≡ a * b * c
regroup a b c = grind arith

pub shifted_left_out : (a k : ℕ) → 32 ≤ k → shifted_left a k ≡ 0
unfolding shifted_left
shifted_left_out a k h =
    ap (λ x. (a * x) % 4294967296) (multiple k h)
    ∙ ap (λ x. x % 4294967296) (regroup a (2 ^ (k - 32)) 4294967296)
    ∙ omega arith

zero_more : (k : ℕ) → 0 + k ≡ k
zero_more k = omega arith

pub shifted_right_out : (a k : ℕ) → a < 4294967296 → 32 ≤ k → shifted_right a k ≡ 0
unfolding shifted_right
shifted_right_out a k lt h =
    let plain : 2 ^ (0 + k) ≡ 2 ^ k = ap (λ j. 2 ^ j) (zero_more k) in
    let below : a < 2 ^ (0 + k) = omega (arith, plain, multiple k h, pow_pos (k - 32)) in
    let one : a / 2 ^ k < 2 ^ 0 = shr_below a 0 k below in
    omega arith
