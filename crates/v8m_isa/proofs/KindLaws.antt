-- Laws of the kinds of fields: a number that a field takes is shown by its bits.
use Rattle.std.proofs.Common.{◌≡◌, ℕ, ◌+◌, ◌-◌, ◌*◌, ◌/◌, ◌%◌, ◌^◌, ◌<◌, ◌≤◌, Bool, true, ◌&&◌, ◌||◌, not, List, [], ◌∷◌, length, refl, sym, ap, ◌∙◌, subst, arith}
use Rattle.std.specs.Prelude.{eqb, ltb, leb, slice_index_or}
use Rattle.std.proofs.lemmas.Bool.Decides.{nat_tests}
use Rattle.std.proofs.Math.Nat.{mod-eq_of_lt}
use Rattle.v8m_isa.specs.declared.form.Kind.{Kind}
use Rattle.v8m_isa.specs.declared.form.Kind.TheVariants as kind
use Rattle.v8m_isa.specs.declared.form.Rule.TheVariants.{SpFromSp}
use Rattle.v8m_isa.specs.Table.{not_xor}
use Rattle.v8m_isa.specs.Form.{turn, sign_extend, takes, bits_of, number_of, is_kept}

-- how many bits a field of a kind has
abbrev pub has_width : Kind → ℕ → Bool
has_width kind.Register n = eqb n 4
has_width kind.Base n = eqb n 4
has_width kind.Condition n = eqb n 4
has_width kind.Number n = true
has_width kind.Special n = eqb n 8
has_width kind.List n = eqb n 16
has_width kind.Near n = eqb n 20
has_width kind.Far n = eqb n 24

-- the parts of 24 bits, and their number
abbrev made : ℕ → ℕ → ℕ → ℕ → ℕ
made s i j r = s * 2 ^ 23 + i * 2 ^ 22 + j * 2 ^ 21 + r

turn_made : (s i j r : ℕ) → s < 2 → i < 2 → j < 2 → r < 2 ^ 21 → turn (made s i j r) ≡ made s (not_xor i s) (not_xor j s) r
unfolding turn
turn_made s i j r ls li lj lr =
    let a : made s i j r / 2 ^ 23 ≡ s = omega arith in
    let b : made s i j r / 2 ^ 22 % 2 ≡ i = omega arith in
    let c : made s i j r / 2 ^ 21 % 2 ≡ j = omega arith in
    let d : made s i j r % 2 ^ 21 ≡ r = omega arith in
    ap (λ x. x * 2 ^ 23 + not_xor (made s i j r / 2 ^ 22 % 2) x * 2 ^ 22 + not_xor (made s i j r / 2 ^ 21 % 2) x * 2 ^ 21 + made s i j r % 2 ^ 21) a
    ∙ ap (λ x. s * 2 ^ 23 + not_xor x s * 2 ^ 22 + not_xor (made s i j r / 2 ^ 21 % 2) s * 2 ^ 21 + made s i j r % 2 ^ 21) b
    ∙ ap (λ x. s * 2 ^ 23 + not_xor i s * 2 ^ 22 + not_xor x s * 2 ^ 21 + made s i j r % 2 ^ 21) c
    ∙ ap (λ x. s * 2 ^ 23 + not_xor i s * 2 ^ 22 + not_xor j s * 2 ^ 21 + x) d

not_xor_twice : (i s : ℕ) → i < 2 → s < 2 → not_xor (not_xor i s) s ≡ i
not_xor_twice i s li ls = omega arith

pub turn_twice : (x : ℕ) → x < 2 ^ 24 → turn (turn x) ≡ x
turn_twice x lt =
    let s = x / 2 ^ 23 in
    let i = x / 2 ^ 22 % 2 in
    let j = x / 2 ^ 21 % 2 in
    let r = x % 2 ^ 21 in
    let e : made (x / 2 ^ 23) (x / 2 ^ 22 % 2) (x / 2 ^ 21 % 2) (x % 2 ^ 21) ≡ x = omega arith in
    let ls : x / 2 ^ 23 < 2 = omega arith in
    ap (λ y. turn (turn y)) (sym e)
    ∙ ap turn (turn_made s i j r ls (omega arith) (omega arith) (omega arith))
    ∙ turn_made s (not_xor i s) (not_xor j s) r ls (omega arith) (omega arith) (omega arith)
    ∙ ap (λ y. made s y (not_xor (not_xor j s) s) r) (not_xor_twice i s (omega arith) ls)
    ∙ ap (λ y. made s i y r) (not_xor_twice j s (omega arith) ls)
    ∙ e

pub turn_lt : (x : ℕ) → x < 2 ^ 24 → turn x < 2 ^ 24
unfolding turn
turn_lt x lt = omega arith

-- the parts of bits that were turned
pub record Turned (x : ℕ) : Type 0 where
  pub sign : turn x / 2 ^ 23 % 2 ≡ x / 2 ^ 23 % 2
  pub second : turn x / 2 ^ 22 % 2 ≡ not_xor (x / 2 ^ 22 % 2) (x / 2 ^ 23 % 2)
  pub third : turn x / 2 ^ 21 % 2 ≡ not_xor (x / 2 ^ 21 % 2) (x / 2 ^ 23 % 2)
  pub high : turn x / 2 ^ 11 % 2 ^ 10 ≡ x / 2 ^ 11 % 2 ^ 10
  pub low : turn x % 2 ^ 11 ≡ x % 2 ^ 11

made_parts : (s i j r : ℕ) → s < 2 → i < 2 → j < 2 → r < 2 ^ 21 → (made s i j r / 2 ^ 23 % 2 ≡ s) × (made s i j r / 2 ^ 22 % 2 ≡ i) × (made s i j r / 2 ^ 21 % 2 ≡ j) × (made s i j r / 2 ^ 11 % 2 ^ 10 ≡ r / 2 ^ 11) × (made s i j r % 2 ^ 11 ≡ r % 2 ^ 11)
made_parts s i j r ls li lj lr = (omega arith, omega arith, omega arith, omega arith, omega arith)

pub turned_parts : (x : ℕ) → x < 2 ^ 24 → Turned x
turned_parts x lt =
    let s = x / 2 ^ 23 in
    let i = x / 2 ^ 22 % 2 in
    let j = x / 2 ^ 21 % 2 in
    let r = x % 2 ^ 21 in
    let e : made (x / 2 ^ 23) (x / 2 ^ 22 % 2) (x / 2 ^ 21 % 2) (x % 2 ^ 21) ≡ x = omega arith in
    let ls : x / 2 ^ 23 < 2 = omega arith in
    let same : x / 2 ^ 23 ≡ x / 2 ^ 23 % 2 = omega arith in
    let t : turn x ≡ made s (not_xor i s) (not_xor j s) r = ap turn (sym e) ∙ turn_made s i j r ls (omega arith) (omega arith) (omega arith) in
    let p = made_parts s (not_xor i s) (not_xor j s) r ls (omega arith) (omega arith) (omega arith) in
    record {
      sign = ap (λ y. y / 2 ^ 23 % 2) t ∙ p.0 ∙ same;
      second = ap (λ y. y / 2 ^ 22 % 2) t ∙ p.1 ∙ ap (not_xor i) same;
      third = ap (λ y. y / 2 ^ 21 % 2) t ∙ p.2 ∙ ap (not_xor j) same;
      high = ap (λ y. y / 2 ^ 11 % 2 ^ 10) t ∙ p.3 ∙ omega arith;
      low = ap (λ y. y % 2 ^ 11) t ∙ p.4 ∙ omega arith;
    }

extend_half : (v : ℕ) → (eqb (v % 2) 0 && (ltb v (2 ^ 24) || leb (2 ^ 32 - 2 ^ 24) v && ltb v (2 ^ 32))) ≡ true → sign_extend 25 (2 * (v / 2 % 2 ^ 24)) ≡ v
extend_half v h = grind (arith, nat_tests)

extend_near_half : (v : ℕ) → (eqb (v % 2) 0 && (ltb v (2 ^ 20) || leb (2 ^ 32 - 2 ^ 20) v && ltb v (2 ^ 32))) ≡ true → sign_extend 21 (2 * (v / 2 % 2 ^ 20)) ≡ v
extend_near_half v h = grind (arith, nat_tests)

list_lt : (v : ℕ) (t : Bool) → (ltb v (2 ^ 15) && t) ≡ true → v < 2 ^ 16
list_lt v t h = grind (arith, nat_tests)

pub record Shown (k : Kind) (n v : ℕ) : Type 0 where
  pub small : bits_of k v < 2 ^ n
  pub back : number_of k (bits_of k v) ≡ v

of_width : (n k v : ℕ) → eqb n k ≡ true → v < 2 ^ k → v < 2 ^ n
of_width n k v e lt = let f : n ≡ k = grind (arith, nat_tests) in subst (λ m. v < 2 ^ m) (sym f) lt

pub shown : (k : Kind) (n v : ℕ) → has_width k n ≡ true → takes k n v ≡ true → Shown k n v
unfolding takes bits_of number_of
shown kind.Register n v w h = record { small = of_width n 4 v w (grind (arith, nat_tests)); back = refl }
shown kind.Base n v w h = record { small = of_width n 4 v w (grind (arith, nat_tests)); back = refl }
shown kind.Condition n v w h = record { small = of_width n 4 v w (grind (arith, nat_tests)); back = refl }
shown kind.Number n v w h = record { small = grind (arith, nat_tests); back = refl }
shown kind.Special n v w h = record { small = of_width n 8 v w (grind (arith, nat_tests)); back = refl }
shown kind.List n v w h = record { small = of_width n 16 v w (list_lt v _ h); back = refl }
shown kind.Near n v w h =
    let lt : v / 2 % 2 ^ 20 < 2 ^ 20 = omega arith in
    record { small = of_width n 20 (v / 2 % 2 ^ 20) w lt; back = ap (λ y. sign_extend 21 (2 * y)) (mod-eq_of_lt lt) ∙ extend_near_half v h }
shown kind.Far n v w h =
    let lt : v / 2 % 2 ^ 24 < 2 ^ 24 = omega arith in
    let small = turn_lt (v / 2 % 2 ^ 24) lt in
    record {
      small = of_width n 24 (turn (v / 2 % 2 ^ 24)) w small;
      back = ap (λ y. sign_extend 25 (2 * turn y)) (mod-eq_of_lt small) ∙ ap (λ y. sign_extend 25 (2 * y)) (turn_twice (v / 2 % 2 ^ 24) lt) ∙ extend_half v h;
    }

-- a rule of two numbers
pub kept_two : (vs : List ℕ) → 2 ≤ length vs → is_kept SpFromSp vs ≡ (not (eqb (slice_index_or vs 0 0) 13) || eqb (slice_index_or vs 1 0) 13)
unfolding is_kept
kept_two [] le = absurd (omega arith)
kept_two (d ∷ []) le = absurd (omega arith)
kept_two (d ∷ (n ∷ vs)) le = refl

pub kept_few : (vs : List ℕ) → length vs < 2 → is_kept SpFromSp vs ≡ true
unfolding is_kept
kept_few [] lt = refl
kept_few (d ∷ []) lt = refl
kept_few (d ∷ (n ∷ vs)) lt = absurd (omega arith)
