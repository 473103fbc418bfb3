-- The conditions after CMP.
use Rattle.std.proofs.Common.{◌≡◌, ℕ, suc, ◌+◌, ◌-◌, ◌*◌, ◌/◌, ◌%◌, ◌<◌, ◌≤◌, Bool, true, false, cond, refl, sym, ap, ◌∙◌, arith}
use Rattle.std.specs.Prelude.{eqb, ltb, leb, not, ◌&&◌, List, [], ◌∷◌, slice_index_or, zero}
use Rattle.std.proofs.lemmas.Bool.Decides.{nat_tests}
use Rattle.v8m_mem.specs.Target.{flag}
use Rattle.ns_types.specs.Operators.{subtract, is_negative, from_least}
use Rattle.v8m_core.specs.Values.{overflows, compared, is_set, same, tested, condition_holds}
use Rattle.v8m_laws.specs.Compares.{compares}

-- a flag as a bit
abbrev bit : Bool → ℕ
bit b = cond b 1 0

flag_is : (b : Bool) (w : ℕ) → flag b w ≡ w * bit b
flag_is true w = omega arith
flag_is false w = omega arith

bit_lt : (b : Bool) → bit b < 2
bit_lt true = omega arith
bit_lt false = omega arith

is_one : (b : Bool) → eqb (bit b) 1 ≡ b
is_one true = refl
is_one false = refl

-- a sum of flags, and what is read of it
abbrev flags : (n z c v : Bool) → ℕ → ℕ
flags n z c v q = flag n 16 + flag z 8 + flag c 4 + flag v 2 + q

record AreRead (n z c v : Bool) (f : ℕ) : Type 0 where
  n_is : is_set f 16 ≡ n
  z_is : is_set f 8 ≡ z
  c_is : is_set f 4 ≡ c
  v_is : is_set f 2 ≡ v

are_read : (n z c v : Bool) (q : ℕ) → q < 2 → AreRead n z c v (flags n z c v q)
are_read n z c v q lt =
    let f : ℕ = flags n z c v q in
    let en : f / 16 % 2 ≡ bit n = omega (arith, flag_is n 16, flag_is z 8, flag_is c 4, flag_is v 2, bit_lt n, bit_lt z, bit_lt c, bit_lt v) in
    let ez : f / 8 % 2 ≡ bit z = omega (arith, flag_is n 16, flag_is z 8, flag_is c 4, flag_is v 2, bit_lt n, bit_lt z, bit_lt c, bit_lt v) in
    let ec : f / 4 % 2 ≡ bit c = omega (arith, flag_is n 16, flag_is z 8, flag_is c 4, flag_is v 2, bit_lt n, bit_lt z, bit_lt c, bit_lt v) in
    let ev : f / 2 % 2 ≡ bit v = omega (arith, flag_is n 16, flag_is z 8, flag_is c 4, flag_is v 2, bit_lt n, bit_lt z, bit_lt c, bit_lt v) in
    record {
      n_is = ap (λ x. eqb x 1) en ∙ is_one n;
      z_is = ap (λ x. eqb x 1) ez ∙ is_one z;
      c_is = ap (λ x. eqb x 1) ec ∙ is_one c;
      v_is = ap (λ x. eqb x 1) ev ∙ is_one v;
    }

-- the conditions of four flags, by their numbers
abbrev tests : (n z c v : Bool) → List Bool
tests n z c v =
    z ∷ not z ∷ c ∷ not c ∷ n ∷ not n ∷ v ∷ not v ∷ (c && not z) ∷ not (c && not z) ∷ same n v ∷ not (same n v) ∷ (same n v && not z) ∷ not (same n v && not z) ∷ []

test_is : (k : ℕ) (n z c v : Bool) → k < 14 → same (eqb (k % 2) 0) (tested (k / 2) n z c v) ≡ slice_index_or (tests n z c v) k false
test_is zero n z c v lt = refl
test_is (suc zero) n z c v lt = refl
test_is (suc (suc zero)) n z c v lt = refl
test_is (suc (suc (suc zero))) n z c v lt = refl
test_is (suc (suc (suc (suc zero)))) n z c v lt = refl
test_is (suc (suc (suc (suc (suc zero))))) n z c v lt = refl
test_is (suc (suc (suc (suc (suc (suc zero)))))) n z c v lt = refl
test_is (suc (suc (suc (suc (suc (suc (suc zero))))))) n z c v lt = refl
test_is (suc (suc (suc (suc (suc (suc (suc (suc zero)))))))) n z c v lt = refl
test_is (suc (suc (suc (suc (suc (suc (suc (suc (suc zero))))))))) n z c v lt = refl
test_is (suc (suc (suc (suc (suc (suc (suc (suc (suc (suc zero)))))))))) n z c v lt = refl
test_is (suc (suc (suc (suc (suc (suc (suc (suc (suc (suc (suc zero))))))))))) n z c v lt = refl
test_is (suc (suc (suc (suc (suc (suc (suc (suc (suc (suc (suc (suc zero)))))))))))) n z c v lt = refl
test_is (suc (suc (suc (suc (suc (suc (suc (suc (suc (suc (suc (suc (suc zero))))))))))))) n z c v lt = refl
test_is (suc (suc (suc (suc (suc (suc (suc (suc (suc (suc (suc (suc (suc (suc k)))))))))))))) n z c v lt = absurd (omega arith)

-- a condition after CMP is its test of the flags
condition_is : (k a b f : ℕ) → k < 14 → condition_holds k (compared a b f) ≡ slice_index_or (tests (is_negative (subtract a b)) (eqb (subtract a b) 0) (leb b a) (overflows a b)) k false
unfolding condition_holds compared
condition_is k a b f lt =
    let n = is_negative (subtract a b) in
    let z = eqb (subtract a b) 0 in
    let c = leb b a in
    let v = overflows a b in
    let q : ℕ = f % 2 in
    let r = are_read n z c v (f % 2) (omega arith) in
    ap (λ x. same (eqb (k % 2) 0) (tested (k / 2) x (is_set (flags n z c v q) 8) (is_set (flags n z c v q) 4) (is_set (flags n z c v q) 2))) r.n_is
    ∙ ap (λ x. same (eqb (k % 2) 0) (tested (k / 2) n x (is_set (flags n z c v q) 4) (is_set (flags n z c v q) 2))) r.z_is
    ∙ ap (λ x. same (eqb (k % 2) 0) (tested (k / 2) n z x (is_set (flags n z c v q) 2))) r.c_is
    ∙ ap (λ x. same (eqb (k % 2) 0) (tested (k / 2) n z c x)) r.v_is
    ∙ test_is k n z c v lt

-- what the flags say of two words
record OfWords (a b : ℕ) : Type 0 where
  z : eqb (subtract a b) 0 ≡ eqb a b
  c : leb b a ≡ not (ltb a b)
  lower : not (leb b a) ≡ ltb a b
  higher : (leb b a && not (eqb (subtract a b) 0)) ≡ ltb b a
  less : same (is_negative (subtract a b)) (overflows a b) ≡ not (ltb (from_least a) (from_least b))
  lesser : not (same (is_negative (subtract a b)) (overflows a b)) ≡ ltb (from_least a) (from_least b)
  greater : (same (is_negative (subtract a b)) (overflows a b) && not (eqb (subtract a b) 0)) ≡ ltb (from_least b) (from_least a)

of_words : (a b : ℕ) → a < 4294967296 → b < 4294967296 → OfWords a b
of_words a b lt_a lt_b = record {
  z = grind (arith, nat_tests);
  c = grind (arith, nat_tests);
  lower = grind (arith, nat_tests);
  higher = grind (arith, nat_tests);
  less = grind (arith, nat_tests);
  lesser = grind (arith, nat_tests);
  greater = grind (arith, nat_tests);
}

-- both lists, member by member
same_lists : (n z c v h s g eq lt gt less more : Bool) → z ≡ eq → c ≡ not lt → not c ≡ lt → h ≡ gt → s ≡ not less → not s ≡ less → g ≡ more
    → (z ∷ not z ∷ c ∷ not c ∷ n ∷ not n ∷ v ∷ not v ∷ h ∷ not h ∷ s ∷ not s ∷ g ∷ not g ∷ []) ≡ (eq ∷ not eq ∷ not lt ∷ lt ∷ n ∷ not n ∷ v ∷ not v ∷ gt ∷ not gt ∷ not less ∷ less ∷ more ∷ not more ∷ [])
same_lists n z c v h s g eq lt gt less more e1 e2 e3 e4 e5 e6 e7 = cc

-- each condition after CMP of two words
pub condition_compares : (k a b f : ℕ) → k < 14 → a < 4294967296 → b < 4294967296 → condition_holds k (compared a b f) ≡ compares k a b
condition_compares k a b f lt lt_a lt_b =
    let w = of_words a b lt_a lt_b in
    condition_is k a b f lt
    ∙ ap (λ l. slice_index_or l k false) (same_lists _ _ _ _ _ _ _ _ _ _ _ _ w.z w.c w.lower w.higher w.less w.lesser w.greater)
