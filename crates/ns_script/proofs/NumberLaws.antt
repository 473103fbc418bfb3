-- Numbers and bytes, digit by digit.
use Rattle.std.proofs.Common.{◌≡◌, ℕ, ◌+◌, ◌*◌, ◌^◌, ◌<◌, ◌≤◌, ◌==◌, Bool, true, false, List, [], ◌∷◌, ◌++◌, length, drop, get_or, Option, Some, None, refl, sym, ap, ◌∙◌, append_assoc, add-one, arith}
use Rattle.std.proofs.lemmas.Bool.Decides.{nat_tests}
use Rattle.std.specs.Option.{option_and_then, option_map}
use Rattle.std.proofs.Math.Nat.{pow-le-pow_right, pow-suc}
use Rattle.std.proofs.lemmas.List.{drop_more, drop_all, append-nil}
use Rattle.ns_script.specs.Text.{digit, number_after, byte_in, pairs}

pub digits_next : (n d : ℕ) (w : List ℕ) (i : ℕ) (r : Option ℕ) → i < length w → digit (get_or w i 0) ≡ Some d → number_after n (drop i w) ≡ r → number_after (16 * n + d) (drop (i + 1) w) ≡ r
digits_next n d w i r lt e h =
    sym (ap (λ o. option_and_then (λ x. number_after (16 * n + x) (drop (i + 1) w)) o) e)
    ∙ ap (number_after n) (sym (drop_more w i 0 lt)) ∙ h

pub digits_bad : (n : ℕ) (w : List ℕ) (i : ℕ) (r : Option ℕ) → i < length w → digit (get_or w i 0) ≡ None → number_after n (drop i w) ≡ r → None ≡ r
digits_bad n w i r lt e h =
    sym (ap (λ o. option_and_then (λ x. number_after (16 * n + x) (drop (i + 1) w)) o) e)
    ∙ ap (number_after n) (sym (drop_more w i 0 lt)) ∙ h

pub digits_end : (n : ℕ) (w : List ℕ) (i : ℕ) (r : Option ℕ) → length w ≤ i → number_after n (drop i w) ≡ r → Some n ≡ r
digits_end n w i r le h = ap (number_after n) (sym (drop_all i w le)) ∙ h

pub digits_fit : (n d i : ℕ) → n < 16 ^ i → i < 8 → d < 16 → 16 * n + d < 4294967296
digits_fit n d i h lt small =
    let p : 16 ^ i ≤ 16 ^ 7 = pow-le-pow_right {n = 16} (omega arith) {i = i} {j = 7} (omega arith) in
    let q : 16 ^ i ≤ 268435456 = p in omega arith

pub digits_room : (n i : ℕ) → n < 16 ^ i → i < 8 → 16 * n < 4294967296
digits_room n i h lt = omega (arith, digits_fit n 0 i h lt (omega arith))

-- a test for emptiness
pub empty_yes : (n : ℕ) (b : Bool) → b ≡ (n == 0) → b ≡ true → n ≡ 0
empty_yes n b e f = grind (arith, nat_tests)

pub empty_no : (n : ℕ) (b : Bool) → b ≡ (n == 0) → b ≡ false → 0 < n
empty_no n b e f = grind (arith, nat_tests)

pub digits_grow : (n d i : ℕ) → n < 16 ^ i → d < 16 → 16 * n + d < 16 ^ (i + 1)
digits_grow n d i h small = rw add-one (omega (arith, pow-suc 16 i))

-- found, and then what pairs say
unfoldable pub onto : List ℕ → Option (List ℕ) → Option (List ℕ)
onto found o = option_map (λ more. found ++ more) o

pairs_cons : (w : List ℕ) → 2 ≤ length w → pairs w ≡ option_and_then (λ byte. option_and_then (λ more. Some (byte ∷ more)) (pairs (drop 2 w))) (byte_in (get_or w 0 0) (get_or w 1 0))
pairs_cons [] h = absurd (omega arith)
pairs_cons (a ∷ []) h = absurd (omega arith)
pairs_cons (a ∷ b ∷ cs) h = refl

onto_more : (found : List ℕ) (byte : ℕ) (o : Option (List ℕ)) → onto (found ++ byte ∷ []) o ≡ onto found (option_and_then (λ more. Some (byte ∷ more)) o)
unfolding onto
onto_more found byte None = refl
onto_more found byte (Some more) = ap Some (append_assoc found (byte ∷ []) more)

pub pairs_next : (found : List ℕ) (byte : ℕ) (w : List ℕ) (r : Option (List ℕ)) → 2 ≤ length w → byte_in (get_or w 0 0) (get_or w 1 0) ≡ Some byte → onto found (pairs w) ≡ r → onto (found ++ byte ∷ []) (pairs (drop 2 w)) ≡ r
pairs_next found byte w r long e h =
    onto_more found byte (pairs (drop 2 w))
    ∙ ap (onto found) (sym (pairs_cons w long ∙ ap (option_and_then (λ byte. option_and_then (λ more. Some (byte ∷ more)) (pairs (drop 2 w)))) e)) ∙ h

pub pairs_bad : (found : List ℕ) (w : List ℕ) (r : Option (List ℕ)) → 2 ≤ length w → byte_in (get_or w 0 0) (get_or w 1 0) ≡ None → onto found (pairs w) ≡ r → None ≡ r
unfolding onto
pairs_bad found w r long e h =
    ap (onto found) (sym (pairs_cons w long ∙ ap (option_and_then (λ byte. option_and_then (λ more. Some (byte ∷ more)) (pairs (drop 2 w)))) e)) ∙ h

pub pairs_end : (found : List ℕ) (w : List ℕ) (r : Option (List ℕ)) → length w ≡ 0 → onto found (pairs w) ≡ r → Some found ≡ r
unfolding onto
pairs_end found [] r e h = ap Some (sym (append-nil found)) ∙ h
pairs_end found (x ∷ xs) r e h = absurd (omega arith)

pub pairs_odd : (found : List ℕ) (w : List ℕ) (r : Option (List ℕ)) → length w < 2 → 0 < length w → onto found (pairs w) ≡ r → None ≡ r
unfolding onto
pairs_odd found [] r short full h = absurd (omega arith)
pairs_odd found (x ∷ []) r short full h = h
pairs_odd found (x ∷ y ∷ ys) r short full h = absurd (omega arith)

pub onto_none : (o : Option (List ℕ)) → onto [] o ≡ o
unfolding onto
onto_none None = refl
onto_none (Some more) = refl

pub ruleset numbers = (digits_next, digits_bad, digits_end, digits_fit, digits_room, digits_grow)

pub ruleset many = (pairs_next, pairs_bad, pairs_end, pairs_odd, onto_none)
