-- Numbers, digit by digit.
use Rattle.std.proofs.Common.{◌≡◌, ℕ, ◌+◌, ◌*◌, ◌^◌, ◌<◌, ◌≤◌, List, length, drop, get_or, Option, Some, None, sym, ap, ◌∙◌, add-one, arith}
use Rattle.std.specs.Option.{option_and_then}
use Rattle.std.proofs.Math.Nat.{pow-le-pow_right, pow-suc}
use Rattle.std.proofs.lemmas.List.{drop_more, drop_all}
use Rattle.cmse.specs.Words.{digit, number_after}

pub digits_next : (n d : ℕ) (w : List ℕ) (i : ℕ) (r : Option ℕ) → i < length w → digit (get_or w i 0) ≡ Some d → number_after n (drop i w) ≡ r → number_after (10 * n + d) (drop (i + 1) w) ≡ r
digits_next n d w i r lt e h =
    sym (ap (λ o. option_and_then (λ x. number_after (10 * n + x) (drop (i + 1) w)) o) e)
    ∙ ap (number_after n) (sym (drop_more w i 0 lt)) ∙ h

pub digits_bad : (n : ℕ) (w : List ℕ) (i : ℕ) (r : Option ℕ) → i < length w → digit (get_or w i 0) ≡ None → number_after n (drop i w) ≡ r → None ≡ r
digits_bad n w i r lt e h =
    sym (ap (λ o. option_and_then (λ x. number_after (10 * n + x) (drop (i + 1) w)) o) e)
    ∙ ap (number_after n) (sym (drop_more w i 0 lt)) ∙ h

pub digits_end : (n : ℕ) (w : List ℕ) (i : ℕ) (r : Option ℕ) → length w ≤ i → number_after n (drop i w) ≡ r → Some n ≡ r
digits_end n w i r le h = ap (number_after n) (sym (drop_all i w le)) ∙ h

pub digits_fit : (n d i : ℕ) → n < 10 ^ i → i < 10 → d < 10 → 10 * n + d < 18446744073709551616
digits_fit n d i h lt small =
    let p : 10 ^ i ≤ 10 ^ 9 = pow-le-pow_right {n = 10} (omega arith) {i = i} {j = 9} (omega arith) in
    let q : 10 ^ i ≤ 1000000000 = p in omega arith

pub digits_room : (n i : ℕ) → n < 10 ^ i → i < 10 → 10 * n < 18446744073709551616
digits_room n i h lt = omega (arith, digits_fit n 0 i h lt (omega arith))

pub digits_grow : (n d i : ℕ) → n < 10 ^ i → d < 10 → 10 * n + d < 10 ^ (i + 1)
digits_grow n d i h small = rw add-one (omega (arith, pow-suc 10 i))

pub ruleset numbers = (digits_next, digits_bad, digits_end, digits_fit, digits_room, digits_grow)
