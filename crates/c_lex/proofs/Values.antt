-- The value of digits.
use Rattle.std.proofs.Common.{◌≡◌, ℕ, zero, suc, ◌+◌, ◌*◌, ◌≤◌, ◌<◌, List, [], ◌∷◌, length, drop, get_or, sym, ap, ◌∙◌, arith}
use Rattle.std.proofs.lemmas.List.{drop_more}
use Rattle.c_lex.specs.Classes.{digit_value}
use Rattle.c_lex.specs.Spelling.{value_from}

times : (v base : ℕ) → 1 ≤ base → v ≤ v * base
times v base h = grind arith

pub value_grows : (base v : ℕ) (ds : List ℕ) → 1 ≤ base → v ≤ value_from base v ds
value_grows base v [] h = omega arith
value_grows base v (d ∷ ds) h = omega (arith, value_grows base (v * base + digit_value d) ds h, times v base h)

pub value_more : (base v : ℕ) (xs : List ℕ) (i n : ℕ) → i < length xs → value_from base v (drop i xs) ≡ n → value_from base (v * base + digit_value (get_or xs i 0)) (drop (i + 1) xs) ≡ n
value_more base v xs i n lt h = ap (value_from base v) (sym (drop_more xs i 0 lt)) ∙ h

pub value_large : (base v : ℕ) (xs : List ℕ) (i n : ℕ) → 1 ≤ base → i < length xs → value_from base v (drop i xs) ≡ n → v * base + digit_value (get_or xs i 0) ≤ n
value_large base v xs i n b lt h = omega (arith, value_more base v xs i n lt h, value_grows base (v * base + digit_value (get_or xs i 0)) (drop (i + 1) xs) b)

pub value_done : (base v : ℕ) (xs : List ℕ) (i n : ℕ) → length xs ≤ i → value_from base v (drop i xs) ≡ n → v ≡ n
value_done base v [] zero n le h = h
value_done base v [] (suc i) n le h = h
value_done base v (x ∷ xs) zero n le h = absurd (omega arith)
value_done base v (x ∷ xs) (suc i) n le h = value_done base v xs i n (omega arith) h

-- for the tactics
pub ruleset values = (value_more, value_large, value_done)
