-- How far a place moves.
use Rattle.std.proofs.Common.{◌≡◌, ℕ, ◌+◌, ◌≤◌, Bool, true, false, cond, eqb, List, [], ◌∷◌, ◌++◌, length, drop, get_or, ◌<◌, refl, sym, ap, ◌∙◌, arith}
use Rattle.std.proofs.lemmas.List.{drop_more}
use Rattle.c_lex.specs.declared.spot.Spot.{Spot}
use Rattle.c_lex.specs.Spot.{past, after}

chosen_line : (t : Bool) (p q : Spot) (n : ℕ) → p.line ≤ n → q.line ≤ n → (cond t p q).line ≤ n
chosen_line true p q n h k = h
chosen_line false p q n h k = k

chosen_col : (t : Bool) (p q : Spot) (n : ℕ) → p.col ≤ n → q.col ≤ n → (cond t p q).col ≤ n
chosen_col true p q n h k = h
chosen_col false p q n h k = k

pub past-line : (p : Spot) (b : ℕ) → (past p b).line ≤ p.line + 1
unfolding past
past-line p b = chosen_line (eqb b 10) _ _ (p.line + 1) (omega arith) (omega arith)

pub past-col : (p : Spot) (b : ℕ) → (past p b).col ≤ p.col + 1
unfolding past
past-col p b = chosen_col (eqb b 10) _ _ (p.col + 1) (omega arith) (omega arith)

pub after-line : (p : Spot) (bs : List ℕ) → (after p bs).line ≤ p.line + length bs
after-line p [] = omega arith
after-line p (b ∷ bs) = omega (arith, after-line (past p b) bs, past-line p b)

pub after-col : (p : Spot) (bs : List ℕ) → (after p bs).col ≤ p.col + length bs
after-col p [] = omega arith
after-col p (b ∷ bs) = omega (arith, after-col (past p b) bs, past-col p b)

pub after-append : (p : Spot) (a b : List ℕ) → after p (a ++ b) ≡ after (after p a) b
after-append p [] b = refl
after-append p (x ∷ a) b = after-append (past p x) a b

pub after_more : (p : Spot) (xs : List ℕ) (i : ℕ) (q : Spot) → i < length xs → after p (drop i xs) ≡ q → after (past p (get_or xs i 0)) (drop (i + 1) xs) ≡ q
after_more p xs i q lt h = ap (after p) (sym (drop_more xs i 0 lt)) ∙ h

-- for the tactics
pub ruleset spots = (past-line, past-col)
