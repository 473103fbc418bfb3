-- Looking for the end of a comment, as a loop does.
use Rattle.std.proofs.Common.{◌≡◌, ℕ, zero, suc, ◌+◌, ◌<◌, ◌≤◌, true, false, List, [], ◌∷◌, length, drop, get_or, Option, Some, None, refl, sym, ap, ◌∙◌, arith}
use Rattle.std.proofs.lemmas.List.{drop_more}
use Rattle.c_lex.specs.Reading.{closes_here, close_at}

found_here : (a : ℕ) (r : List ℕ) → closes_here (a ∷ r) ≡ true → close_at (a ∷ r) ≡ Some (drop 1 r)
unfolding close_at
found_here a r e = rw e refl

not_here : (a : ℕ) (r : List ℕ) → closes_here (a ∷ r) ≡ false → close_at (a ∷ r) ≡ close_at r
unfolding close_at
not_here a r e = rw e refl

pub close_found : (xs : List ℕ) (i : ℕ) (total : Option (List ℕ)) → i < length xs → closes_here (drop i xs) ≡ true → close_at (drop i xs) ≡ total → total ≡ Some (drop 2 (drop i xs))
close_found xs i total lt e h =
    let d = drop_more xs i 0 lt in
    let here : closes_here (get_or xs i 0 ∷ drop (i + 1) xs) ≡ true = ap closes_here (sym d) ∙ e in
    sym h ∙ ap close_at d ∙ found_here (get_or xs i 0) (drop (i + 1) xs) here ∙ ap (λ (t : List ℕ). Some (drop 2 t)) (sym d)

pub close_next : (xs : List ℕ) (i : ℕ) (total : Option (List ℕ)) → i < length xs → closes_here (drop i xs) ≡ false → close_at (drop i xs) ≡ total → close_at (drop (i + 1) xs) ≡ total
close_next xs i total lt e h =
    let d = drop_more xs i 0 lt in
    let here : closes_here (get_or xs i 0 ∷ drop (i + 1) xs) ≡ false = ap closes_here (sym d) ∙ e in
    sym (not_here (get_or xs i 0) (drop (i + 1) xs) here) ∙ ap close_at (sym d) ∙ h

pub close_end : (xs : List ℕ) (i : ℕ) (total : Option (List ℕ)) → length xs ≤ i → close_at (drop i xs) ≡ total → total ≡ None
unfolding close_at
close_end [] zero total le h = sym h
close_end [] (suc i) total le h = sym h
close_end (x ∷ xs) zero total le h = absurd (omega arith)
close_end (x ∷ xs) (suc i) total le h = close_end xs i total (omega arith) h

pub ruleset closing = (close_found, close_next, close_end)
