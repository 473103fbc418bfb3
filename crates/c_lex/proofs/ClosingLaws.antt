-- The end of a block comment.
use Rattle.std.proofs.Common.{◌≡◌, ℕ, suc, ◌≤◌, Bool, true, false, cond, ◌&&◌, eqb, List, [], ◌∷◌, ◌++◌, length, drop, Option, Some, None, refl, sym, ap, ◌∙◌, arith}
use Rattle.std.proofs.lemmas.Bool.{eqb-true}
use Rattle.std.proofs.lemmas.List.{drop_at}
use Rattle.c_lex.specs.Tokens.{Closes}
use Rattle.c_lex.specs.Reading.{closes_here, close_at}

both : (a b : Bool) → (a && b) ≡ true → (a ≡ true) × (b ≡ true)
both true b e = (refl, e)
both false b e = absurd cc

here : (a : ℕ) (r : List ℕ) → closes_here (a ∷ r) ≡ true → a ∷ r ≡ 42 ∷ 47 ∷ drop 1 r
here a [] e = absurd cc
here a (b ∷ r) e = let k = both (eqb a 42) (eqb b 47) e in let p = eqb-true a 42 k.0 in let q = eqb-true b 47 k.1 in cc

same_some : (x y : List ℕ) → Some x ≡ Some y → x ≡ y
same_some x y e = cc

pub close_some : (text rest : List ℕ) → close_at text ≡ Some rest → (x : List ℕ) × Closes x rest text
unfolding close_at
close_some [] rest e = absurd cc
close_some (a ∷ r) rest e = go (λ q k. close_some r q k) (closes_here (a ∷ r)) refl e
  where
    later : (f : (x : List ℕ) × Closes x rest r) → closes_here (a ∷ r) ≡ false → (y s : List ℕ) → a ∷ r ≡ y ++ (42 ∷ 47 ∷ s) → suc (length f.0) ≤ length y
    later f h [] s k = absurd (let t : closes_here (a ∷ r) ≡ true = ap closes_here k in cc)
    later f h (c ∷ y) s k = let t : r ≡ y ++ (42 ∷ 47 ∷ s) = cc in let u = f.1.first y s t in omega arith

    go : ((q : List ℕ) → close_at r ≡ Some q → (x : List ℕ) × Closes x q r) → (c : Bool) → closes_here (a ∷ r) ≡ c → cond c (Some (drop 1 r)) (close_at r) ≡ Some rest → (x : List ℕ) × Closes x rest (a ∷ r)
    go ih true h k = ([], record { parts = here a r h ∙ ap (λ (t : List ℕ). 42 ∷ 47 ∷ t) (same_some (drop 1 r) rest k); first = λ x s q. omega arith })
    go ih false h k = let f = ih rest k in (a ∷ f.0, record { parts = ap (λ (t : List ℕ). a ∷ t) f.1.parts; first = later f h })

pub close_exists : (x r : List ℕ) → close_at (x ++ (42 ∷ 47 ∷ r)) ≡ None → ⊥
unfolding close_at
close_exists [] r e = absurd cc
close_exists (a ∷ x) r e = go (λ k. close_exists x r k) (closes_here (a ∷ (x ++ (42 ∷ 47 ∷ r)))) e
  where
    go : (close_at (x ++ (42 ∷ 47 ∷ r)) ≡ None → ⊥) → (c : Bool) → cond c (Some (drop 1 (x ++ (42 ∷ 47 ∷ r)))) (close_at (x ++ (42 ∷ 47 ∷ r))) ≡ None → ⊥
    go ih true k = absurd cc
    go ih false k = ih k

pub close_none : (text : List ℕ) → close_at text ≡ None → (x r : List ℕ) → text ≡ x ++ (42 ∷ 47 ∷ r) → ⊥
close_none text e x r h = close_exists x r (ap close_at (sym h) ∙ e)

tails : (x y p q : List ℕ) → length x ≡ length y → x ++ (42 ∷ 47 ∷ p) ≡ y ++ (42 ∷ 47 ∷ q) → p ≡ q
tails x y p q n e =
    let a = drop_at x (42 ∷ 47 ∷ p) (length x) refl in
    let b = drop_at y (42 ∷ 47 ∷ q) (length x) (sym n) in
    let k : 42 ∷ 47 ∷ p ≡ 42 ∷ 47 ∷ q = sym a ∙ ap (drop (length x)) e ∙ b in cc

pub close_again : (x rest text : List ℕ) → Closes x rest text → close_at text ≡ Some rest
close_again x rest text c = go (close_at text) refl
  where
    go : (o : Option (List ℕ)) → close_at text ≡ o → o ≡ Some rest
    go None e = absurd (close_none text e x rest c.parts)
    go (Some r) e =
        let f = close_some text r e in
        let a = c.first f.0 r f.1.parts in
        let b = f.1.first x rest c.parts in
        let n : length f.0 ≡ length x = omega arith in
        ap (λ (t : List ℕ). Some t) (tails f.0 x r rest n (sym f.1.parts ∙ c.parts))

pub close_open : (text : List ℕ) → ((x r : List ℕ) → text ≡ x ++ (42 ∷ 47 ∷ r) → ⊥) → close_at text ≡ None
close_open text h = go (close_at text) refl
  where
    go : (o : Option (List ℕ)) → close_at text ≡ o → o ≡ None
    go None e = refl
    go (Some r) e = let f = close_some text r e in absurd (h f.0 r f.1.parts)
