-- First values of parameters, one after another.
use Rattle.std.proofs.Common.{◌≡◌, ℕ, zero, suc, ◌+◌, Bool, List, [], ◌∷◌, ◌++◌, append_assoc, drop, length, slice_get, refl, ap, add-one, ◌∙◌, sym}
use Rattle.std.specs.Prelude.{replicate}
use Rattle.c_tree.specs.declared.program.TLocal.{TLocal}
use Rattle.c_mean.specs.Calls.{parameters}
use Rattle.c_world.specs.Changes.{parameter, zeros}

parameter_next : (entry : Bool) (x : TLocal) (xs : List TLocal) (args : List ℕ) (i : ℕ)
    → parameters entry (x ∷ xs) (drop i args) ≡ parameter entry x (slice_get args i) ∷ parameters entry xs (drop (suc i) args)
parameter_next entry x xs [] zero = refl
parameter_next entry x xs [] (suc i) = refl
parameter_next entry x xs (a ∷ args) zero = refl
parameter_next entry x xs (a ∷ args) (suc i) = parameter_next entry x xs args i

pub parameter_step : (entry : Bool) (x : TLocal) (xs : List TLocal) (args : List ℕ) (i : ℕ)
    → parameters entry (x ∷ xs) (drop i args) ≡ parameter entry x (slice_get args i) ∷ parameters entry xs (drop (i + 1) args)
parameter_step entry x xs args i =
    parameter_next entry x xs args i ∙ ap (λ (k : ℕ). parameter entry x (slice_get args i) ∷ parameters entry xs (drop k args)) (sym (add-one i))

-- one parameter more
pub parameter_pushed : (entry : Bool) (x : TLocal) (ps : List TLocal) (args : List ℕ) (i n v : ℕ) (list new all : List ℕ)
    → drop i ps ≡ x ∷ drop (i + 1) ps → n ≡ i → v ≡ parameter entry x (slice_get args n) → new ≡ list ++ v ∷ []
    → list ++ parameters entry (drop i ps) (drop i args) ≡ all → new ++ parameters entry (drop (i + 1) ps) (drop (i + 1) args) ≡ all
parameter_pushed entry x ps args i n v list new all next here is pushed so_far =
    ap (λ (l : List ℕ). l ++ parameters entry (drop (i + 1) ps) (drop (i + 1) args)) pushed
    ∙ append_assoc list (v ∷ []) (parameters entry (drop (i + 1) ps) (drop (i + 1) args))
    ∙ ap (λ (y : ℕ). list ++ y ∷ parameters entry (drop (i + 1) ps) (drop (i + 1) args)) (is ∙ ap (λ (k : ℕ). parameter entry x (slice_get args k)) here)
    ∙ ap (λ (l : List ℕ). list ++ l) (sym (parameter_step entry x (drop (i + 1) ps) args i))
    ∙ ap (λ (xs : List TLocal). list ++ parameters entry xs (drop i args)) (sym next)
    ∙ so_far

-- 0 for each local
pub zeros_are : (xs : List TLocal) → replicate (length xs) 0 ≡ zeros xs
zeros_are [] = refl
zeros_are (x ∷ xs) = ap (λ (l : List ℕ). 0 ∷ l) (zeros_are xs)
