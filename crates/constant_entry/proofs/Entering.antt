-- A caller enters at the first veneer, and nowhere else.
use Rattle.std.proofs.Common.{◌≡◌, ℕ, Bool, true, false, cond, List, [], ◌∷◌, refl, sym, ap, subst, Option, Some, None}
use Rattle.std.specs.Prelude.{eqb, option_and_then}
use Rattle.std.proofs.Math.Path.{fun_ext}
use Rattle.std.proofs.lemmas.Slice.Eq.{bytes_eq-Decides}
use Rattle.ns_types.specs.Veneers.{place_of}
use Rattle.constant_entry.specs.Code.{first_veneer}
use Rattle.constant_entry.specs.Meaning.{enters_one}

abbrev pub enters_first : ℕ → Option ℕ
enters_first a = cond (eqb a first_veneer) (Some 0) None

enters_at : (name : List ℕ) (a : ℕ) → enters_one name a ≡ enters_first a
enters_at name a = pick (eqb a first_veneer)
  where
    pick : (b : Bool) → option_and_then (λ x. place_of (name ∷ []) x) (cond b (Some name) None) ≡ cond b (Some 0) None
    pick true = ap (λ b. cond b (Some 0) None) ((bytes_eq-Decides name name).1 refl)
    pick false = refl

enters_is : (name : List ℕ) → enters_one name ≡ enters_first
enters_is name = fun_ext (enters_at name)

-- so it is whatever the entry's name is
pub by_first : (name : List ℕ) (P : (ℕ → Option ℕ) → Type 0) → P enters_first → P (enters_one name)
by_first name P h = subst P (sym (enters_is name)) h
