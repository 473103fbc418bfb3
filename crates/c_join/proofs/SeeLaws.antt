-- One more definition that is seen.
use Rattle.std.proofs.Common.{◌≡◌, ℕ, ◌+◌, ◌<◌, Bool, cond, List, [], ◌∷◌, ◌++◌, length, drop, Option, slice_index_or, append_assoc, sym, ap, ap₂, ◌∙◌}
use Rattle.std.proofs.lemmas.List.{at_drop_more}
use Rattle.c_tree.specs.declared.program.Extern.{Extern}
use Rattle.c_tree.specs.declared.program.TFunction.{TFunction}
use Rattle.c_tree.specs.declared.program.TGlobal.{TGlobal}
use Rattle.c_tree.specs.Conditions.{TUnit, declared}
use Rattle.join_laws.specs.Uses.{Named, functions_uses, noted}
use Rattle.join_laws.specs.Keys.{Key, is_static, key_of, numbers_of, per_unit}
use Rattle.join_laws.specs.Joined.{Seen, undefined_from, see_function, see_functions, see_global, see_globals}

key_is : (n : ℕ) (externs : List Extern) (scope : ℕ) (static : Bool) (name other : List ℕ) → name ≡ other → static ≡ is_static (declared externs name) → scope ≡ cond static (n + 1) 0 → (scope, name) ≡ key_of n externs other
key_is n externs scope static name other nm st sc =
    ap₂ (λ s m. (s, m)) (sc ∙ ap (λ b. cond b (n + 1) 0) (st ∙ ap (λ m. is_static (declared externs m)) nm)) nm

module _ (n : ℕ) (externs : List Extern) (start old new : Seen) (i scope : ℕ) (static : Bool) (name : List ℕ) where
  pub functions_more : (fs : List TFunction) (f : TFunction) → i < length fs → f ≡ slice_index_or fs i f → name ≡ f.name → static ≡ is_static (declared externs name) → scope ≡ cond static (n + 1) 0
      → new ≡ see_function old (scope, name) f.place → see_functions n externs old (drop i fs) ≡ see_functions n externs start fs → see_functions n externs new (drop (i + 1) fs) ≡ see_functions n externs start fs
  functions_more fs f lt is nm st sc made inv =
      let next : new ≡ see_function old (key_of n externs f.name) f.place = made ∙ ap (λ k. see_function old k f.place) (key_is n externs scope static name f.name nm st sc) in
      let here : see_functions n externs old (drop i fs) ≡ see_functions n externs old (f ∷ drop (i + 1) fs) = at_drop_more (see_functions n externs old) fs i f lt ∙ ap (λ z. see_functions n externs old (z ∷ drop (i + 1) fs)) (sym is) in
      ap (λ s. see_functions n externs s (drop (i + 1) fs)) next ∙ (sym here ∙ inv)

  pub globals_more : (gs : List TGlobal) (g : TGlobal) → i < length gs → g ≡ slice_index_or gs i g → name ≡ g.name → static ≡ is_static (declared externs name) → scope ≡ cond static (n + 1) 0
      → new ≡ see_global old (scope, name) g.place → see_globals n externs old (drop i gs) ≡ see_globals n externs start gs → see_globals n externs new (drop (i + 1) gs) ≡ see_globals n externs start gs
  globals_more gs g lt is nm st sc made inv =
      let next : new ≡ see_global old (key_of n externs g.name) g.place = made ∙ ap (λ k. see_global old k g.place) (key_is n externs scope static name g.name nm st sc) in
      let here : see_globals n externs old (drop i gs) ≡ see_globals n externs old (g ∷ drop (i + 1) gs) = at_drop_more (see_globals n externs old) gs i g lt ∙ ap (λ z. see_globals n externs old (z ∷ drop (i + 1) gs)) (sym is) in
      ap (λ s. see_globals n externs s (drop (i + 1) gs)) next ∙ (sym here ∙ inv)

-- one more unit
pub units_more : {B : Type 0} (f : ℕ → TUnit → List B) (us : List TUnit) (i : ℕ) (u : TUnit) (done new more all : List B) → i < length us → u ≡ slice_index_or us i u → new ≡ done ++ more → more ≡ f i u
    → done ++ per_unit f i (drop i us) ≡ all → new ++ per_unit f (i + 1) (drop (i + 1) us) ≡ all
units_more f us i u done new more all lt is made part inv =
    let here : per_unit f i (drop i us) ≡ per_unit f i (u ∷ drop (i + 1) us) = at_drop_more (per_unit f i) us i u lt ∙ ap (λ z. per_unit f i (z ∷ drop (i + 1) us)) (sym is) in
    ap (λ l. l ++ per_unit f (i + 1) (drop (i + 1) us)) made
    ∙ (append_assoc done more (per_unit f (i + 1) (drop (i + 1) us))
    ∙ (ap (λ m. done ++ (m ++ per_unit f (i + 1) (drop (i + 1) us))) part
    ∙ (ap (λ l. done ++ l) (sym here) ∙ inv)))

-- the uses of one more unit
pub undefined_more : (fk gk : List Key) (us : List TUnit) (i : ℕ) (u : TUnit) (old new all : Option Named) (numbers : List (Option ℕ)) (externs : List Extern) (fs : List TFunction) → i < length us → u ≡ slice_index_or us i u
    → externs ≡ u.externs → fs ≡ u.functions → numbers ≡ numbers_of fk gk i externs → new ≡ noted numbers externs old (functions_uses fs)
    → undefined_from fk gk i old (drop i us) ≡ all → undefined_from fk gk (i + 1) new (drop (i + 1) us) ≡ all
undefined_more fk gk us i u old new all numbers externs fs lt is ex fu num made inv =
    let here : undefined_from fk gk i old (drop i us) ≡ undefined_from fk gk i old (u ∷ drop (i + 1) us) = at_drop_more (undefined_from fk gk i old) us i u lt ∙ ap (λ z. undefined_from fk gk i old (z ∷ drop (i + 1) us)) (sym is) in
    let next : new ≡ noted (numbers_of fk gk i u.externs) u.externs old (functions_uses u.functions) = made
    ∙ (ap (λ ns. noted ns externs old (functions_uses fs)) num
    ∙ (ap (λ es. noted (numbers_of fk gk i es) es old (functions_uses fs)) ex
    ∙ ap (λ hs. noted (numbers_of fk gk i u.externs) u.externs old (functions_uses hs)) fu)) in
    ap (λ b. undefined_from fk gk (i + 1) b (drop (i + 1) us)) next ∙ (sym here ∙ inv)
