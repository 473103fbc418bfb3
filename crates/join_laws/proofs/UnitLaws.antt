-- What follows where no fault is found.
use Rattle.std.proofs.Common.{◌≡◌, ℕ, ◌+◌, Bool, true, false, not, ◌&&◌, cond, List, [], ◌∷◌, ◌++◌, ap₂, sym, refl, Option, None, Some, true≢false}
use Rattle.std.specs.List.{list_all}
use Rattle.std.specs.Option.{option_or}
use Rattle.c_tree.specs.declared.program.Extern.{Extern}
use Rattle.c_tree.specs.Conditions.{TUnit}
use Rattle.join_laws.specs.Keys.{Key, numbers_of}
use Rattle.join_laws.specs.Joined.{disputed, first_disputed, is_disputed, undefined_from}
use Rattle.join_laws.specs.Uses.{Named, Use, all_defined, earlier, functions_uses, is_before, is_defined, note, noted}

-- ---- uses

never : (best : Option Named) (x : Named) → earlier best x ≡ None → false ≡ true
never None x h = cc
never (Some b) x h = by (is_before x.place b.place) h
  where
    by : (t : Bool) → cond t (Some x) (Some b) ≡ None → false ≡ true
    by true h = cc
    by false h = cc

pub record Fine (ns : List (Option ℕ)) (best : Option Named) (xs : List Use) : Type 0 where
  pub before : best ≡ None
  pub here : all_defined ns xs ≡ true

noted_by : (ns : List (Option ℕ)) (best : Option Named) (name : Named) (x : Use) (xs : List Use) (b : Bool) → is_defined ns x.number ≡ b → cond b best (earlier best name) ≡ None → all_defined ns xs ≡ true → Fine ns best (x ∷ xs)
noted_by ns best name x xs true is h rest = record { before = h; here = ap₂ (λ p q. p && q) is rest }
noted_by ns best name x xs false is h rest = absurd (true≢false (sym (never best name h)))

pub noted_none : (ns : List (Option ℕ)) (externs : List Extern) (best : Option Named) (xs : List Use) → noted ns externs best xs ≡ None → Fine ns best xs
noted_none ns externs best [] h = record { before = h; here = refl }
noted_none ns externs best (x ∷ xs) h =
    let rest = noted_none ns externs (note ns externs best x) xs h in
    noted_by ns best _ x xs (is_defined ns x.number) refl rest.before rest.here

-- each unit's uses are defined
abbrev pub Defined : List Key → List Key → ℕ → List TUnit → Type 0
Defined functions globals n [] = Unit {0}
Defined functions globals n (u ∷ us) = (all_defined (numbers_of functions globals n u.externs) (functions_uses u.functions) ≡ true) × Defined functions globals (n + 1) us

pub undefined_none : (functions globals : List Key) (n : ℕ) (best : Option Named) (us : List TUnit) → undefined_from functions globals n best us ≡ None → (best ≡ None) × Defined functions globals n us
undefined_none functions globals n best [] h = (h, tt)
undefined_none functions globals n best (u ∷ us) h =
    let rest = undefined_none functions globals (n + 1) (noted (numbers_of functions globals n u.externs) u.externs best (functions_uses u.functions)) us h in
    let here = noted_none (numbers_of functions globals n u.externs) u.externs best (functions_uses u.functions) rest.0 in
    (here.before, (here.here, rest.1))

-- ---- types

or_none : {A : Type 0} (p q : Option A) → option_or p q ≡ None → (p ≡ None) × (q ≡ None)
or_none None q h = (refl, h)
or_none (Some x) q h = cc

-- no extern of these is disputed
abbrev pub Agreed : List TUnit → List Extern → Type 0
Agreed before xs = list_all (λ x. not (is_disputed before x)) xs ≡ true

agreed_by : (before : List TUnit) (x : Extern) (xs : List Extern) (b : Bool) → is_disputed before x ≡ b → cond b (Some x.name) (first_disputed before xs) ≡ None → (first_disputed before xs ≡ None → Agreed before xs) → Agreed before (x ∷ xs)
agreed_by before x xs true is h rest = cc
agreed_by before x xs false is h rest = ap₂ (λ p q. not p && q) is (rest h)

first_none : (before : List TUnit) (xs : List Extern) → first_disputed before xs ≡ None → Agreed before xs
first_none before [] h = refl
first_none before (x ∷ xs) h = agreed_by before x xs (is_disputed before x) refl h (first_none before xs)

-- each unit agrees with those before it
abbrev pub AllAgree : List TUnit → List TUnit → Type 0
AllAgree before [] = Unit {0}
AllAgree before (u ∷ us) = Agreed before u.externs × AllAgree (before ++ u ∷ []) us

pub disputed_none : (before us : List TUnit) → disputed before us ≡ None → AllAgree before us
disputed_none before [] h = tt
disputed_none before (u ∷ us) h =
    let both = or_none (first_disputed before u.externs) (disputed (before ++ u ∷ []) us) h in
    (first_none before u.externs both.0, disputed_none (before ++ u ∷ []) us both.1)
