-- The functions of a program, each with the unit that defines it.
use Rattle.std.proofs.Common.{◌≡◌, ℕ, suc, ◌+◌, ◌&&◌, Bool, true, false, List, [], ◌∷◌, ◌++◌, map, slice_get, All, ap, ap₂, sym, ◌∙◌, refl, Option, Some, arith, IsTrue}
use Rattle.std.proofs.lemmas.List.{map-append}
use Rattle.std.proofs.lemmas.List.Elements.{All-append, All-cons, All-head, All-map, All-nil, All-tail}
use Rattle.c_tree.specs.declared.program.TFunction.{TFunction}
use Rattle.c_tree.specs.Conditions.{IsFunction, IsUnit, TUnit, function_declared}
use Rattle.c_tree.specs.Numbers.{names_of_unit}
use Rattle.join_laws.specs.Keys.{Key, per_unit, numbers_of}
use Rattle.join_laws.specs.Joined.{Numbered}
use Rattle.join_laws.specs.Uses.{all_defined, functions_uses, is_defined, stmt_uses}
use Rattle.join_laws.proofs.InRange.{all_append}
use Rattle.join_laws.proofs.UnitLaws.{Defined}

-- a function, its unit and the number of that
pub record Member : Type 0 where
  pub number : ℕ
  pub unit : TUnit
  pub function : TFunction

abbrev pub members_of : ℕ → TUnit → List Member
members_of n u = map (λ f. record { number = n; unit = u; function = f }) u.functions

abbrev pub members : ℕ → List TUnit → List Member
members n us = per_unit members_of n us

map_map : {A B C : Type 0} (f : B → C) (g : A → B) (xs : List A) → map f (map g xs) ≡ map (λ x. f (g x)) xs
map_map f g [] = refl
map_map f g (x ∷ xs) = ap (λ ys. f (g x) ∷ ys) (map_map f g xs)

-- what each unit gives for each of its functions
pub per_member : {B : Type 0} (g : Member → B) (n : ℕ) (us : List TUnit) → per_unit (λ k u. map (λ f. g (record { number = k; unit = u; function = f })) u.functions) n us ≡ map g (members n us)
per_member g n [] = refl
per_member g n (u ∷ us) = ap₂ (λ x y. x ++ y) (sym (map_map g (λ f. record { number = n; unit = u; function = f }) u.functions)) (per_member g (n + 1) us) ∙ sym (map-append g (members_of n u) (members (n + 1) us))

-- what is known of one
pub record IsMember (us : List TUnit) (fk gk : List Key) (m : Member) : Type 0 where
  pub at : slice_get us m.number ≡ Some m.unit
  pub of_unit : IsUnit m.unit
  pub within : IsFunction (names_of_unit m.unit.externs) m.function
  pub known : IsTrue (function_declared m.unit.externs m.function)
  pub unit : m.function.unit ≡ m.number
  pub used : all_defined (numbers_of fk gk m.number m.unit.externs) (stmt_uses m.function.body) ≡ true

split : (a b : Bool) → (a && b) ≡ true → (a ≡ true) × (b ≡ true)
split true b h = (refl, h)
split false b h = cc

each_used : (ns : List (Option ℕ)) (fs : List TFunction) → all_defined ns (functions_uses fs) ≡ true → All (λ f. all_defined ns (stmt_uses f.body) ≡ true) fs
each_used ns [] h = All-nil (λ f. all_defined ns (stmt_uses f.body) ≡ true)
each_used ns (f ∷ fs) h =
    let both = split (all_defined ns (stmt_uses f.body)) (all_defined ns (functions_uses fs)) (sym (all_append (λ x. is_defined ns x.number) (stmt_uses f.body) (functions_uses fs)) ∙ h) in
    All-cons (λ f. all_defined ns (stmt_uses f.body) ≡ true) f fs both.0 (each_used ns fs both.1)

of_unit : (us : List TUnit) (fk gk : List Key) (n : ℕ) (u : TUnit) (fs : List TFunction) → slice_get us n ≡ Some u → IsUnit u → All (IsFunction (names_of_unit u.externs)) fs → All (λ f. IsTrue (function_declared u.externs f)) fs → All (λ f. f.unit ≡ n) fs → All (λ f. all_defined (numbers_of fk gk n u.externs) (stmt_uses f.body) ≡ true) fs → All (IsMember us fk gk) (map (λ f. record { number = n; unit = u; function = f }) fs)
of_unit us fk gk n u fs at is within known unit used = All-map (IsMember us fk gk) (λ f. record { number = n; unit = u; function = f }) fs (λ k d lt. record { at = at; of_unit = is; within = within k d lt; known = known k d lt; unit = unit k d lt; used = used k d lt })

zero_more : (n : ℕ) → 0 + n ≡ n
zero_more n = omega arith

-- each member of a list of units from unit n on
pub all_members : (us : List TUnit) (fk gk : List Key) (n : ℕ) (rest : List TUnit) → ((k : ℕ) → slice_get us (k + n) ≡ slice_get rest k) → All IsUnit rest → Numbered n rest → Defined fk gk n rest → All (IsMember us fk gk) (members n rest)
all_members us fk gk n [] at is numbered defined = All-nil (IsMember us fk gk)
all_members us fk gk n (u ∷ rest) at is numbered defined =
    let unit = All-head IsUnit u rest is in
    All-append (IsMember us fk gk) (members_of n u) (members (n + 1) rest)
    (of_unit us fk gk n u u.functions (ap (slice_get us) (sym (zero_more n)) ∙ at 0) unit unit.functions unit.functions_declared numbered.0 (each_used (numbers_of fk gk n u.externs) u.functions defined.0))
    (all_members us fk gk (n + 1) rest (λ k. ap (slice_get us) (shift k n) ∙ at (suc k)) (All-tail IsUnit u rest is) numbered.2 defined.1)
  where
    shift : (k n : ℕ) → k + (n + 1) ≡ suc k + n
    shift k n = omega arith
