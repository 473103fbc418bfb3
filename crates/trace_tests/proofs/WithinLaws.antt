-- The programs are within the limits.
use Rattle.std.proofs.Common.{◌≡◌, ◌≢◌, [], ◌∷◌, refl, ap, arith, rules, length}
use Rattle.std.specs.Prelude.{◌||◌, All, AllPairs, IsTrue, codes}
use Rattle.std.proofs.lemmas.List.Elements.{All-cons}
use Rattle.std.proofs.lemmas.List.Kept.{AllPairs-cons}
use Rattle.c_tree.specs.Conditions.{IsFunction, IsGlobal, IsProgram}
use Rattle.c_tree.specs.Numbers.{names_of_program}
use Rattle.c_types.specs.declared.ctype.Shape.TheFolds.{the_lemmas as type_folds}
use Rattle.c_tree.specs.declared.expr.ExprKind.TheFolds.{the_lemmas as folds}
use Rattle.c_tree.specs.declared.stmt.Part.TheFolds.{the_lemmas as stmt_folds}
use Rattle.c_tree.specs.declared.program.TFunction.{TFunction}
use Rattle.trace_tests.specs.Programs.{calls_itself, calls_out, endless, go, one, twice}

-- functions of one name are of different units
abbrev Differ : TFunction → TFunction → Type 0
Differ f h = f.name ≡ h.name → (f.unit ≢ h.unit) × IsTrue (f.is_static || h.is_static)

none : {X : Type 0} (P : X → Type 0) → All P []
none P k d less = absurd (omega arith)

no_pairs : {X : Type 0} (R : X → X → Type 0) → AllPairs R []
no_pairs R i j d less within = absurd (omega arith)

two : {X : Type 0} (P : X → Type 0) (x y : X) → P x → P y → All P (x ∷ y ∷ [])
two P x y p q = All-cons P x (y ∷ []) p (All-cons P y [] q (none P))

a_pair : {X : Type 0} (R : X → X → Type 0) (x y : X) → R x y → AllPairs R (x ∷ y ∷ [])
a_pair R x y r = AllPairs-cons R x (y ∷ []) (All-cons (R x) y [] r (none (R x))) (AllPairs-cons R y [] (none (R y)) (no_pairs R))

twice_is : IsFunction (names_of_program calls_out []) twice
twice_is = record {
  params = omega arith;
  nodes = search (rules, folds, stmt_folds);
  slots = search (rules, folds, stmt_folds);
  placed = search (rules, folds, stmt_folds, type_folds);
  types = search (rules, type_folds);
  typed = search (rules, type_folds);
  named = refl;
  entry = λ e. (omega arith, refl);
  numbers = search (rules, folds, stmt_folds);
}

one_is : IsFunction (names_of_program calls_out []) one
one_is = record {
  params = omega arith;
  nodes = search (rules, folds, stmt_folds);
  slots = search (rules, folds, stmt_folds);
  placed = search (rules, folds, stmt_folds, type_folds);
  types = search (rules, type_folds);
  typed = search (rules, type_folds);
  named = refl;
  entry = λ e. (omega arith, refl);
  numbers = search (rules, folds, stmt_folds);
}

endless_is : IsFunction (names_of_program calls_itself []) endless
endless_is = record {
  params = omega arith;
  nodes = search (rules, folds, stmt_folds);
  slots = search (rules, folds, stmt_folds);
  placed = search (rules, folds, stmt_folds, type_folds);
  types = search (rules, type_folds);
  typed = search (rules, type_folds);
  named = refl;
  entry = λ e. (omega arith, refl);
  numbers = search (rules, folds, stmt_folds);
}

go_is : IsFunction (names_of_program calls_itself []) go
go_is = record {
  params = omega arith;
  nodes = search (rules, folds, stmt_folds);
  slots = search (rules, folds, stmt_folds);
  placed = search (rules, folds, stmt_folds, type_folds);
  types = search (rules, type_folds);
  typed = search (rules, type_folds);
  named = refl;
  entry = λ e. (omega arith, refl);
  numbers = search (rules, folds, stmt_folds);
}

outer_differ : Differ twice one
outer_differ same = let e : 5 ≡ 3 = ap length same in absurd (omega (arith, e))

inner_differ : Differ endless go
inner_differ same = let e : 1 ≡ 2 = ap length same in absurd (omega (arith, e))

pub calls_out_is : IsProgram (record { functions = calls_out; globals = []; entries = codes "twice" ∷ codes "one" ∷ [] })
calls_out_is = record {
  functions = two (IsFunction (names_of_program calls_out [])) twice one twice_is one_is;
  globals = none IsGlobal;
  types = search (rules, type_folds);
  nodes = search (rules, folds, stmt_folds);
  bytes = omega arith;
  differ = a_pair Differ twice one outer_differ;
  entries = refl;
  few_entries = omega arith;
}

pub calls_itself_is : IsProgram (record { functions = calls_itself; globals = []; entries = codes "go" ∷ [] })
calls_itself_is = record {
  functions = two (IsFunction (names_of_program calls_itself [])) endless go endless_is go_is;
  globals = none IsGlobal;
  types = search (rules, type_folds);
  nodes = search (rules, folds, stmt_folds);
  bytes = omega arith;
  differ = a_pair Differ endless go inner_differ;
  entries = refl;
  few_entries = omega arith;
}
