-- What the parts of a unit define, and what is declared behind them, make a unit: where the code's tables are those of the law.
use Rattle.std.proofs.Common.{◌≡◌, subst, sym, List, Ok}
use Rattle.c_ast.specs.declared.stmt.External.{External}
use Rattle.c_tree.specs.Conditions.{IsUnit}
use Rattle.c_scope.specs.declared.tables.Known.{Known}
use Rattle.c_scope.specs.declared.tables.Tables.{Tables}
use Rattle.c_scope.specs.Lookup.{nothing}
use Rattle.c_define.specs.declared.units.Made.{Made}
use Rattle.c_define.specs.Units.{no_definitions, parts_typed, unit_of}

abbrev pub UnitLaw : Type 0
UnitLaw = (ps : List External) (all : Made) (t : Tables) → parts_typed ps no_definitions nothing ≡ Ok (all, t) → IsUnit (unit_of all t.externs)

abbrev pub unit_made : UnitLaw → (ps : List External) (s : Tables) (all : Made) (t : Tables) (ks : List Known)
    → s ≡ nothing → parts_typed ps no_definitions s ≡ Ok (all, t) → ks ≡ t.externs → IsUnit (unit_of all ks)
unit_made law ps s all t ks new typed externs =
    subst (λ xs. IsUnit (unit_of all xs)) (sym externs) (law ps all t (subst (λ x. parts_typed ps no_definitions x ≡ Ok (all, t)) new typed))
