-- The parts of a `switch`, in order (C11 6.8.4.2).
use Rattle.std.specs.Prelude.{ℕ, Bool, true, false, nat_eq, List, [], ◌∷◌, ◌++◌, map, Ok}
use Rattle.std.specs.List.{list_any}
use Rattle.cm_base.specs.declared.place.Place.{Place}
use Rattle.c_tree.specs.declared.stmt.Part.TheVariants as part
use Rattle.c_tree.specs.declared.stmt.Stmt.{Stmt}
use Rattle.c_rows.specs.Answers.{Checked}
use Rattle.c_scope.specs.Steps.{refuse}
use Rattle.c_body.specs.declared.arms.Arms.{Arms}

abbrev pub no_arms : Arms
no_arms = record { parts = []; cases = []; has_default = false }

-- whether a value has a label already
abbrev pub has : List ℕ → ℕ → Bool
has cases n = list_any (nat_eq n) cases

abbrev pub with_case : ℕ → Arms → Arms
with_case n a = record { parts = a.parts ++ part.Case n ∷ []; cases = a.cases ++ n ∷ []; has_default = a.has_default }

abbrev pub with_default : Arms → Arms
with_default a = record { parts = a.parts ++ part.Default ∷ []; cases = a.cases; has_default = true }

abbrev pub with_stmt : Stmt → Arms → Arms
with_stmt x a = record { parts = a.parts ++ part.Stmt x ∷ []; cases = a.cases; has_default = a.has_default }

abbrev pub with_stmts : List Stmt → Arms → Arms
with_stmts xs a = record { parts = a.parts ++ map part.Stmt xs; cases = a.cases; has_default = a.has_default }

-- `case` at this place, for a value that has no label yet
abbrev pub cased : Place → ℕ → Arms → Checked Arms
cased place n a = refuse (has a.cases n) 26 place (Ok (with_case n a))

-- `default` at this place, the first one
abbrev pub defaulted : Place → Arms → Checked Arms
defaulted place a = refuse a.has_default 26 place (Ok (with_default a))
