-- What holds of each entry function (ECM0359818, 5.4).
use Rattle.std.specs.Prelude.{ℕ, Bool, cond, nat_lt, List, length, Option, Some, None}
use Rattle.c_tree.specs.declared.program.TFunction.{TFunction}

-- An entry function has at most four parameters, and isn't static: the code of the first of these rules that a function
-- breaks.
abbrev pub entry_rule : Bool → ℕ → Bool → Option ℕ
entry_rule entry params is_static = cond entry (cond (nat_lt 4 params) (Some 41) (cond is_static (Some 43) None)) None

abbrev pub entry_fault : TFunction → Option ℕ
entry_fault f = entry_rule f.entry (length f.params) f.is_static
