-- Where a constant is wanted (C11 6.6, paragraph 6; 6.7.6.2).
use Rattle.std.specs.Prelude.{ℕ, ◌||◌, not, cond, ltb, eqb, Option, Some, None, Ok}
use Rattle.cm_base.specs.declared.place.Place.{Place}
use Rattle.c_types.specs.Kind.{is_arithmetic}
use Rattle.c_tree.specs.declared.expr.Expr.{Expr}
use Rattle.c_const.specs.Constant.{constant}
use Rattle.c_rows.specs.Answers.{Checked, fault, ◌>>=◌}

abbrev pub wanted_as : Place → Option ℕ → Checked ℕ
wanted_as first (Some n) = Ok n
wanted_as first None = fault 24 first

-- the value of an integer constant expression
abbrev pub integer_constant : Expr → Place → Checked ℕ
integer_constant e first = cond (not (is_arithmetic e.ctype)) (fault 24 first) (wanted_as first (constant e))

abbrev pub as_length : Place → ℕ → Checked ℕ
as_length first n = cond (eqb n 0 || ltb 49152 n) (fault 24 first) (Ok n)

-- an array's length is from 1 to 49,152
abbrev pub array_length : Expr → Place → Checked ℕ
array_length e first = integer_constant e first >>= as_length first
