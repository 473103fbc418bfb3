-- Assignment: `=` (C11 6.5.16.1), `op=` (6.5.16.2), `++ --` (6.5.2.4, 6.5.3.1).
use Rattle.std.specs.Prelude.{ℕ, Bool, true, false, ◌&&◌, not, cond, Option, Some, None, Ok}
use Rattle.cm_base.specs.declared.place.Place.{Place}
use Rattle.ns_types.specs.Operators.{negate}
use Rattle.c_types.specs.Arithmetic.{common, promoted}
use Rattle.c_types.specs.Derived.{unqualified}
use Rattle.c_types.specs.Kind.{is_arithmetic, is_array, is_function, is_struct}
use Rattle.c_types.specs.declared.arith.Arith.{Arith}
use Rattle.c_types.specs.declared.ctype.CType.{CType}
use Rattle.c_tree.specs.declared.expr.BinOp.{BinOp}
use Rattle.c_tree.specs.declared.expr.BinOp.TheVariants as bin
use Rattle.c_tree.specs.declared.expr.Expr.{Expr}
use Rattle.c_tree.specs.declared.expr.ExprKind.TheVariants as kind
use Rattle.c_rows.specs.Answers.{Checked, fault, ◌>>=◌}
use Rattle.c_rows.specs.Nodes.{node}
use Rattle.c_rows.specs.Values.{valued, fitted, in_kind}
use Rattle.c_rows.specs.Arithmetic.{arith_pair}
use Rattle.c_rows.specs.Pointers.{step_of}
use Rattle.c_rows.specs.Access.{is_place}

-- What may be written: a place that isn't const, and neither an array nor a function.
abbrev pub is_writable : Expr → Bool
is_writable e = is_place e && (not e.ctype.is_const && (not (is_array e.ctype) && not (is_function e.ctype)))

abbrev pub both_structs : Expr → Expr → Bool
both_structs a b = is_struct a.ctype && is_struct b.ctype

-- the right operand: a value, unless both are structs
abbrev pub right_operand : Expr → Expr → Place → Checked Expr
right_operand to e first = cond (both_structs to e) (Ok e) (valued e first)

-- an assignment of what fits
abbrev pub stored : Place → Expr → Expr → Expr
stored place to v = node (kind.Assign to v) (unqualified to.ctype) place

abbrev pub fit_and_stored : Place → Expr → Expr → Checked Expr
fit_and_stored place to v = fitted to.ctype v place >>= (λ w. Ok (stored place to w))

abbrev pub written : Place → Expr → Expr → Checked Expr
written place to v =
    cond (not (is_writable to)) (fault 23 place)
    (cond (both_structs to v) (fault 29 place) (fit_and_stored place to v))

-- `=`: the right operand is an expression whose first token stands at this place
abbrev pub assigned : Place → Expr → Expr → Place → Checked Expr
assigned place to e first = right_operand to e first >>= written place to

abbrev pub is_shift : BinOp → Bool
is_shift bin.Shl = true
is_shift bin.Shr = true
is_shift _ = false

abbrev pub is_sum : BinOp → Bool
is_sum bin.Add = true
is_sum bin.Sub = true
is_sum _ = false

-- the type in which the right operand is taken: the common one, or, for a shift, its own promoted one
abbrev pub right_kind : BinOp → Arith → Arith → Arith
right_kind op x y = cond (is_shift op) (promoted y) (common x y)

abbrev pub changed : BinOp → Place → Expr → Expr → Expr
changed op place to v = node (kind.AssignOp op to v) (unqualified to.ctype) place

-- a pointer to a complete object type may be moved by an integer
abbrev pub moves_by : BinOp → Expr → Option ℕ → Bool
moves_by op v (Some size) = is_sum op && is_arithmetic v.ctype
moves_by op v None = false

abbrev pub changed_as : BinOp → Place → Expr → Expr → Option (Arith × Arith) → Checked Expr
changed_as op place to v (Some p) = Ok (changed op place to (in_kind (right_kind op p.0 p.1) v))
changed_as op place to v None = cond (not (moves_by op v (step_of to.ctype))) (fault 22 place) (Ok (changed op place to v))

-- `op=`
abbrev pub assigned_by : BinOp → Place → Expr → Expr → Checked Expr
assigned_by op place to v = cond (not (is_writable to)) (fault 23 place) (changed_as op place to v (arith_pair to v))

-- by what a place is stepped up: 1, or the size of what a pointer points to
abbrev pub unit_of : CType → Option ℕ
unit_of t = cond (is_arithmetic t) (Some 1) (step_of t)

abbrev pub signed_unit : Bool → ℕ → ℕ
signed_unit is_up n = cond is_up n (negate n)

abbrev pub stepped_as : Place → Expr → Bool → Bool → Option ℕ → Checked Expr
stepped_as place e is_up old (Some n) = Ok (node (kind.Step e (signed_unit is_up n) old) (unqualified e.ctype) place)
stepped_as place e is_up old None = fault 22 place

-- `++` or `--`, giving the old value or the new one
abbrev pub stepped : Place → Expr → Bool → Bool → Checked Expr
stepped place e is_up old = cond (not (is_writable e)) (fault 23 place) (stepped_as place e is_up old (unit_of e.ctype))
