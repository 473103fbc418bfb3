-- `&& ||` (C11 6.5.13, 6.5.14), `? :` (6.5.15), `,` (6.5.17), and what statements test (6.8.4, 6.8.5).
use Rattle.std.specs.Prelude.{Bool, ◌&&◌, ◌||◌, not, cond, Option, Some, None, Ok}
use Rattle.cm_base.specs.declared.place.Place.{Place}
use Rattle.c_types.specs.Arithmetic.{promoted}
use Rattle.c_types.specs.Derived.{arith_type, unqualified}
use Rattle.c_types.specs.Kind.{arithmetic, is_scalar, is_void}
use Rattle.c_types.specs.declared.arith.Arith.{Arith}
use Rattle.c_tree.specs.declared.expr.Expr.{Expr}
use Rattle.c_tree.specs.declared.expr.ExprKind.TheVariants as kind
use Rattle.c_rows.specs.Answers.{Checked, fault}
use Rattle.c_rows.specs.Nodes.{node, int_type}
use Rattle.c_rows.specs.Values.{converted_to, in_kind}
use Rattle.c_rows.specs.Arithmetic.{common_of}
use Rattle.c_rows.specs.Compare.{one_pointer_type, null_beside}

-- `&&` or `||` on scalars
abbrev pub both_or_either : Bool → Place → Expr → Expr → Checked Expr
both_or_either is_and place a b =
    cond (not (is_scalar a.ctype) || not (is_scalar b.ctype)) (fault 22 place) (Ok (node (cond is_and (kind.And a b) (kind.Or a b)) int_type place))

-- the arms in an arithmetic type
abbrev pub arms_in_kind : Place → Expr → Expr → Expr → Arith → Expr
arms_in_kind place c a b k = node (kind.Cond c (in_kind k a) (in_kind k b)) (arith_type k) place

-- the arms in the type of the first, and of the second
abbrev pub arms_as_first : Place → Expr → Expr → Expr → Expr
arms_as_first place c a b = node (kind.Cond c a (converted_to (unqualified a.ctype) b)) (unqualified a.ctype) place

abbrev pub arms_as_second : Place → Expr → Expr → Expr → Expr
arms_as_second place c a b = node (kind.Cond c (converted_to (unqualified b.ctype) a) b) (unqualified b.ctype) place

abbrev pub both_void : Expr → Expr → Bool
both_void a b = is_void a.ctype && is_void b.ctype

-- two pointers of one type, both void, or a pointer and a null constant
abbrev pub is_first_type : Expr → Expr → Bool
is_first_type a b = one_pointer_type a b || (both_void a b || null_beside a b)

-- arms of which one at least isn't arithmetic
abbrev pub arms_chosen : Place → Expr → Expr → Expr → Checked Expr
arms_chosen place c a b =
    cond (is_first_type a b) (Ok (arms_as_first place c a b))
    (cond (null_beside b a) (Ok (arms_as_second place c a b)) (fault 22 place))

abbrev pub chosen_as : Place → Expr → Expr → Expr → Option Arith → Checked Expr
chosen_as place c a b (Some k) = Ok (arms_in_kind place c a b k)
chosen_as place c a b None = arms_chosen place c a b

-- `? :`
abbrev pub chosen : Place → Expr → Expr → Expr → Checked Expr
chosen place c a b = cond (not (is_scalar c.ctype)) (fault 22 place) (chosen_as place c a b (common_of a b))

-- `,`
abbrev pub in_order : Place → Expr → Expr → Expr
in_order place a b = node (kind.Comma a b) (unqualified b.ctype) place

-- the test of `if` or of a loop
abbrev pub test : Expr → Place → Checked Expr
test e first = cond (not (is_scalar e.ctype)) (fault 22 first) (Ok e)

abbrev pub switch_as : Expr → Place → Option Arith → Checked Expr
switch_as e first (Some k) = Ok (in_kind (promoted k) e)
switch_as e first None = fault 22 first

-- the value of `switch`, promoted
abbrev pub switch_value : Expr → Place → Checked Expr
switch_value e first = switch_as e first (arithmetic e.ctype)
