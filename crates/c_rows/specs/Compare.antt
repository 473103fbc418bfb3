-- Comparison: `< > <= >=` (C11 6.5.8), `== !=` (6.5.9).
use Rattle.std.specs.Prelude.{Bool, ◌&&◌, cond, Option, Some, None, Ok}
use Rattle.cm_base.specs.declared.place.Place.{Place}
use Rattle.c_types.specs.Kind.{is_pointer, is_void_pointer}
use Rattle.c_types.specs.Same.{same_unqualified}
use Rattle.c_types.specs.declared.arith.Arith.{Arith}
use Rattle.c_types.specs.declared.arith.Arith.TheVariants as arith
use Rattle.c_tree.specs.declared.expr.BinOp.{BinOp}
use Rattle.c_tree.specs.declared.expr.Expr.{Expr}
use Rattle.c_tree.specs.declared.expr.ExprKind.TheVariants as kind
use Rattle.c_const.specs.Constant.{is_null_constant}
use Rattle.c_rows.specs.Answers.{Checked, fault}
use Rattle.c_rows.specs.Nodes.{node, int_type}
use Rattle.c_rows.specs.Values.{converted_to}
use Rattle.c_rows.specs.Arithmetic.{common_of, joined}

-- two pointers of one type, what they point to being equal with its qualifiers
abbrev pub one_pointer_type : Expr → Expr → Bool
one_pointer_type a b = is_pointer a.ctype && same_unqualified a.ctype b.ctype

-- a pointer, and a null constant beside it
abbrev pub null_beside : Expr → Expr → Bool
null_beside p n = is_pointer p.ctype && is_null_constant n

-- a pointer, and a pointer to void beside it
abbrev pub void_beside : Expr → Expr → Bool
void_beside p v = is_pointer p.ctype && is_void_pointer v.ctype

-- a comparison gives an int
abbrev pub compared : BinOp → Place → Expr → Expr → Expr
compared op place a b = node (kind.Binary op a b) int_type place

abbrev pub ordered_as : BinOp → Place → Expr → Expr → Option Arith → Checked Expr
ordered_as op place a b (Some k) = Ok (joined op place a b k arith.Int)
ordered_as op place a b None = cond (one_pointer_type a b) (Ok (compared op place a b)) (fault 22 place)

-- `< > <= >=`: two arithmetic operands, or two pointers of one type
abbrev pub ordered : BinOp → Place → Expr → Expr → Checked Expr
ordered op place a b = ordered_as op place a b (common_of a b)

-- the second operand in the type of the first, and the other way round
abbrev pub second_converted : BinOp → Place → Expr → Expr → Expr
second_converted op place a b = compared op place a (converted_to a.ctype b)

abbrev pub first_converted : BinOp → Place → Expr → Expr → Expr
first_converted op place a b = compared op place (converted_to b.ctype a) b

-- `== !=` on operands of which one at least isn't arithmetic: a null constant is converted to the pointer's type, and what
-- is compared with a pointer to void to the type of that
abbrev pub pointers_equated : BinOp → Place → Expr → Expr → Checked Expr
pointers_equated op place a b =
    cond (one_pointer_type a b) (Ok (compared op place a b))
    (cond (null_beside a b) (Ok (second_converted op place a b))
    (cond (null_beside b a) (Ok (first_converted op place a b))
    (cond (void_beside a b) (Ok (first_converted op place a b))
    (cond (void_beside b a) (Ok (second_converted op place a b))
    (fault 22 place)))))

abbrev pub equated_as : BinOp → Place → Expr → Expr → Option Arith → Checked Expr
equated_as op place a b (Some k) = Ok (joined op place a b k arith.Int)
equated_as op place a b None = pointers_equated op place a b

-- `== !=`
abbrev pub equated : BinOp → Place → Expr → Expr → Checked Expr
equated op place a b = equated_as op place a b (common_of a b)
