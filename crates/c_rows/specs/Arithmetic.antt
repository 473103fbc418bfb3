-- Arithmetic operators: `* / % & ^ |` (C11 6.5.5, 6.5.10 to 6.5.12), `<< >>` (6.5.7), unary `+ - ~ !` (6.5.3.3).
use Rattle.std.specs.Prelude.{not, cond, Option, Some, None, Ok}
use Rattle.cm_base.specs.declared.place.Place.{Place}
use Rattle.c_types.specs.Arithmetic.{common, promoted}
use Rattle.c_types.specs.Derived.{arith_type}
use Rattle.c_types.specs.Kind.{arithmetic, is_scalar}
use Rattle.c_types.specs.declared.arith.Arith.{Arith}
use Rattle.c_tree.specs.declared.expr.BinOp.{BinOp}
use Rattle.c_tree.specs.declared.expr.UnOp.{UnOp}
use Rattle.c_tree.specs.declared.expr.UnOp.TheVariants as un
use Rattle.c_tree.specs.declared.expr.Expr.{Expr}
use Rattle.c_tree.specs.declared.expr.ExprKind.TheVariants as kind
use Rattle.c_rows.specs.Answers.{Checked, fault}
use Rattle.c_rows.specs.Nodes.{node, int_type}
use Rattle.c_rows.specs.Values.{in_kind}

abbrev pub both : Option Arith → Option Arith → Option (Arith × Arith)
both (Some x) (Some y) = Some (x, y)
both (Some x) None = None
both None y = None

-- the types of two operands, where both are arithmetic
abbrev pub arith_pair : Expr → Expr → Option (Arith × Arith)
arith_pair a b = both (arithmetic a.ctype) (arithmetic b.ctype)

-- the common type of two operands, where both are arithmetic
abbrev pub common_in : Option (Arith × Arith) → Option Arith
common_in (Some p) = Some (common p.0 p.1)
common_in None = None

abbrev pub common_of : Expr → Expr → Option Arith
common_of a b = common_in (arith_pair a b)

-- both operands in one type
abbrev pub joined : BinOp → Place → Expr → Expr → Arith → Arith → Expr
joined op place a b k gives = node (kind.Binary op (in_kind k a) (in_kind k b)) (arith_type gives) place

abbrev pub binary_as : BinOp → Place → Expr → Expr → Option Arith → Checked Expr
binary_as op place a b (Some k) = Ok (joined op place a b k k)
binary_as op place a b None = fault 22 place

-- two arithmetic operands in their common type
abbrev pub binary : BinOp → Place → Expr → Expr → Checked Expr
binary op place a b = binary_as op place a b (common_of a b)

abbrev pub shifted_as : BinOp → Place → Expr → Expr → Option (Arith × Arith) → Checked Expr
shifted_as op place a b (Some p) = Ok (node (kind.Binary op (in_kind (promoted p.0) a) (in_kind (promoted p.1) b)) (arith_type (promoted p.0)) place)
shifted_as op place a b None = fault 22 place

-- a shift: each operand is promoted by itself, and the result has the type of the left one
abbrev pub shifted : BinOp → Place → Expr → Expr → Checked Expr
shifted op place a b = shifted_as op place a b (arith_pair a b)

abbrev pub unary_as : UnOp → Place → Expr → Option Arith → Checked Expr
unary_as op place e (Some k) = Ok (node (kind.Unary op (in_kind (promoted k) e)) (arith_type (promoted k)) place)
unary_as op place e None = fault 22 place

-- `+ - ~`: the operand is promoted
abbrev pub unary : UnOp → Place → Expr → Checked Expr
unary op place e = unary_as op place e (arithmetic e.ctype)

-- `!`
abbrev pub negated : Place → Expr → Checked Expr
negated place e = cond (not (is_scalar e.ctype)) (fault 22 place) (Ok (node (kind.Unary un.Not e) int_type place))
