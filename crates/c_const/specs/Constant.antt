-- Constant expressions (C11 6.6): a walk over the typed tree. Every part must be a constant, in an arm that isn't taken too.
use Rattle.std.specs.Prelude.{ℕ, Bool, true, false, ◌&&◌, ◌||◌, not, cond, eqb, Option, Some, None, Result, Ok, Err}
use Rattle.cm_base.specs.declared.stop.Stop.{Stop}
use Rattle.ns_types.specs.Operators as ops
use Rattle.ns_types.specs.Operators.{truth}
use Rattle.c_types.specs.Kind.{Look, look, is_arithmetic, is_void_pointer}
use Rattle.c_types.specs.declared.ctype.CType.{CType}
use Rattle.c_types.specs.declared.ctype.Shape.TheOpen as shape
use Rattle.c_types.specs.declared.ctype.Shape.TheOpen.{Shape-F}
use Rattle.c_tree.specs.declared.expr.BinOp.TheVariants as bin
use Rattle.c_tree.specs.declared.expr.Expr.{Expr}
use Rattle.c_tree.specs.declared.expr.ExprKind.{ExprKind, out-ExprKind}
use Rattle.c_tree.specs.declared.expr.ExprKind.TheOpen.{ExprKind-F, Expr-F, Const, Convert, Unary, Binary, PtrAdd, PtrDiff, And, Or, Cond}
use Rattle.c_tree.specs.declared.expr.ExprKind.TheFolds.{fold-Expr, fold-ExprKind}
use Rattle.c_const.specs.Operate.{operate, operate_one, narrowed, is_signed}

-- an operand: its type, and its value where it is a constant
pub record Known : Type 0 where
  pub ctype : CType
  pub value : Option ℕ

-- a step that asks for one constant, for two and for three
abbrev pub with_one : (ℕ → Option ℕ) → Option ℕ → Option ℕ
with_one f (Some x) = f x
with_one f None = None

abbrev pub with_two : (ℕ → ℕ → Option ℕ) → Option ℕ → Option ℕ → Option ℕ
with_two f (Some x) b = with_one (f x) b
with_two f None b = None

abbrev pub with_three : (ℕ → ℕ → ℕ → Option ℕ) → Option ℕ → Option ℕ → Option ℕ → Option ℕ
with_three f (Some x) b c = with_two (f x) b c
with_three f None b c = None

-- what stops is no constant
abbrev pub unless_stopped : Result ℕ Stop → Option ℕ
unless_stopped (Ok x) = Some x
unless_stopped (Err stop) = None

abbrev pub converted_as : Look → ℕ → Option ℕ
converted_as (shape.Arith a) x = Some (narrowed a x)
converted_as (shape.Pointer to) x = Some x
converted_as _ x = None

-- a value in a scalar type
abbrev pub converted : CType → ℕ → Option ℕ
converted t x = converted_as (look t) x

-- a pointer and an integer times a size; the difference of two pointers in elements of a size
abbrev pub pointer_sum : ℕ → ℕ → ℕ → ℕ
pointer_sum size p i = ops.add p (ops.multiply i size)

abbrev pub pointer_difference : ℕ → ℕ → ℕ → Option ℕ
pointer_difference size p q = unless_stopped (operate bin.Div true (ops.subtract p q) size)

abbrev pub is_true : ℕ → Bool
is_true x = not (eqb x 0)

-- an expression of this kind and this type, from its operands
abbrev pub kind_step : ExprKind-F (CType → Option ℕ) Known → CType → Option ℕ
kind_step (Const n) t = Some n
kind_step (Convert a) t = with_one (converted t) a.value
kind_step (Unary op a) t = with_one (λ x. Some (operate_one op x)) a.value
kind_step (Binary op a b) t = with_two (λ x y. unless_stopped (operate op (is_signed a.ctype) x y)) a.value b.value
kind_step (PtrAdd p i size) t = with_two (λ x y. Some (pointer_sum size x y)) p.value i.value
kind_step (PtrDiff p q size) t = with_two (pointer_difference size) p.value q.value
kind_step (And a b) t = with_two (λ x y. Some (truth (is_true x && is_true y))) a.value b.value
kind_step (Or a b) t = with_two (λ x y. Some (truth (is_true x || is_true y))) a.value b.value
kind_step (Cond c a b) t = with_three (λ x y z. Some (cond (is_true x) y z)) c.value a.value b.value
kind_step _ t = None

abbrev pub expr_step : Expr-F (CType → Option ℕ) Known → Known
expr_step e = record { ctype = e.ctype; value = e.kind e.ctype }

-- the value of a constant expression
abbrev pub constant : Expr → Option ℕ
constant e = (fold-Expr (CType → Option ℕ) Known kind_step expr_step e).value

-- the value of an expression of this kind and this type
abbrev pub kind_constant : ExprKind → CType → Option ℕ
kind_constant k t = fold-ExprKind (CType → Option ℕ) Known kind_step expr_step k t

abbrev pub is_zero : Option ℕ → Bool
is_zero (Some n) = eqb n 0
is_zero None = false

abbrev pub zero_in : ExprKind-F ExprKind Expr → Bool
zero_in (Const n) = eqb n 0
zero_in _ = false

abbrev pub zero_node : Expr → Bool
zero_node e = zero_in (out-ExprKind e.kind)

-- A null constant: an integer constant of value 0, or `NULL`, which is a 0 of type pointer to void.
abbrev pub is_null_constant : Expr → Bool
is_null_constant e = (is_arithmetic e.ctype && is_zero (constant e)) || (is_void_pointer e.ctype && zero_node e)
