-- What expressions mean (C11 6.5): a walk over typed trees. Operands are evaluated from left to right.
use Rattle.std.specs.Prelude.{ℕ, ◌%◌, Bool, true, false, not, cond, eqb, List, [], ◌∷◌, ◌++◌, slice_get, slice_index, Option, Some, None, Result, Ok}
use Rattle.cm_base.specs.declared.stop.Stop.{Stop}
use Rattle.cm_base.specs.declared.stop.Stop.TheVariants.{CallTarget}
use Rattle.ns_types.specs.Operators as ops
use Rattle.ns_types.specs.Operators.{truth}
use Rattle.ns_types.specs.Platform.{in_row, aligned}
use Rattle.ns_types.specs.Range.{checked_range}
use Rattle.ns_types.specs.CRun.{World, Outcome}
use Rattle.c_types.specs.declared.ctype.CType.{CType}
use Rattle.c_types.specs.Arithmetic.{is_unsigned, promoted}
use Rattle.c_types.specs.declared.arith.Arith.{Arith}
use Rattle.c_types.specs.Kind.{arithmetic, referenced}
use Rattle.c_tree.specs.Slots.{bytes_of}
use Rattle.c_tree.specs.declared.expr.BinOp.{BinOp}
use Rattle.c_tree.specs.declared.expr.BinOp.TheVariants as bin
use Rattle.c_tree.specs.declared.expr.Expr.{Expr}
use Rattle.c_tree.specs.declared.expr.ExprKind.{ExprKind}
use Rattle.c_tree.specs.declared.expr.ExprKind.TheOpen as k
use Rattle.c_tree.specs.declared.expr.ExprKind.TheOpen.{ExprKind-F, Expr-F}
use Rattle.c_tree.specs.declared.expr.ExprKind.TheFolds.{fold-Expr, fold-ExprKind}
use Rattle.c_const.specs.Operate.{operate, operate_one, is_signed}
use Rattle.c_const.specs.Constant.{pointer_sum}
use Rattle.c_mean.specs.Parts.{Out, Has, Part, then_with, halt, or_halt, called, chosen}
use Rattle.c_mean.specs.Values.{Spot, At, converted, spot_in, moved, address, read_spot, write_spot}

-- What stands around the body of a function that is active.
pub record Around : Type 0 where
  pub block : ℕ  -- the address of its block
  pub offsets : List (Option ℕ)  -- where each placed parameter and local stands in it
  pub globals : List ℕ  -- where each global stands
  pub call : ℕ → List ℕ → World → Outcome  -- what a call of a function does, by its number
  pub ns_call : ℕ → List ℕ → World → Outcome  -- what a call of a Non-secure function does, by its address
  pub from_ns : Bool  -- whether Non-secure code called it
  pub turns : ℕ  -- how many turns each loop may take
  pub returned : ℕ → ℕ  -- what `return` makes of a value

-- where an expression is a place, its spot; and its value
pub record Meant : Type 0 where
  pub place : Around → Part Spot
  pub value : Around → Part ℕ

-- an operand, with its type
pub record Sense : Type 0 where
  pub ctype : CType
  pub place : Around → Part Spot
  pub value : Around → Part ℕ

-- ---- forms of expressions

-- a place, whose value is what stands there
abbrev pub as_place : CType → (Around → Part Spot) → Meant
as_place t place = record { place = place; value = λ around l w. then_with (place around l w) (read_spot t) }

-- what is no place
abbrev pub as_value : (Around → Part ℕ) → Meant
as_value value = record { place = λ around l w. Has (At 0) l w; value = value }

abbrev pub one : Sense → (ℕ → Part ℕ) → Meant
one e op = as_value (λ around l w. then_with (e.value around l w) op)

abbrev pub two : Sense → Sense → (ℕ → ℕ → Part ℕ) → Meant
two e f op = as_value (λ around l w. then_with (e.value around l w) (λ x m u. then_with (f.value around m u) (op x)))

abbrev pub three : Sense → Sense → Sense → (ℕ → ℕ → ℕ → Part ℕ) → Meant
three e f g op =
    as_value (λ around l w. then_with (e.value around l w) (λ x m u. then_with (f.value around m u) (λ y n v. then_with (g.value around n v) (op x y))))

-- the values of arguments, behind those that are done
abbrev pub values_from : List ℕ → List Sense → Around → Part (List ℕ)
values_from done [] around l w = Has done l w
values_from done (e ∷ es) around l w = then_with (e.value around l w) (λ x m u. values_from (done ++ x ∷ []) es around m u)

abbrev pub constant : ℕ → Part ℕ
constant n l w = Has n l w

-- 1 where an operand isn't 0, and 0 where it is
abbrev pub truth_value : Sense → Around → Part ℕ
truth_value e around l w = then_with (e.value around l w) (λ x. constant (truth (not (eqb x 0))))

-- ---- `op=` (C11 6.5.16.2)

abbrev pub promoted_signed : Option Arith → Bool
promoted_signed (Some a) = not (is_unsigned (promoted a))
promoted_signed None = false

-- whether it is done in a signed type: a shift in the promoted type of the place, all else in that of the right operand
abbrev pub done_signed : BinOp → CType → CType → Bool
done_signed bin.Shl place right = promoted_signed (arithmetic place)
done_signed bin.Shr place right = promoted_signed (arithmetic place)
done_signed op place right = is_signed right

-- what the right operand counts: the objects that a pointer points to, or 1
abbrev pub counted : Option CType → ℕ → ℕ
counted (Some to) y = ops.multiply y (bytes_of to)
counted None y = y

-- the new value of a place of a type, whose old value is x
abbrev pub changed : BinOp → CType → CType → ℕ → ℕ → Result ℕ Stop
changed op place right x y = operate op (done_signed op place right) x (counted (referenced place) y)

-- ---- kinds of expressions

-- A Non-secure call (ECM0359818): bit 0 of the pointer is cleared, and what isn't in Non-secure ROM isn't called.
abbrev pub ns_called : CType → ℕ → List ℕ → Around → Part ℕ
ns_called t target args around l w =
    cond (in_row 0 target) (then_with (called (around.ns_call target args w) l) (λ r. constant (converted t r))) (halt CallTarget w)

abbrev pub kind_step : ExprKind-F (CType → Meant) Sense → CType → Meant
kind_step (k.Const n) t = as_value (λ around. constant n)
kind_step (k.Local n) t = as_place t (λ around l w. Has (spot_in around.block (slice_get around.offsets n) n) l w)
kind_step (k.Global n) t = as_place t (λ around l w. Has (At (slice_index around.globals n)) l w)
kind_step (k.Deref e) t = as_place t (λ around l w. then_with (e.value around l w) (λ x m u. Has (At x) m u))
kind_step (k.Member e offset) t = as_place t (λ around l w. then_with (e.place around l w) (λ s m u. Has (moved s offset) m u))
kind_step (k.Addr e) t = as_value (λ around l w. then_with (e.place around l w) (λ s. constant (address s)))
kind_step (k.Convert e) t = one e (λ x. constant (converted t x))
kind_step (k.Unary op e) t = one e (λ x. constant (operate_one op x))
kind_step (k.Binary op e f) t = two e f (λ x y. or_halt (operate op (is_signed e.ctype) x y))
kind_step (k.PtrAdd e f size) t = two e f (λ x y. constant (pointer_sum size x y))
kind_step (k.PtrDiff e f size) t = two e f (λ x y. or_halt (operate bin.Div true (ops.subtract x y) size))
kind_step (k.And e f) t = as_value (λ around l w. then_with (e.value around l w) (λ x m u. chosen x (truth_value f around) (constant 0) m u))
kind_step (k.Or e f) t = as_value (λ around l w. then_with (e.value around l w) (λ x m u. chosen x (constant 1) (truth_value f around) m u))
kind_step (k.Cond c e f) t = as_value (λ around l w. then_with (c.value around l w) (λ x m u. chosen x (e.value around) (f.value around) m u))
kind_step (k.Assign e f) t = as_value (λ around l w. then_with (e.place around l w) (λ s m u. then_with (f.value around m u) (λ x n v. write_spot t s x n v)))
kind_step (k.AssignOp op e f) t = as_value (λ around l w.
    then_with (e.place around l w) (λ s m u.
    then_with (f.value around m u) (λ y n v.
    then_with (read_spot t s n v) (λ x o q.
    then_with (or_halt (changed op t f.ctype x y) o q) (λ z p r. write_spot t s (converted t z) p r)))))
kind_step (k.Step e by old) t = as_value (λ around l w.
    then_with (e.place around l w) (λ s m u.
    then_with (read_spot t s m u) (λ x n v.
    then_with (write_spot t s (converted t (ops.add x by)) n v) (λ y. constant (cond old x y)))))
kind_step (k.Comma e f) t = as_value (λ around l w. then_with (e.value around l w) (λ x m u. f.value around m u))
kind_step (k.Call n args) t = as_value (λ around l w. then_with (values_from [] args around l w) (λ xs m u. called (around.call n xs u) m))
kind_step (k.NsCall p args) t = as_value (λ around l w.
    then_with (p.value around l w) (λ x m u. then_with (values_from [] args around m u) (λ xs n v. ns_called t (aligned 2 x) xs around n v)))
kind_step (k.Range p n flags) t = three p n flags (λ x y z. constant (checked_range x y z))
kind_step (k.NsCreate e) t = one e (λ x. constant (aligned 2 x))
kind_step (k.NsTest e) t = one e (λ x. constant (truth (eqb (x % 2) 0)))
kind_step k.NsCaller t = as_value (λ around. constant (truth around.from_ns))

abbrev pub expr_step : Expr-F (CType → Meant) Sense → Sense
expr_step e = record { ctype = e.ctype; place = (e.kind e.ctype).place; value = (e.kind e.ctype).value }

abbrev pub sense : Expr → Sense
sense = fold-Expr (CType → Meant) Sense kind_step expr_step

abbrev pub sense_of : ExprKind → CType → Meant
sense_of = fold-ExprKind (CType → Meant) Sense kind_step expr_step

-- the value of an expression
abbrev pub value : Expr → Around → Part ℕ
value e = (sense e).value
