-- What the operators of the typed tree give on words (C11 6.5).
use Rattle.std.specs.Prelude.{ℕ, Bool, false, not, cond, eqb, Result, Ok, bit_and, bit_or, bit_xor}
use Rattle.cm_base.specs.declared.stop.Stop.{Stop}
use Rattle.ns_types.specs.Operators as ops
use Rattle.ns_types.specs.Operators.{truth}
use Rattle.c_types.specs.Arithmetic.{arith_size, is_unsigned}
use Rattle.c_types.specs.Kind.{Look, look}
use Rattle.c_types.specs.declared.arith.Arith.{Arith}
use Rattle.c_types.specs.declared.ctype.CType.{CType}
use Rattle.c_types.specs.declared.ctype.Shape.TheOpen as shape
use Rattle.c_types.specs.declared.ctype.Shape.TheOpen.{Shape-F}
use Rattle.c_tree.specs.declared.expr.BinOp.{BinOp}
use Rattle.c_tree.specs.declared.expr.BinOp.TheVariants as bin
use Rattle.c_tree.specs.declared.expr.UnOp.{UnOp}
use Rattle.c_tree.specs.declared.expr.UnOp.TheVariants as un

-- of signed or of unsigned operands; division by 0 stops
abbrev pub operate : BinOp → Bool → ℕ → ℕ → Result ℕ Stop
operate bin.Mul signed x y = Ok (ops.multiply x y)
operate bin.Div signed x y = cond signed (ops.divide_signed x y) (ops.divide_unsigned x y)
operate bin.Rem signed x y = cond signed (ops.remainder_signed x y) (ops.remainder_unsigned x y)
operate bin.Add signed x y = Ok (ops.add x y)
operate bin.Sub signed x y = Ok (ops.subtract x y)
operate bin.Shl signed x y = Ok (ops.shift_left x y)
operate bin.Shr signed x y = Ok (cond signed (ops.shift_right_signed x y) (ops.shift_right_unsigned x y))
operate bin.Lt signed x y = Ok (cond signed (ops.less_signed x y) (ops.less_unsigned x y))
operate bin.Gt signed x y = Ok (cond signed (ops.less_signed y x) (ops.less_unsigned y x))
operate bin.Le signed x y = Ok (cond signed (ops.at_most_signed x y) (ops.at_most_unsigned x y))
operate bin.Ge signed x y = Ok (cond signed (ops.at_most_signed y x) (ops.at_most_unsigned y x))
operate bin.Eq signed x y = Ok (ops.equal x y)
operate bin.Ne signed x y = Ok (ops.differs x y)
operate bin.And signed x y = Ok (bit_and x y)
operate bin.Xor signed x y = Ok (bit_xor x y)
operate bin.Or signed x y = Ok (bit_or x y)

-- of one operand
abbrev pub operate_one : UnOp → ℕ → ℕ
operate_one un.Plus x = x
operate_one un.Minus x = ops.negate x
operate_one un.Compl x = ops.complement x
operate_one un.Not x = truth (eqb x 0)

-- the low bytes of a word as a value of an arithmetic type: extended by its sign
abbrev pub narrowed : Arith → ℕ → ℕ
narrowed a x = cond (is_unsigned a) (ops.to_unsigned (arith_size a) x) (ops.to_signed (arith_size a) x)

abbrev pub looks_signed : Look → Bool
looks_signed (shape.Arith a) = not (is_unsigned a)
looks_signed _ = false

-- whether values of a type are signed; pointers aren't
abbrev pub is_signed : CType → Bool
is_signed t = looks_signed (look t)
