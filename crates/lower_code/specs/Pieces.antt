-- Pieces of code: conversions, accesses and operators.
use Rattle.std.specs.Prelude.{ℕ, zero, suc, ◌+◌, Bool, true, false, cond, eqb, List, [], ◌∷◌, ◌++◌, Option, Some, None}
use Rattle.c_types.specs.declared.arith.Arith.{Arith}
use Rattle.c_types.specs.declared.arith.Arith.TheVariants as a
use Rattle.c_types.specs.declared.ctype.CType.{CType}
use Rattle.c_types.specs.Kind.{arithmetic}
use Rattle.c_tree.specs.Slots.{bytes_of}
use Rattle.c_tree.specs.declared.expr.BinOp.{BinOp}
use Rattle.c_tree.specs.declared.expr.BinOp.TheVariants as bin
use Rattle.c_tree.specs.declared.expr.UnOp.{UnOp}
use Rattle.c_tree.specs.declared.expr.UnOp.TheVariants as un
use Rattle.c_mean.specs.Values.{value_size}
use Rattle.mid_ir.specs.declared.stmt.MidStmt.{MidStmt}
use Rattle.mid_ir.specs.declared.stmt.MidStmt.TheVariants as mid
use Rattle.mid_ir.specs.declared.stmt.SetOp.TheVariants as op

-- ---- conversions

-- the kind of a conversion to a type: 0 for none
abbrev pub kind_as : Option Arith → ℕ
kind_as (Some a.Char) = 2
kind_as (Some a.SignedChar) = 1
kind_as (Some a.UnsignedChar) = 2
kind_as (Some a.Short) = 3
kind_as (Some a.UnsignedShort) = 4
kind_as (Some a.Int) = 0
kind_as (Some a.Unsigned) = 0
kind_as (Some a.Long) = 0
kind_as (Some a.UnsignedLong) = 0
kind_as None = 0

abbrev pub kind_of : CType → ℕ
kind_of t = kind_as (arithmetic t)

-- a variable is converted by a kind, where that changes anything
abbrev pub narrow : ℕ → ℕ → List MidStmt
narrow (suc zero) v = mid.Set v op.Sext8 v v ∷ []
narrow (suc (suc zero)) v = mid.Set v op.Zext8 v v ∷ []
narrow (suc (suc (suc zero))) v = mid.Set v op.Sext16 v v ∷ []
narrow (suc (suc (suc (suc zero)))) v = mid.Set v op.Zext16 v v ∷ []
narrow _ v = []

-- a variable is converted to a type
abbrev pub convert : CType → ℕ → List MidStmt
convert t v = narrow (kind_of t) v

-- ---- accesses

-- whether a value of this kind of conversion has a sign
abbrev pub has_sign : ℕ → Bool
has_sign (suc zero) = true
has_sign (suc (suc (suc zero))) = true
has_sign _ = false

-- a variable is set to what stands at the address in another
abbrev pub load : CType → ℕ → ℕ → MidStmt
load t v at = mid.Load v at (value_size t) (has_sign (kind_of t))

-- the value in a variable is written to the address in another
abbrev pub store : CType → ℕ → ℕ → MidStmt
store t at v = mid.Store at (value_size t) v

-- ---- operators

-- a variable is set to what an operator makes of two others, of signed or of unsigned values
abbrev pub operation : BinOp → Bool → ℕ → ℕ → ℕ → MidStmt
operation bin.Mul signed v x y = mid.Set v op.Mul x y
operation bin.Div true v x y = mid.Set v op.DivS x y
operation bin.Div false v x y = mid.Set v op.DivU x y
operation bin.Rem true v x y = mid.Set v op.RemS x y
operation bin.Rem false v x y = mid.Set v op.RemU x y
operation bin.Add signed v x y = mid.Set v op.Add x y
operation bin.Sub signed v x y = mid.Set v op.Sub x y
operation bin.Shl signed v x y = mid.Set v op.Shl x y
operation bin.Shr true v x y = mid.Set v op.ShrS x y
operation bin.Shr false v x y = mid.Set v op.ShrU x y
operation bin.Lt true v x y = mid.Set v op.LtS x y
operation bin.Lt false v x y = mid.Set v op.LtU x y
operation bin.Gt true v x y = mid.Set v op.LtS y x
operation bin.Gt false v x y = mid.Set v op.LtU y x
operation bin.Le true v x y = mid.Set v op.LeS x y
operation bin.Le false v x y = mid.Set v op.LeU x y
operation bin.Ge true v x y = mid.Set v op.LeS y x
operation bin.Ge false v x y = mid.Set v op.LeU y x
operation bin.Eq signed v x y = mid.Set v op.Eq x y
operation bin.Ne signed v x y = mid.Set v op.Ne x y
operation bin.And signed v x y = mid.Set v op.And x y
operation bin.Xor signed v x y = mid.Set v op.Xor x y
operation bin.Or signed v x y = mid.Set v op.Or x y

-- An operator of one operand, in t. A complement is the difference from the greatest word; what is shifted before it by 0
-- with its sign is a word, and stays as it is where it was one.
abbrev pub operation_one : UnOp → ℕ → List MidStmt
operation_one un.Plus t = []
operation_one un.Minus t = mid.Const (t + 1) 0 ∷ mid.Set t op.Sub (t + 1) t ∷ []
operation_one un.Compl t = mid.Const (t + 1) 0 ∷ mid.Set t op.ShrS t (t + 1) ∷ mid.Const (t + 1) 0xFFFFFFFF ∷ mid.Set t op.Sub (t + 1) t ∷ []
operation_one un.Not t = mid.Const (t + 1) 0 ∷ mid.Set t op.Eq t (t + 1) ∷ []

-- 1 where t isn't 0
abbrev pub truth : ℕ → List MidStmt
truth t = mid.Const (t + 1) 0 ∷ mid.Set t op.Ne t (t + 1) ∷ []

-- a number more in t
abbrev pub plus : ℕ → ℕ → List MidStmt
plus n t = mid.Const (t + 1) n ∷ mid.Set t op.Add t (t + 1) ∷ []

-- x times a size, where it counts objects of that size; s is free
abbrev pub scaled : ℕ → ℕ → ℕ → List MidStmt
scaled size x s = mid.Const s size ∷ mid.Set x op.Mul x s ∷ []

-- the same of an integer that is added to a pointer to objects of this type, if it is
abbrev pub counted : Option CType → ℕ → ℕ → List MidStmt
counted None x s = []
counted (Some to) x s = scaled (bytes_of to) x s

-- the pointer in t is moved by as many objects of a size as the next variable says
abbrev pub moved_by : ℕ → ℕ → List MidStmt
moved_by size t = cond (eqb size 1) [] (scaled size (t + 1) (t + 2)) ++ mid.Set t op.Add t (t + 1) ∷ []

-- how many objects of a size lie between the pointers in the next variable and in t
abbrev pub apart : ℕ → ℕ → List MidStmt
apart size t = mid.Set t op.Sub t (t + 1) ∷ mid.Const (t + 1) size ∷ mid.Set t op.DivS t (t + 1) ∷ []

-- bit 0 of t is cleared
abbrev pub cleared : ℕ → List MidStmt
cleared t = mid.Const (t + 1) 1 ∷ mid.Set t op.Or t (t + 1) ∷ mid.Set t op.Xor t (t + 1) ∷ []

-- 1 where bit 0 of t is 0
abbrev pub is_even : ℕ → List MidStmt
is_even t = mid.Const (t + 1) 1 ∷ mid.Set t op.And t (t + 1) ∷ mid.Set t op.LtU t (t + 1) ∷ []

-- one of two lists of statements, by whether a variable isn't 0
abbrev pub choose : ℕ → List MidStmt → List MidStmt → MidStmt
choose v on off = mid.If v (mid.Seq on) (mid.Seq off)

-- so many variables from t on
abbrev pub places : ℕ → ℕ → List ℕ
places t zero = []
places t (suc n) = t ∷ places (t + 1) n
