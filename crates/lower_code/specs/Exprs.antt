-- The code of expressions, by folds over the typed tree. It leaves the value in the first free variable.
use Rattle.std.specs.Prelude.{ℕ, ◌+◌, Bool, true, false, cond, leb, List, [], ◌∷◌, ◌++◌, length, slice_get, slice_index, Option, Some, None}
use Rattle.ns_types.specs.Operators.{wrapped}
use Rattle.c_types.specs.declared.ctype.CType.{CType}
use Rattle.c_types.specs.Kind.{referenced}
use Rattle.c_tree.specs.declared.expr.BinOp.{BinOp}
use Rattle.c_tree.specs.declared.expr.Expr.{Expr}
use Rattle.c_tree.specs.declared.expr.ExprKind.{ExprKind}
use Rattle.c_tree.specs.declared.expr.ExprKind.TheOpen as k
use Rattle.c_tree.specs.declared.expr.ExprKind.TheOpen.{ExprKind-F, Expr-F}
use Rattle.c_tree.specs.declared.expr.ExprKind.TheFolds.{fold-Expr, fold-ExprKind}
use Rattle.c_const.specs.Operate.{is_signed}
use Rattle.c_mean.specs.Exprs.{done_signed}
use Rattle.mid_ir.specs.declared.stmt.MidStmt.{MidStmt}
use Rattle.mid_ir.specs.declared.stmt.MidStmt.TheVariants as mid
use Rattle.mid_ir.specs.declared.stmt.SetOp.TheVariants as op
use Rattle.lower_code.specs.Frames.{Home, Variable, Placed, Frame}
use Rattle.lower_code.specs.Pieces.{kind_of, convert, load, store, operation, operation_one, truth, plus, counted, moved_by, apart, cleared, is_even, choose, places}

-- code by the first free variable
abbrev pub Codes : Type 0
Codes = ℕ → List MidStmt

-- ---- places

-- an address that takes one statement: at an offset in the block, or known
pub data Base : Type 0 where
  InBlock : ℕ → Base
  Fixed : ℕ → Base

-- What a place is: a variable, a base, or code for an address.
pub data Place : Type 0 where
  Held : ℕ → Place
  Based : Base → Place
  Computed : Codes → Place

-- what is no place has the address 0
abbrev pub nowhere : Place
nowhere = Based (Fixed 0)

abbrev pub base : Base → ℕ → MidStmt
base (InBlock offset) v = mid.Home v offset
base (Fixed at) v = mid.Const v at

-- the address of a place; a variable has none
abbrev pub address : Place → Codes
address (Held v) t = mid.Const t 0 ∷ []
address (Based b) t = base b t ∷ []
address (Computed c) t = c t

abbrev pub place_at : Option Home → Place
place_at (Some (Variable v)) = Held v
place_at (Some (Placed offset)) = Based (InBlock offset)
place_at None = nowhere

-- so many bytes on; an offset beyond the block is added when the code runs
abbrev pub member : ℕ → Place → ℕ → Place
member bytes (Held v) offset = Held v
member bytes (Based (InBlock from)) offset = cond (leb (from + offset) bytes) (Based (InBlock (from + offset))) (Computed (λ t. mid.Home t from ∷ plus offset t))
member bytes (Based (Fixed at)) offset = Based (Fixed (wrapped (at + offset)))
member bytes (Computed c) offset = Computed (λ t. c t ++ plus offset t)

-- the value of a type that stands at a place
abbrev pub read : CType → Place → Codes
read c (Held v) t = mid.Set t op.Copy v v ∷ []
read c (Based b) t = base b t ∷ load c t t ∷ []
read c (Computed at) t = at t ++ load c t t ∷ []

-- a place is set to a value
abbrev pub assigned : CType → Place → Codes → Codes
assigned c (Held v) value t = value t ++ mid.Set v op.Copy t t ∷ []
assigned c (Based b) value t = value t ++ base b (t + 1) ∷ store c (t + 1) t ∷ []
assigned c (Computed at) value t = at t ++ (value (t + 1) ++ store c t (t + 1) ∷ mid.Set t op.Copy (t + 1) (t + 1) ∷ [])

-- ---- `op=`, and a step by a number

-- what is done with an old value and an operand, by the types of the place and of the operand
pub record Change : Type 0 where
  pub op : BinOp
  pub place : CType
  pub operand : CType

-- The operand, in x, becomes the new value, and then comes the rest. The old value is in v, and s is free.
abbrev pub changed : Change → ℕ → ℕ → ℕ → List MidStmt → List MidStmt
changed c v x s rest = counted (referenced c.place) x s ++ (operation c.op (done_signed c.op c.place c.operand) x v x ∷ (convert c.place x ++ rest))

-- The object whose address is in a variable is changed by the operand in x, which becomes its new value; s is free.
abbrev pub change_at : Change → ℕ → ℕ → ℕ → List MidStmt → List MidStmt
change_at c at x s rest = load c.place s at ∷ changed c s x (s + 1) (store c.place at x ∷ rest)

abbrev pub assigned_op : Change → Place → Codes → Codes
assigned_op c (Held v) value t = value t ++ changed c v t (t + 1) (mid.Set v op.Copy t t ∷ [])
assigned_op c (Based b) value t = value t ++ base b (t + 1) ∷ change_at c (t + 1) t (t + 2) []
assigned_op c (Computed at) value t = at t ++ (value (t + 1) ++ change_at c t (t + 1) (t + 2) (mid.Set t op.Copy (t + 1) (t + 1) ∷ []))

-- a variable is changed by a number, and then comes the rest
abbrev pub step_held : CType → ℕ → ℕ → ℕ → List MidStmt → List MidStmt
step_held c by v s rest = mid.Const s by ∷ mid.Set v op.Add v s ∷ (convert c v ++ rest)

-- The object whose address is in t + 1 is changed by a number. Its old value comes to t, and its new one to v.
abbrev pub step_at : CType → ℕ → ℕ → ℕ → List MidStmt
step_at c by v t = load c t (t + 1) ∷ mid.Const (t + 2) by ∷ mid.Set v op.Add t (t + 2) ∷ (convert c v ++ store c (t + 1) v ∷ [])

-- the variable of the new value, by whether the old one is the expression's
abbrev pub new_value : Bool → ℕ → ℕ
new_value true t = t + 2
new_value false t = t

abbrev pub stepped : CType → ℕ → Bool → Place → Codes
stepped c by true (Held v) t = mid.Set t op.Copy v v ∷ step_held c by v (t + 1) []
stepped c by false (Held v) t = step_held c by v (t + 1) (mid.Set t op.Copy v v ∷ [])
stepped c by old (Based b) t = base b (t + 1) ∷ step_at c by (new_value old t) t
stepped c by old (Computed at) t = at t ++ mid.Set (t + 1) op.Copy t t ∷ step_at c by (new_value old t) t

-- ---- expressions

-- as a place, and its value
pub record Coded : Type 0 where
  pub place : Place
  pub code : Codes

-- an operand, with its type
pub record Operand : Type 0 where
  pub ctype : CType
  pub place : Place
  pub code : Codes

abbrev pub as_place : CType → Place → Coded
as_place c place = record { place = place; code = read c place }

abbrev pub as_value : Codes → Coded
as_value code = record { place = nowhere; code = code }

-- operands one after another, each in a variable of its own
abbrev pub all_codes : ℕ → List Operand → List MidStmt
all_codes t [] = []
all_codes t (e ∷ es) = e.code t ++ all_codes (t + 1) es

abbrev pub kind_step : Frame → ExprKind-F (CType → Coded) Operand → CType → Coded
kind_step fr (k.Const n) c = as_value (λ t. mid.Const t n ∷ [])
kind_step fr (k.Local n) c = as_place c (place_at (slice_get fr.homes n))
kind_step fr (k.Global n) c = as_place c (Based (Fixed (slice_index fr.globals n)))
kind_step fr (k.Deref e) c = as_place c (Computed e.code)
kind_step fr (k.Member e offset) c = as_place c (member fr.bytes e.place offset)
kind_step fr (k.Addr e) c = as_value (address e.place)
kind_step fr (k.Convert e) c = as_value (λ t. e.code t ++ convert c t)
kind_step fr (k.Unary o e) c = as_value (λ t. e.code t ++ operation_one o t)
kind_step fr (k.Binary o e f) c = as_value (λ t. e.code t ++ (f.code (t + 1) ++ operation o (is_signed e.ctype) t t (t + 1) ∷ []))
kind_step fr (k.PtrAdd e f size) c = as_value (λ t. e.code t ++ (f.code (t + 1) ++ moved_by size t))
kind_step fr (k.PtrDiff e f size) c = as_value (λ t. e.code t ++ (f.code (t + 1) ++ apart size t))
kind_step fr (k.And e f) c = as_value (λ t. e.code t ++ choose t (f.code t ++ truth t) (mid.Const t 0 ∷ []) ∷ [])
kind_step fr (k.Or e f) c = as_value (λ t. e.code t ++ choose t (mid.Const t 1 ∷ []) (f.code t ++ truth t) ∷ [])
kind_step fr (k.Cond e f g) c = as_value (λ t. e.code t ++ choose t (f.code t) (g.code t) ∷ [])
kind_step fr (k.Assign e f) c = as_value (assigned c e.place f.code)
kind_step fr (k.AssignOp o e f) c = as_value (assigned_op (record { op = o; place = c; operand = f.ctype }) e.place f.code)
kind_step fr (k.Step e by old) c = as_value (stepped c by old e.place)
kind_step fr (k.Comma e f) c = as_value (λ t. e.code t ++ f.code t)
kind_step fr (k.Call n args) c = as_value (λ t. all_codes t args ++ mid.Call t n (places t (length args)) ∷ [])
kind_step fr (k.NsCall p args) c = as_value (λ t. p.code t ++ (all_codes (t + 1) args ++ mid.NsCall t t (places (t + 1) (length args)) (kind_of c) ∷ []))
kind_step fr (k.Range p n flags) c = as_value (λ t. p.code t ++ (n.code (t + 1) ++ (flags.code (t + 2) ++ mid.Range t t (t + 1) (t + 2) ∷ [])))
kind_step fr (k.NsCreate e) c = as_value (λ t. e.code t ++ cleared t)
kind_step fr (k.NsTest e) c = as_value (λ t. e.code t ++ is_even t)
kind_step fr k.NsCaller c = as_value (λ t. mid.Caller t ∷ [])

abbrev pub expr_step : Expr-F (CType → Coded) Operand → Operand
expr_step e = record { ctype = e.ctype; place = (e.kind e.ctype).place; code = (e.kind e.ctype).code }

abbrev pub coded : Frame → Expr → Operand
coded fr = fold-Expr (CType → Coded) Operand (kind_step fr) expr_step

abbrev pub kind_coded : Frame → ExprKind → CType → Coded
kind_coded fr = fold-ExprKind (CType → Coded) Operand (kind_step fr) expr_step

-- the code of an expression, by the first free variable
abbrev pub code : Frame → Expr → Codes
code fr e = (coded fr e).code

-- what it is as a place
abbrev pub place : Frame → Expr → Place
place fr e = (coded fr e).place
