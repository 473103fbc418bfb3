-- Which variables a statement sets and reads, the statements in it aside.
use Rattle.std.specs.Prelude.{ℕ, List, [], ◌∷◌, Option, Some, None}
use Rattle.mid_ir.specs.declared.stmt.SetOp.{SetOp}
use Rattle.mid_ir.specs.declared.stmt.SetOp.TheVariants as op
use Rattle.mid_ir.specs.declared.stmt.MidStmt.{MidStmt, out-MidStmt}
use Rattle.mid_ir.specs.declared.stmt.MidStmt.TheOpen.{MidStmt-F, Seq, Const, Set, Home, Load, Store, Call, NsCall, Range, Caller, If, Loop, Block, Break, Return}

-- the variable that is set, of a statement whose parts are anything
abbrev pub sets_in : {A : Type 0} → MidStmt-F A → Option ℕ
sets_in (Seq ms) = None
sets_in (Const v n) = Some v
sets_in (Set v o a b) = Some v
sets_in (Home v offset) = Some v
sets_in (Load v a size signed) = Some v
sets_in (Store a size v) = None
sets_in (Call v f args) = Some v
sets_in (NsCall v target args kind) = Some v
sets_in (Range v p n flags) = Some v
sets_in (Caller v) = Some v
sets_in (If v a b) = None
sets_in (Loop a) = None
sets_in (Block a) = None
sets_in (Break k) = None
sets_in (Return v) = None

-- an operator looks at two values, or at the first one alone
abbrev pub operands : SetOp → ℕ → ℕ → List ℕ
operands op.Copy a b = a ∷ []
operands op.Sext8 a b = a ∷ []
operands op.Sext16 a b = a ∷ []
operands op.Zext8 a b = a ∷ []
operands op.Zext16 a b = a ∷ []
operands _ a b = a ∷ b ∷ []

-- the variables that are read
abbrev pub reads_in : {A : Type 0} → MidStmt-F A → List ℕ
reads_in (Seq ms) = []
reads_in (Const v n) = []
reads_in (Set v o a b) = operands o a b
reads_in (Home v offset) = []
reads_in (Load v a size signed) = a ∷ []
reads_in (Store a size v) = a ∷ v ∷ []
reads_in (Call v f args) = args
reads_in (NsCall v target args kind) = target ∷ args
reads_in (Range v p n flags) = p ∷ n ∷ flags ∷ []
reads_in (Caller v) = []
reads_in (If v a b) = v ∷ []
reads_in (Loop a) = []
reads_in (Block a) = []
reads_in (Break k) = []
reads_in (Return v) = v ∷ []

-- the same of a statement
abbrev pub sets : MidStmt → Option ℕ
sets s = sets_in (out-MidStmt s)

abbrev pub reads : MidStmt → List ℕ
reads s = reads_in (out-MidStmt s)
