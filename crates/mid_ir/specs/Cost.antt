-- What statements and functions cost: bounds on the bytes of their code.
use Rattle.std.specs.Prelude.{ℕ, ◌+◌, ◌*◌, List, [], ◌∷◌, length, map}
use Rattle.mid_ir.specs.declared.stmt.SetOp.{SetOp}
use Rattle.mid_ir.specs.declared.stmt.SetOp.TheVariants as op
use Rattle.mid_ir.specs.declared.stmt.MidStmt.{MidStmt}
use Rattle.mid_ir.specs.declared.stmt.MidStmt.TheOpen.{MidStmt-F, Seq, Const, Set, Home, Load, Store, Call, NsCall, Range, Caller, If, Loop, Block, Break, Return}
use Rattle.mid_ir.specs.declared.stmt.MidStmt.TheFolds.{fold-MidStmt}
use Rattle.mid_ir.specs.declared.program.MidFn.{MidFn}

-- what numbers add up to
abbrev pub total : List ℕ → ℕ
total [] = 0
total (x ∷ xs) = x + total xs

-- a division or a remainder has its test for 0
abbrev pub op_cost : SetOp → ℕ
op_cost op.DivS = 48
op_cost op.DivU = 48
op_cost op.RemS = 48
op_cost op.RemU = 48
op_cost _ = 40

-- the cost of a statement, from those of the statements in it
abbrev pub cost_step : MidStmt-F ℕ → ℕ
cost_step (Seq ms) = total ms
cost_step (Const v n) = 40
cost_step (Set v o a b) = op_cost o
cost_step (Home v offset) = 40
cost_step (Load v a size signed) = 112
cost_step (Store a size v) = 112
cost_step (Call v f args) = 64 + 8 * length args
cost_step (NsCall v target args kind) = 224
cost_step (Range v p n flags) = 320
cost_step (Caller v) = 40
cost_step (If v a b) = 40 + a + b
cost_step (Loop a) = 40 + a
cost_step (Block a) = 40 + a
cost_step (Break k) = 40
cost_step (Return v) = 40

abbrev pub cost : MidStmt → ℕ
cost = fold-MidStmt ℕ cost_step

-- the cost of statements one after the other
abbrev pub all_cost : List MidStmt → ℕ
all_cost ms = total (map cost ms)

-- the cost of a function: its prologue and its epilogue, its variables, and its body
abbrev pub function_cost : MidFn → ℕ
function_cost f = 200 + 8 * f.vars + cost f.body

-- how many statements there are, the statement itself and all in it
abbrev pub count_step : MidStmt-F ℕ → ℕ
count_step (Seq ms) = 1 + total ms
count_step (Const v n) = 1
count_step (Set v o a b) = 1
count_step (Home v offset) = 1
count_step (Load v a size signed) = 1
count_step (Store a size v) = 1
count_step (Call v f args) = 1
count_step (NsCall v target args kind) = 1
count_step (Range v p n flags) = 1
count_step (Caller v) = 1
count_step (If v a b) = 1 + a + b
count_step (Loop a) = 1 + a
count_step (Block a) = 1 + a
count_step (Break k) = 1
count_step (Return v) = 1

abbrev pub count : MidStmt → ℕ
count = fold-MidStmt ℕ count_step

abbrev pub all_count : List MidStmt → ℕ
all_count ms = total (map count ms)
