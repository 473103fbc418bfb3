-- What each kind of statement costs, as an equation, how many statements it has, and the same of statements one after the
-- other.
use Rattle.std.proofs.Common.{◌≡◌, ℕ, ◌+◌, ◌*◌, Bool, List, [], ◌∷◌, ◌++◌, length, map, refl, arith}
use Rattle.mid_ir.specs.declared.stmt.SetOp.{SetOp}
use Rattle.mid_ir.specs.declared.stmt.MidStmt.{MidStmt}
use Rattle.mid_ir.specs.declared.stmt.MidStmt.TheVariants as mid
use Rattle.mid_ir.specs.declared.stmt.MidStmt.TheOpen.{Seq, Const, Set, Home, Load, Store, Call, NsCall, Range, Caller, If, Loop, Block, Break, Return}
use Rattle.mid_ir.specs.Cost.{total, op_cost, cost_step, cost, all_cost, count_step, count, all_count}
use Rattle.mid_ir.proofs.Layers.{layer}

pub cost_Seq : (ms : List MidStmt) → cost (mid.Seq ms) ≡ all_cost ms
cost_Seq ms = layer ℕ cost_step _ (Seq ms) (mid.rolls-Seq ms)

pub cost_Const : (v n : ℕ) → cost (mid.Const v n) ≡ 40
cost_Const v n = layer ℕ cost_step _ (Const v n) (mid.rolls-Const v n)

pub cost_Set : (v : ℕ) (o : SetOp) (a b : ℕ) → cost (mid.Set v o a b) ≡ op_cost o
cost_Set v o a b = layer ℕ cost_step _ (Set v o a b) (mid.rolls-Set v o a b)

pub cost_Home : (v offset : ℕ) → cost (mid.Home v offset) ≡ 40
cost_Home v offset = layer ℕ cost_step _ (Home v offset) (mid.rolls-Home v offset)

pub cost_Load : (v a size : ℕ) (signed : Bool) → cost (mid.Load v a size signed) ≡ 112
cost_Load v a size signed = layer ℕ cost_step _ (Load v a size signed) (mid.rolls-Load v a size signed)

pub cost_Store : (a size v : ℕ) → cost (mid.Store a size v) ≡ 112
cost_Store a size v = layer ℕ cost_step _ (Store a size v) (mid.rolls-Store a size v)

pub cost_Call : (v f : ℕ) (args : List ℕ) → cost (mid.Call v f args) ≡ 64 + 8 * length args
cost_Call v f args = layer ℕ cost_step _ (Call v f args) (mid.rolls-Call v f args)

pub cost_NsCall : (v target : ℕ) (args : List ℕ) (kind : ℕ) → cost (mid.NsCall v target args kind) ≡ 224
cost_NsCall v target args kind = layer ℕ cost_step _ (NsCall v target args kind) (mid.rolls-NsCall v target args kind)

pub cost_Range : (v p n flags : ℕ) → cost (mid.Range v p n flags) ≡ 320
cost_Range v p n flags = layer ℕ cost_step _ (Range v p n flags) (mid.rolls-Range v p n flags)

pub cost_Caller : (v : ℕ) → cost (mid.Caller v) ≡ 40
cost_Caller v = layer ℕ cost_step _ (Caller v) (mid.rolls-Caller v)

pub cost_If : (v : ℕ) (a b : MidStmt) → cost (mid.If v a b) ≡ 40 + cost a + cost b
cost_If v a b = layer ℕ cost_step _ (If v a b) (mid.rolls-If v a b)

pub cost_Loop : (a : MidStmt) → cost (mid.Loop a) ≡ 40 + cost a
cost_Loop a = layer ℕ cost_step _ (Loop a) (mid.rolls-Loop a)

pub cost_Block : (a : MidStmt) → cost (mid.Block a) ≡ 40 + cost a
cost_Block a = layer ℕ cost_step _ (Block a) (mid.rolls-Block a)

pub cost_Break : (k : ℕ) → cost (mid.Break k) ≡ 40
cost_Break k = layer ℕ cost_step _ (Break k) (mid.rolls-Break k)

pub cost_Return : (v : ℕ) → cost (mid.Return v) ≡ 40
cost_Return v = layer ℕ cost_step _ (Return v) (mid.rolls-Return v)

pub count_Seq : (ms : List MidStmt) → count (mid.Seq ms) ≡ 1 + all_count ms
count_Seq ms = layer ℕ count_step _ (Seq ms) (mid.rolls-Seq ms)

pub count_Const : (v n : ℕ) → count (mid.Const v n) ≡ 1
count_Const v n = layer ℕ count_step _ (Const v n) (mid.rolls-Const v n)

pub count_Set : (v : ℕ) (o : SetOp) (a b : ℕ) → count (mid.Set v o a b) ≡ 1
count_Set v o a b = layer ℕ count_step _ (Set v o a b) (mid.rolls-Set v o a b)

pub count_Home : (v offset : ℕ) → count (mid.Home v offset) ≡ 1
count_Home v offset = layer ℕ count_step _ (Home v offset) (mid.rolls-Home v offset)

pub count_Load : (v a size : ℕ) (signed : Bool) → count (mid.Load v a size signed) ≡ 1
count_Load v a size signed = layer ℕ count_step _ (Load v a size signed) (mid.rolls-Load v a size signed)

pub count_Store : (a size v : ℕ) → count (mid.Store a size v) ≡ 1
count_Store a size v = layer ℕ count_step _ (Store a size v) (mid.rolls-Store a size v)

pub count_Call : (v f : ℕ) (args : List ℕ) → count (mid.Call v f args) ≡ 1
count_Call v f args = layer ℕ count_step _ (Call v f args) (mid.rolls-Call v f args)

pub count_NsCall : (v target : ℕ) (args : List ℕ) (kind : ℕ) → count (mid.NsCall v target args kind) ≡ 1
count_NsCall v target args kind = layer ℕ count_step _ (NsCall v target args kind) (mid.rolls-NsCall v target args kind)

pub count_Range : (v p n flags : ℕ) → count (mid.Range v p n flags) ≡ 1
count_Range v p n flags = layer ℕ count_step _ (Range v p n flags) (mid.rolls-Range v p n flags)

pub count_Caller : (v : ℕ) → count (mid.Caller v) ≡ 1
count_Caller v = layer ℕ count_step _ (Caller v) (mid.rolls-Caller v)

pub count_If : (v : ℕ) (a b : MidStmt) → count (mid.If v a b) ≡ 1 + count a + count b
count_If v a b = layer ℕ count_step _ (If v a b) (mid.rolls-If v a b)

pub count_Loop : (a : MidStmt) → count (mid.Loop a) ≡ 1 + count a
count_Loop a = layer ℕ count_step _ (Loop a) (mid.rolls-Loop a)

pub count_Block : (a : MidStmt) → count (mid.Block a) ≡ 1 + count a
count_Block a = layer ℕ count_step _ (Block a) (mid.rolls-Block a)

pub count_Break : (k : ℕ) → count (mid.Break k) ≡ 1
count_Break k = layer ℕ count_step _ (Break k) (mid.rolls-Break k)

pub count_Return : (v : ℕ) → count (mid.Return v) ≡ 1
count_Return v = layer ℕ count_step _ (Return v) (mid.rolls-Return v)

pub all_cost_append : (xs ys : List MidStmt) → all_cost (xs ++ ys) ≡ all_cost xs + all_cost ys
all_cost_append [] ys = omega arith
all_cost_append (x ∷ xs) ys = let h = all_cost_append xs ys in omega (arith, h)

pub all_count_append : (xs ys : List MidStmt) → all_count (xs ++ ys) ≡ all_count xs + all_count ys
all_count_append [] ys = omega arith
all_count_append (x ∷ xs) ys = let h = all_count_append xs ys in omega (arith, h)
