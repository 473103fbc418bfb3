-- What each kind of statement does, as an equation, and statements one after the other.
use Rattle.std.proofs.Common.{◌≡◌, ℕ, ◌+◌, Bool, List, [], ◌∷◌, ◌++◌, map, refl, ap}
use Rattle.ns_types.specs.Range.{checked_range}
use Rattle.ns_types.specs.Access.{read_access, write_access}
use Rattle.ns_types.specs.CRun.{World}
use Rattle.mid_ir.specs.declared.stmt.SetOp.{SetOp}
use Rattle.mid_ir.specs.declared.stmt.MidStmt.{MidStmt}
use Rattle.mid_ir.specs.declared.stmt.MidStmt.TheVariants as mid
use Rattle.mid_ir.specs.declared.stmt.MidStmt.TheOpen.{Seq, Const, Set, Home, Load, Store, Call, NsCall, Range, Caller, If, Loop, Block, Break, Return}
use Rattle.mid_ir.specs.Activation.{Vars, put, where_set, ns_call, Site}
use Rattle.mid_ir.specs.Run.{Out, Next, Broke, Gives, Stops, then_do, caught, loop, or_stop, after_write, from_call, after_call, applied, read, Action, run_step, run, run_all}
use Rattle.mid_ir.proofs.Layers.{layer}

pub run_Seq : (s : Site) (ms : List MidStmt) (vs : Vars) (w : World) → run s (mid.Seq ms) vs w ≡ run_all s ms vs w
run_Seq s ms vs w = ap (λ f. f vs w) (layer Action (run_step s) _ (Seq ms) (mid.rolls-Seq ms))

pub run_Const : (s : Site) (v n : ℕ) (vs : Vars) (w : World) → run s (mid.Const v n) vs w ≡ Next (put vs v n) w
run_Const s v n vs w = ap (λ f. f vs w) (layer Action (run_step s) _ (Const v n) (mid.rolls-Const v n))

pub run_Set : (s : Site) (v : ℕ) (o : SetOp) (a b : ℕ) (vs : Vars) (w : World) → run s (mid.Set v o a b) vs w ≡ or_stop v vs w (applied o (vs a) (vs b))
run_Set s v o a b vs w = ap (λ f. f vs w) (layer Action (run_step s) _ (Set v o a b) (mid.rolls-Set v o a b))

pub run_Home : (s : Site) (v offset : ℕ) (vs : Vars) (w : World) → run s (mid.Home v offset) vs w ≡ Next (put vs v (s.block + offset)) w
run_Home s v offset vs w = ap (λ f. f vs w) (layer Action (run_step s) _ (Home v offset) (mid.rolls-Home v offset))

pub run_Load : (s : Site) (v a size : ℕ) (signed : Bool) (vs : Vars) (w : World) → run s (mid.Load v a size signed) vs w ≡ or_stop v vs w (read size signed (read_access size (vs a) w.memory))
run_Load s v a size signed vs w = ap (λ f. f vs w) (layer Action (run_step s) _ (Load v a size signed) (mid.rolls-Load v a size signed))

pub run_Store : (s : Site) (a size v : ℕ) (vs : Vars) (w : World) → run s (mid.Store a size v) vs w ≡ after_write vs w (write_access size (vs a) (vs v) w.memory)
run_Store s a size v vs w = ap (λ f. f vs w) (layer Action (run_step s) _ (Store a size v) (mid.rolls-Store a size v))

pub run_Call : (s : Site) (v f : ℕ) (args : List ℕ) (vs : Vars) (w : World) → run s (mid.Call v f args) vs w ≡ from_call v vs (s.calls f (map vs args) w)
run_Call s v f args vs w = ap (λ f. f vs w) (layer Action (run_step s) _ (Call v f args) (mid.rolls-Call v f args))

pub run_NsCall : (s : Site) (v target : ℕ) (args : List ℕ) (kind : ℕ) (vs : Vars) (w : World) → run s (mid.NsCall v target args kind) vs w ≡ after_call s.after kind v vs w (ns_call (vs target) (map vs args) w)
run_NsCall s v target args kind vs w = ap (λ f. f vs w) (layer Action (run_step s) _ (NsCall v target args kind) (mid.rolls-NsCall v target args kind))

pub run_Range : (s : Site) (v p n flags : ℕ) (vs : Vars) (w : World) → run s (mid.Range v p n flags) vs w ≡ Next (put vs v (checked_range (vs p) (vs n) (vs flags))) w
run_Range s v p n flags vs w = ap (λ f. f vs w) (layer Action (run_step s) _ (Range v p n flags) (mid.rolls-Range v p n flags))

pub run_Caller : (s : Site) (v : ℕ) (vs : Vars) (w : World) → run s (mid.Caller v) vs w ≡ Next (put vs v s.caller) w
run_Caller s v vs w = ap (λ f. f vs w) (layer Action (run_step s) _ (Caller v) (mid.rolls-Caller v))

pub run_If : (s : Site) (v : ℕ) (a b : MidStmt) (vs : Vars) (w : World) → run s (mid.If v a b) vs w ≡ where_set (vs v) (run s a vs w) (run s b vs w)
run_If s v a b vs w = ap (λ f. f vs w) (layer Action (run_step s) _ (If v a b) (mid.rolls-If v a b))

pub run_Loop : (s : Site) (a : MidStmt) (vs : Vars) (w : World) → run s (mid.Loop a) vs w ≡ loop (run s a) s.turns vs w
run_Loop s a vs w = ap (λ f. f vs w) (layer Action (run_step s) _ (Loop a) (mid.rolls-Loop a))

pub run_Block : (s : Site) (a : MidStmt) (vs : Vars) (w : World) → run s (mid.Block a) vs w ≡ caught (run s a vs w)
run_Block s a vs w = ap (λ f. f vs w) (layer Action (run_step s) _ (Block a) (mid.rolls-Block a))

pub run_Break : (s : Site) (k : ℕ) (vs : Vars) (w : World) → run s (mid.Break k) vs w ≡ Broke k vs w
run_Break s k vs w = ap (λ f. f vs w) (layer Action (run_step s) _ (Break k) (mid.rolls-Break k))

pub run_Return : (s : Site) (v : ℕ) (vs : Vars) (w : World) → run s (mid.Return v) vs w ≡ Gives (vs v) w
run_Return s v vs w = ap (λ f. f vs w) (layer Action (run_step s) _ (Return v) (mid.rolls-Return v))

-- What follows two statements follows the second one.
pub then_then : (o : Out) (f g h : Action) → ((vs : Vars) (w : World) → f vs w ≡ then_do (g vs w) h) → then_do o f ≡ then_do (then_do o g) h
then_then (Next vs w) f g h e = e vs w
then_then (Broke k vs w) f g h e = refl
then_then (Gives x w) f g h e = refl
then_then (Stops t w) f g h e = refl

-- statements one after the other, in two parts
pub run_all_append : (s : Site) (xs ys : List MidStmt) (vs : Vars) (w : World) → run_all s (xs ++ ys) vs w ≡ then_do (run_all s xs vs w) (run_all s ys)
run_all_append s [] ys vs w = refl
run_all_append s (x ∷ xs) ys vs w = then_then (run s x vs w) (run_all s (xs ++ ys)) (run_all s xs) (run_all s ys) (λ us u. run_all_append s xs ys us u)
