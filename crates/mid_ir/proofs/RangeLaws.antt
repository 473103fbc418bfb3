-- When the numbers in each kind of statement are in range, as an equation, and in statements one after the other.
use Rattle.std.proofs.Common.{◌≡◌, ℕ, suc, Bool, true, false, List, [], ◌∷◌, ◌++◌, length, map, refl, ap, ◌∙◌}
use Rattle.std.specs.Prelude.{◌&&◌, nat_le, nat_lt}
use Rattle.mid_ir.specs.declared.stmt.SetOp.{SetOp}
use Rattle.mid_ir.specs.declared.stmt.MidStmt.{MidStmt}
use Rattle.mid_ir.specs.declared.stmt.MidStmt.TheVariants as mid
use Rattle.mid_ir.specs.declared.stmt.MidStmt.TheOpen.{Seq, Const, Set, Home, Load, Store, Call, NsCall, Range, Caller, If, Loop, Block, Break, Return}
use Rattle.mid_ir.specs.Numbers.{Around, is_kind, is_size, is_var, are_vars, all_at, range_step, in_range}
use Rattle.mid_ir.proofs.Layers.{layer}

-- statements one after the other, inside of k loops and blocks
abbrev pub all_in_range : Around → List MidStmt → ℕ → Bool
all_in_range r ms k = all_at k (map (in_range r) ms)

pub range_Seq : (r : Around) (ms : List MidStmt) (k : ℕ) → in_range r (mid.Seq ms) k ≡ all_in_range r ms k
range_Seq r ms k = ap (λ f. f k) (layer (ℕ → Bool) (range_step r) _ (Seq ms) (mid.rolls-Seq ms))

pub range_Const : (r : Around) (v n : ℕ) (k : ℕ) → in_range r (mid.Const v n) k ≡ is_var r v
range_Const r v n k = ap (λ f. f k) (layer (ℕ → Bool) (range_step r) _ (Const v n) (mid.rolls-Const v n))

pub range_Set : (r : Around) (v : ℕ) (o : SetOp) (a b : ℕ) (k : ℕ) → in_range r (mid.Set v o a b) k ≡ are_vars r (v ∷ a ∷ b ∷ [])
range_Set r v o a b k = ap (λ f. f k) (layer (ℕ → Bool) (range_step r) _ (Set v o a b) (mid.rolls-Set v o a b))

pub range_Home : (r : Around) (v offset : ℕ) (k : ℕ) → in_range r (mid.Home v offset) k ≡ (is_var r v && nat_le offset r.block)
range_Home r v offset k = ap (λ f. f k) (layer (ℕ → Bool) (range_step r) _ (Home v offset) (mid.rolls-Home v offset))

pub range_Load : (r : Around) (v a size : ℕ) (signed : Bool) (k : ℕ) → in_range r (mid.Load v a size signed) k ≡ (are_vars r (v ∷ a ∷ []) && is_size size)
range_Load r v a size signed k = ap (λ f. f k) (layer (ℕ → Bool) (range_step r) _ (Load v a size signed) (mid.rolls-Load v a size signed))

pub range_Store : (r : Around) (a size v : ℕ) (k : ℕ) → in_range r (mid.Store a size v) k ≡ (are_vars r (a ∷ v ∷ []) && is_size size)
range_Store r a size v k = ap (λ f. f k) (layer (ℕ → Bool) (range_step r) _ (Store a size v) (mid.rolls-Store a size v))

pub range_Call : (r : Around) (v f : ℕ) (args : List ℕ) (k : ℕ) → in_range r (mid.Call v f args) k ≡ (are_vars r (v ∷ args) && r.is_function f (length args))
range_Call r v f args k = ap (λ f. f k) (layer (ℕ → Bool) (range_step r) _ (Call v f args) (mid.rolls-Call v f args))

pub range_NsCall : (r : Around) (v target : ℕ) (args : List ℕ) (kind : ℕ) (k : ℕ) → in_range r (mid.NsCall v target args kind) k ≡ (are_vars r (v ∷ target ∷ args) && (nat_le (length args) 4 && is_kind kind))
range_NsCall r v target args kind k = ap (λ f. f k) (layer (ℕ → Bool) (range_step r) _ (NsCall v target args kind) (mid.rolls-NsCall v target args kind))

pub range_Range : (r : Around) (v p n flags : ℕ) (k : ℕ) → in_range r (mid.Range v p n flags) k ≡ are_vars r (v ∷ p ∷ n ∷ flags ∷ [])
range_Range r v p n flags k = ap (λ f. f k) (layer (ℕ → Bool) (range_step r) _ (Range v p n flags) (mid.rolls-Range v p n flags))

pub range_Caller : (r : Around) (v : ℕ) (k : ℕ) → in_range r (mid.Caller v) k ≡ (is_var r v && r.entry)
range_Caller r v k = ap (λ f. f k) (layer (ℕ → Bool) (range_step r) _ (Caller v) (mid.rolls-Caller v))

pub range_If : (r : Around) (v : ℕ) (a b : MidStmt) (k : ℕ) → in_range r (mid.If v a b) k ≡ (is_var r v && (in_range r a k && in_range r b k))
range_If r v a b k = ap (λ f. f k) (layer (ℕ → Bool) (range_step r) _ (If v a b) (mid.rolls-If v a b))

pub range_Loop : (r : Around) (a : MidStmt) (k : ℕ) → in_range r (mid.Loop a) k ≡ in_range r a (suc k)
range_Loop r a k = ap (λ f. f k) (layer (ℕ → Bool) (range_step r) _ (Loop a) (mid.rolls-Loop a))

pub range_Block : (r : Around) (a : MidStmt) (k : ℕ) → in_range r (mid.Block a) k ≡ in_range r a (suc k)
range_Block r a k = ap (λ f. f k) (layer (ℕ → Bool) (range_step r) _ (Block a) (mid.rolls-Block a))

pub range_Break : (r : Around) (n : ℕ) (k : ℕ) → in_range r (mid.Break n) k ≡ nat_lt n k
range_Break r n k = ap (λ f. f k) (layer (ℕ → Bool) (range_step r) _ (Break n) (mid.rolls-Break n))

pub range_Return : (r : Around) (v : ℕ) (k : ℕ) → in_range r (mid.Return v) k ≡ is_var r v
range_Return r v k = ap (λ f. f k) (layer (ℕ → Bool) (range_step r) _ (Return v) (mid.rolls-Return v))

and_joined : (a b c : Bool) → (a && (b && c)) ≡ ((a && b) && c)
and_joined true b c = refl
and_joined false b c = refl

pub all_in_range_append : (r : Around) (xs ys : List MidStmt) (k : ℕ) → all_in_range r (xs ++ ys) k ≡ (all_in_range r xs k && all_in_range r ys k)
all_in_range_append r [] ys k = refl
all_in_range_append r (x ∷ xs) ys k = ap (λ z. in_range r x k && z) (all_in_range_append r xs ys k) ∙ and_joined (in_range r x k) (all_in_range r xs k) (all_in_range r ys k)
