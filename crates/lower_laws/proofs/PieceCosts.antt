-- What pieces of code cost.
use Rattle.std.proofs.Common.{◌≡◌, ℕ, zero, suc, ◌+◌, ◌≤◌, Bool, true, false, cond, List, [], ◌∷◌, ◌++◌, length, refl, ap, ◌∙◌, arith, Some}
use Rattle.std.specs.Prelude.{eqb}
use Rattle.c_types.specs.declared.ctype.CType.{CType}
use Rattle.c_types.specs.declared.ctype.Shape.TheOpen as shape
use Rattle.c_types.specs.Kind.{Look, look, referenced, referenced_by, arithmetic_of}
use Rattle.c_tree.specs.Slots.{bytes_of}
use Rattle.c_tree.specs.declared.expr.BinOp.{BinOp}
use Rattle.c_tree.specs.declared.expr.BinOp.TheVariants as bin
use Rattle.c_tree.specs.declared.expr.UnOp.{UnOp}
use Rattle.c_tree.specs.declared.expr.UnOp.TheVariants as un
use Rattle.c_mean.specs.Exprs.{done_signed}
use Rattle.c_mean.specs.Values.{value_size}
use Rattle.mid_ir.specs.declared.stmt.MidStmt.{MidStmt}
use Rattle.mid_ir.specs.declared.stmt.MidStmt.TheVariants as mid
use Rattle.mid_ir.specs.declared.stmt.SetOp.TheVariants as op
use Rattle.mid_ir.specs.Cost.{cost, all_cost}
use Rattle.mid_ir.proofs.CostLaws.{cost_Seq, cost_Const, cost_Set, cost_Home, cost_Load, cost_Store, cost_If, cost_Loop, cost_Block, all_cost_append}
use Rattle.lower_code.specs.Pieces.{kind_as, kind_of, narrow, convert, has_sign, load, store, operation, operation_one, truth, plus, scaled, counted, moved_by, apart, cleared, is_even, choose, places}
use Rattle.lower_code.specs.Exprs.{Base, InBlock, Fixed, base, Change, changed, change_at, step_held, step_at}
use Rattle.lower_code.specs.Stmts.{block, loop}

pub copy_cost : (v a : ℕ) → cost (mid.Set v op.Copy a a) ≡ 40
copy_cost v a = cost_Set v op.Copy a a

pub narrow_cost : (k t : ℕ) → all_cost (narrow k t) ≤ 40
narrow_cost zero t = omega arith
narrow_cost (suc zero) t = let a : cost (mid.Set t op.Sext8 t t) ≡ 40 = cost_Set t op.Sext8 t t in omega (arith, a)
narrow_cost (suc (suc zero)) t = let a : cost (mid.Set t op.Zext8 t t) ≡ 40 = cost_Set t op.Zext8 t t in omega (arith, a)
narrow_cost (suc (suc (suc zero))) t = let a : cost (mid.Set t op.Sext16 t t) ≡ 40 = cost_Set t op.Sext16 t t in omega (arith, a)
narrow_cost (suc (suc (suc (suc zero)))) t = let a : cost (mid.Set t op.Zext16 t t) ≡ 40 = cost_Set t op.Zext16 t t in omega (arith, a)
narrow_cost (suc (suc (suc (suc (suc k))))) t = omega arith

pub load_cost : (c : CType) (v at : ℕ) → cost (load c v at) ≡ 112
load_cost c v at = cost_Load v at (value_size c) (has_sign (kind_of c))

pub store_cost : (c : CType) (at v : ℕ) → cost (store c at v) ≡ 112
store_cost c at v = cost_Store at (value_size c) v

pub base_cost : (b : Base) (v : ℕ) → cost (base b v) ≡ 40
base_cost (InBlock offset) v = cost_Home v offset
base_cost (Fixed at) v = cost_Const v at

pub operation_cost : (o : BinOp) (g : Bool) (v x y : ℕ) → cost (operation o g v x y) ≤ 48
operation_cost bin.Mul g v x y = let a : cost (mid.Set v op.Mul x y) ≡ 40 = cost_Set v op.Mul x y in omega (arith, a)
operation_cost bin.Div true v x y = let a : cost (mid.Set v op.DivS x y) ≡ 48 = cost_Set v op.DivS x y in omega (arith, a)
operation_cost bin.Div false v x y = let a : cost (mid.Set v op.DivU x y) ≡ 48 = cost_Set v op.DivU x y in omega (arith, a)
operation_cost bin.Rem true v x y = let a : cost (mid.Set v op.RemS x y) ≡ 48 = cost_Set v op.RemS x y in omega (arith, a)
operation_cost bin.Rem false v x y = let a : cost (mid.Set v op.RemU x y) ≡ 48 = cost_Set v op.RemU x y in omega (arith, a)
operation_cost bin.Add g v x y = let a : cost (mid.Set v op.Add x y) ≡ 40 = cost_Set v op.Add x y in omega (arith, a)
operation_cost bin.Sub g v x y = let a : cost (mid.Set v op.Sub x y) ≡ 40 = cost_Set v op.Sub x y in omega (arith, a)
operation_cost bin.Shl g v x y = let a : cost (mid.Set v op.Shl x y) ≡ 40 = cost_Set v op.Shl x y in omega (arith, a)
operation_cost bin.Shr true v x y = let a : cost (mid.Set v op.ShrS x y) ≡ 40 = cost_Set v op.ShrS x y in omega (arith, a)
operation_cost bin.Shr false v x y = let a : cost (mid.Set v op.ShrU x y) ≡ 40 = cost_Set v op.ShrU x y in omega (arith, a)
operation_cost bin.Lt true v x y = let a : cost (mid.Set v op.LtS x y) ≡ 40 = cost_Set v op.LtS x y in omega (arith, a)
operation_cost bin.Lt false v x y = let a : cost (mid.Set v op.LtU x y) ≡ 40 = cost_Set v op.LtU x y in omega (arith, a)
operation_cost bin.Gt true v x y = let a : cost (mid.Set v op.LtS y x) ≡ 40 = cost_Set v op.LtS y x in omega (arith, a)
operation_cost bin.Gt false v x y = let a : cost (mid.Set v op.LtU y x) ≡ 40 = cost_Set v op.LtU y x in omega (arith, a)
operation_cost bin.Le true v x y = let a : cost (mid.Set v op.LeS x y) ≡ 40 = cost_Set v op.LeS x y in omega (arith, a)
operation_cost bin.Le false v x y = let a : cost (mid.Set v op.LeU x y) ≡ 40 = cost_Set v op.LeU x y in omega (arith, a)
operation_cost bin.Ge true v x y = let a : cost (mid.Set v op.LeS y x) ≡ 40 = cost_Set v op.LeS y x in omega (arith, a)
operation_cost bin.Ge false v x y = let a : cost (mid.Set v op.LeU y x) ≡ 40 = cost_Set v op.LeU y x in omega (arith, a)
operation_cost bin.Eq g v x y = let a : cost (mid.Set v op.Eq x y) ≡ 40 = cost_Set v op.Eq x y in omega (arith, a)
operation_cost bin.Ne g v x y = let a : cost (mid.Set v op.Ne x y) ≡ 40 = cost_Set v op.Ne x y in omega (arith, a)
operation_cost bin.And g v x y = let a : cost (mid.Set v op.And x y) ≡ 40 = cost_Set v op.And x y in omega (arith, a)
operation_cost bin.Xor g v x y = let a : cost (mid.Set v op.Xor x y) ≡ 40 = cost_Set v op.Xor x y in omega (arith, a)
operation_cost bin.Or g v x y = let a : cost (mid.Set v op.Or x y) ≡ 40 = cost_Set v op.Or x y in omega (arith, a)

pub one_cost : (o : UnOp) (t : ℕ) → all_cost (operation_one o t) ≤ 160
one_cost un.Plus t = omega arith
one_cost un.Minus t =
    let a : cost (mid.Const (t + 1) 0) ≡ 40 = cost_Const (t + 1) 0 in
    let b : cost (mid.Set t op.Sub (t + 1) t) ≡ 40 = cost_Set t op.Sub (t + 1) t in
    omega (arith, a, b)
one_cost un.Compl t =
    let a : cost (mid.Const (t + 1) 0) ≡ 40 = cost_Const (t + 1) 0 in
    let b : cost (mid.Set t op.ShrS t (t + 1)) ≡ 40 = cost_Set t op.ShrS t (t + 1) in
    let c : cost (mid.Const (t + 1) 0xFFFFFFFF) ≡ 40 = cost_Const (t + 1) 0xFFFFFFFF in
    let d : cost (mid.Set t op.Sub (t + 1) t) ≡ 40 = cost_Set t op.Sub (t + 1) t in
    omega (arith, a, b, c, d)
one_cost un.Not t =
    let a : cost (mid.Const (t + 1) 0) ≡ 40 = cost_Const (t + 1) 0 in
    let b : cost (mid.Set t op.Eq t (t + 1)) ≡ 40 = cost_Set t op.Eq t (t + 1) in
    omega (arith, a, b)

pub truth_cost : (t : ℕ) → all_cost (truth t) ≡ 80
truth_cost t =
    let a : cost (mid.Const (t + 1) 0) ≡ 40 = cost_Const (t + 1) 0 in
    let b : cost (mid.Set t op.Ne t (t + 1)) ≡ 40 = cost_Set t op.Ne t (t + 1) in
    omega (arith, a, b)

pub plus_cost : (n t : ℕ) → all_cost (plus n t) ≡ 80
plus_cost n t =
    let a : cost (mid.Const (t + 1) n) ≡ 40 = cost_Const (t + 1) n in
    let b : cost (mid.Set t op.Add t (t + 1)) ≡ 40 = cost_Set t op.Add t (t + 1) in
    omega (arith, a, b)

pub scaled_cost : (size x s : ℕ) → all_cost (scaled size x s) ≡ 80
scaled_cost size x s =
    let a : cost (mid.Const s size) ≡ 40 = cost_Const s size in
    let b : cost (mid.Set x op.Mul x s) ≡ 40 = cost_Set x op.Mul x s in
    omega (arith, a, b)

pub moved_cost : (size t : ℕ) → all_cost (moved_by size t) ≤ 120
moved_cost size t = test (eqb size 1)
  where
    test : (b : Bool) → all_cost (cond b [] (scaled size (t + 1) (t + 2)) ++ mid.Set t op.Add t (t + 1) ∷ []) ≤ 120
    test true = let b : cost (mid.Set t op.Add t (t + 1)) ≡ 40 = cost_Set t op.Add t (t + 1) in omega (arith, b)
    test false =
        let a = scaled_cost size (t + 1) (t + 2) in
        let b : cost (mid.Set t op.Add t (t + 1)) ≡ 40 = cost_Set t op.Add t (t + 1) in
        let c = all_cost_append (scaled size (t + 1) (t + 2)) (mid.Set t op.Add t (t + 1) ∷ []) in
        omega (arith, a, b, c)

pub apart_cost : (size t : ℕ) → all_cost (apart size t) ≡ 128
apart_cost size t =
    let a : cost (mid.Set t op.Sub t (t + 1)) ≡ 40 = cost_Set t op.Sub t (t + 1) in
    let b : cost (mid.Const (t + 1) size) ≡ 40 = cost_Const (t + 1) size in
    let c : cost (mid.Set t op.DivS t (t + 1)) ≡ 48 = cost_Set t op.DivS t (t + 1) in
    omega (arith, a, b, c)

pub cleared_cost : (t : ℕ) → all_cost (cleared t) ≡ 120
cleared_cost t =
    let a : cost (mid.Const (t + 1) 1) ≡ 40 = cost_Const (t + 1) 1 in
    let b : cost (mid.Set t op.Or t (t + 1)) ≡ 40 = cost_Set t op.Or t (t + 1) in
    let c : cost (mid.Set t op.Xor t (t + 1)) ≡ 40 = cost_Set t op.Xor t (t + 1) in
    omega (arith, a, b, c)

pub even_cost : (t : ℕ) → all_cost (is_even t) ≡ 120
even_cost t =
    let a : cost (mid.Const (t + 1) 1) ≡ 40 = cost_Const (t + 1) 1 in
    let b : cost (mid.Set t op.And t (t + 1)) ≡ 40 = cost_Set t op.And t (t + 1) in
    let c : cost (mid.Set t op.LtU t (t + 1)) ≡ 40 = cost_Set t op.LtU t (t + 1) in
    omega (arith, a, b, c)

pub choose_cost : (v : ℕ) (on off : List MidStmt) → cost (choose v on off) ≡ 40 + all_cost on + all_cost off
choose_cost v on off = cost_If v (mid.Seq on) (mid.Seq off) ∙ (let a = cost_Seq on in let b = cost_Seq off in omega (arith, a, b))

pub block_cost : (ms : List MidStmt) → cost (block ms) ≡ 40 + all_cost ms
block_cost ms = cost_Block (mid.Seq ms) ∙ (let a = cost_Seq ms in omega (arith, a))

pub loop_cost : (ms : List MidStmt) → cost (loop ms) ≡ 40 + all_cost ms
loop_cost ms = cost_Loop (mid.Seq ms) ∙ (let a = cost_Seq ms in omega (arith, a))

pub places_many : (t k : ℕ) → length (places t k) ≡ k
places_many t zero = refl
places_many t (suc k) = ap suc (places_many (t + 1) k)

-- ---- changes: a pointer's has a scale, and another's a conversion

looked : (t : Look) (x s : ℕ) → all_cost (counted (referenced_by t) x s) + all_cost (narrow (kind_as (arithmetic_of t)) x) ≤ 80
looked shape.Void x s = omega arith
looked (shape.Arith a) x s = let h = narrow_cost (kind_as (Some a)) x in omega (arith, h)
looked (shape.Pointer to) x s = let h = scaled_cost (bytes_of to) x s in omega (arith, h)
looked (shape.Array of len) x s = omega arith
looked (shape.Struct number name size align) x s = omega arith
looked (shape.Function y params nonsecure) x s = omega arith

pub changed_cost : (c : Change) (v x s : ℕ) (rest : List MidStmt) → all_cost (changed c v x s rest) ≤ 128 + all_cost rest
changed_cost c v x s rest =
    let o = operation c.op (done_signed c.op c.place c.operand) x v x in
    let a = looked (look c.place) x s in
    let b = operation_cost c.op (done_signed c.op c.place c.operand) x v x in
    let d = all_cost_append (counted (referenced c.place) x s) (o ∷ (convert c.place x ++ rest)) in
    let e = all_cost_append (convert c.place x) rest in
    omega (arith, a, b, d, e)

pub change_cost : (c : Change) (at x s : ℕ) (rest : List MidStmt) → all_cost (change_at c at x s rest) ≤ 352 + all_cost rest
change_cost c at x s rest =
    let a = load_cost c.place s at in
    let b = changed_cost c s x (s + 1) (store c.place at x ∷ rest) in
    let d = store_cost c.place at x in
    omega (arith, a, b, d)

pub held_cost : (c : CType) (by v s : ℕ) (rest : List MidStmt) → all_cost (step_held c by v s rest) ≤ 120 + all_cost rest
held_cost c by v s rest =
    let a : cost (mid.Const s by) ≡ 40 = cost_Const s by in
    let b : cost (mid.Set v op.Add v s) ≡ 40 = cost_Set v op.Add v s in
    let d = narrow_cost (kind_of c) v in
    let e = all_cost_append (convert c v) rest in
    omega (arith, a, b, d, e)

pub step_cost : (c : CType) (by v t : ℕ) → all_cost (step_at c by v t) ≤ 344
step_cost c by v t =
    let a = load_cost c t (t + 1) in
    let b : cost (mid.Const (t + 2) by) ≡ 40 = cost_Const (t + 2) by in
    let d : cost (mid.Set v op.Add t (t + 2)) ≡ 40 = cost_Set v op.Add t (t + 2) in
    let e = narrow_cost (kind_of c) v in
    let f = all_cost_append (convert c v) (store c (t + 1) v ∷ []) in
    let g = store_cost c (t + 1) v in
    omega (arith, a, b, d, e, f, g)
