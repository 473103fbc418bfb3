-- Code that only sets variables: a variable t, and others above it.
use Rattle.std.proofs.Common.{◌≡◌, ℕ, zero, suc, ◌+◌, ◌*◌, ◌%◌, ◌/◌, ◌<◌, ◌≤◌, ◌⊎◌, Bool, true, false, cond, not, List, [], ◌∷◌, ◌++◌, refl, sym, ap, ◌∙◌, subst, inl, inr, arith, Ok, Option, Some, None}
use Rattle.std.specs.Prelude.{eqb, ltb, bit_and, bit_or, bit_xor}
use Rattle.std.proofs.lemmas.Nat.{and_mask, and_or_self}
use Rattle.std.specs.Int.Bits.{or_add_and, xor_add_and}
use Rattle.ns_types.specs.Operators as ops
use Rattle.ns_types.specs.Operators.{truth}
use Rattle.ns_types.specs.Platform.{aligned}
use Rattle.ns_types.specs.CRun.{World}
use Rattle.ns_types.specs.Alike.{low}
use Rattle.c_types.specs.declared.arith.Arith.{Arith}
use Rattle.c_types.specs.declared.arith.Arith.TheVariants as a
use Rattle.c_types.specs.declared.ctype.CType.{CType}
use Rattle.c_types.specs.Kind.{arithmetic}
use Rattle.c_tree.specs.Slots.{bytes_of}
use Rattle.c_tree.specs.declared.expr.BinOp.{BinOp}
use Rattle.c_tree.specs.declared.expr.BinOp.TheVariants as bin
use Rattle.c_tree.specs.declared.expr.UnOp.{UnOp}
use Rattle.c_tree.specs.declared.expr.UnOp.TheVariants as un
use Rattle.c_const.specs.Operate.{operate, operate_one}
use Rattle.c_const.specs.Constant.{pointer_sum}
use Rattle.c_mean.specs.Parts.{Has}
use Rattle.c_mean.specs.Values.{converted, converted_as}
use Rattle.c_mean.specs.Exprs as mean
use Rattle.mid_ir.specs.declared.stmt.SetOp.{SetOp}
use Rattle.mid_ir.specs.declared.stmt.SetOp.TheVariants as op
use Rattle.mid_ir.specs.declared.stmt.MidStmt.{MidStmt}
use Rattle.mid_ir.specs.declared.stmt.MidStmt.TheVariants as mid
use Rattle.mid_ir.specs.Activation.{Vars, put, Site}
use Rattle.mid_ir.specs.Run.{Out, Next, then_do, applied, narrowed, or_stop, run, run_all}
use Rattle.mid_ir.proofs.RunLaws.{run_Const, run_Set}
use Rattle.lower_code.specs.Frames.{Frame}
use Rattle.lower_code.specs.Pieces as code
use Rattle.lower_laws.proofs.Relate.{put_same, put_other, Agrees, IsFrame, Kept, agrees_on, Runs, left, Value}

-- The code goes on with x in t, and changes no other variable below s.
pub record Sets (t s x : ℕ) (vs : Vars) (w : World) (o : Out) : Type 0 where
  pub new : Vars
  pub is : o ≡ Next new w
  pub holds : new t ≡ x
  pub kept : (i : ℕ) → i < s → (i < t) ⊎ (t < i) → new i ≡ vs i

module _ (r : Site) where
  -- a statement that goes on, and what follows it
  pub next : (m : MidStmt) (ms : List MidStmt) (vs new : Vars) (w u : World) → run r m vs w ≡ Next new u → run_all r (m ∷ ms) vs w ≡ run_all r ms new u
  next m ms vs new w u e = ap (λ o. then_do o (run_all r ms)) e

  pub sets_done : (t s x : ℕ) (vs : Vars) (w : World) → vs t ≡ x → Sets t s x vs w (run_all r [] vs w)
  sets_done t s x vs w e = record { new = vs; is = refl; holds = e; kept = λ i h q. refl }

  -- a number above
  pub sets_const : (t s v n x : ℕ) (ms : List MidStmt) (vs : Vars) (w : World) → s ≤ v → Sets t s x (put vs v n) w (run_all r ms (put vs v n) w) → Sets t s x vs w (run_all r (mid.Const v n ∷ ms) vs w)
  sets_const t s v n x ms vs w le h = record {
    new = h.new;
    is = next (mid.Const v n) ms vs (put vs v n) w w (run_Const r v n vs w) ∙ h.is;
    holds = h.holds;
    kept = λ i lt q. h.kept i lt q ∙ put_other vs v n i (inl (omega arith));
  }

  -- what an operator makes of a and b, and more
  pub sets_more : (t s y x a b : ℕ) (o : SetOp) (ms : List MidStmt) (vs : Vars) (w : World) → applied o (vs a) (vs b) ≡ Ok y → Sets t s x (put vs t y) w (run_all r ms (put vs t y) w) → Sets t s x vs w (run_all r (mid.Set t o a b ∷ ms) vs w)
  sets_more t s y x a b o ms vs w e h = record {
    new = h.new;
    is = next (mid.Set t o a b) ms vs (put vs t y) w w (run_Set r t o a b vs w ∙ ap (or_stop t vs w) e) ∙ h.is;
    holds = h.holds;
    kept = λ i lt q. h.kept i lt q ∙ put_other vs t y i q;
  }

  -- the same of a variable above
  pub sets_above : (t s v y x a b : ℕ) (o : SetOp) (ms : List MidStmt) (vs : Vars) (w : World) → s ≤ v → applied o (vs a) (vs b) ≡ Ok y → Sets t s x (put vs v y) w (run_all r ms (put vs v y) w) → Sets t s x vs w (run_all r (mid.Set v o a b ∷ ms) vs w)
  sets_above t s v y x a b o ms vs w le e h = record {
    new = h.new;
    is = next (mid.Set v o a b) ms vs (put vs v y) w w (run_Set r v o a b vs w ∙ ap (or_stop v vs w) e) ∙ h.is;
    holds = h.holds;
    kept = λ i lt q. h.kept i lt q ∙ put_other vs v y i (inl (omega arith));
  }

  -- the same at last
  pub sets_last : (t s x a b : ℕ) (o : SetOp) (vs : Vars) (w : World) → applied o (vs a) (vs b) ≡ Ok x → Sets t s x vs w (run_all r (mid.Set t o a b ∷ []) vs w)
  sets_last t s x a b o vs w e = sets_more t s x x a b o [] vs w e (sets_done t s x (put vs t x) w (put_same vs t x))

  -- t and a number in the next variable
  below : (t n : ℕ) (vs : Vars) → put vs (t + 1) n t ≡ vs t
  below t n vs = put_other vs (t + 1) n t (inl (omega arith))

  -- an operator of t and a number
  pub sets_with : (t n x : ℕ) (o : SetOp) (vs : Vars) (w : World) → applied o (vs t) n ≡ Ok x → Sets t (t + 1) x vs w (run_all r (mid.Const (t + 1) n ∷ mid.Set t o t (t + 1) ∷ []) vs w)
  sets_with t n x o vs w e =
      let one = put vs (t + 1) n in
      sets_const t (t + 1) (t + 1) n x (mid.Set t o t (t + 1) ∷ []) vs w (omega arith) (sets_last t (t + 1) x t (t + 1) o one w (rw (below t n vs, put_same vs (t + 1) n) e))

  -- and of a number and t
  pub sets_from : (t n x : ℕ) (o : SetOp) (vs : Vars) (w : World) → applied o n (vs t) ≡ Ok x → Sets t (t + 1) x vs w (run_all r (mid.Const (t + 1) n ∷ mid.Set t o (t + 1) t ∷ []) vs w)
  sets_from t n x o vs w e =
      let one = put vs (t + 1) n in
      sets_const t (t + 1) (t + 1) n x (mid.Set t o (t + 1) t ∷ []) vs w (omega arith) (sets_last t (t + 1) x (t + 1) t o one w (rw (below t n vs, put_same vs (t + 1) n) e))

  pub plus_sets : (n t : ℕ) (vs : Vars) (w : World) → Sets t (t + 1) (ops.add (vs t) n) vs w (run_all r (code.plus n t) vs w)
  plus_sets n t vs w = sets_with t n (ops.add (vs t) n) op.Add vs w refl

  pub truth_sets : (t : ℕ) (vs : Vars) (w : World) → Sets t (t + 1) (truth (not (eqb (vs t) 0))) vs w (run_all r (code.truth t) vs w)
  truth_sets t vs w = sets_with t 0 (truth (not (eqb (vs t) 0))) op.Ne vs w refl

  pub scaled_sets : (size x s : ℕ) (vs : Vars) (w : World) → x < s → Sets x s (ops.multiply (vs x) size) vs w (run_all r (code.scaled size x s) vs w)
  scaled_sets size x s vs w lt =
      let one = put vs s size in
      sets_const x s s size (ops.multiply (vs x) size) (mid.Set x op.Mul x s ∷ []) vs w (omega arith)
      (sets_last x s (ops.multiply (vs x) size) x s op.Mul one w (rw (put_other vs s size x (inl lt), put_same vs s size) refl))

  pub counted_sets : (to : Option CType) (x s : ℕ) (vs : Vars) (w : World) → x < s → Sets x s (mean.counted to (vs x)) vs w (run_all r (code.counted to x s) vs w)
  counted_sets None x s vs w lt = sets_done x s (vs x) vs w refl
  counted_sets (Some to) x s vs w lt = scaled_sets (bytes_of to) x s vs w lt

  moved_one : (x y : ℕ) → ops.add x y ≡ ops.add x (ops.multiply y 1)
  moved_one x y = omega arith

  pub moved_sets : (size t : ℕ) (vs : Vars) (w : World) → Sets t (t + 1) (pointer_sum size (vs t) (vs (t + 1))) vs w (run_all r (code.moved_by size t) vs w)
  moved_sets size t vs w = test (eqb size 1) refl
    where
      x : ℕ
      x = pointer_sum size (vs t) (vs (t + 1))

      test : (b : Bool) → eqb size 1 ≡ b → Sets t (t + 1) x vs w (run_all r (cond b [] (code.scaled size (t + 1) (t + 2)) ++ mid.Set t op.Add t (t + 1) ∷ []) vs w)
      test true h =
          let one : size ≡ 1 = grind (arith, h) in
          sets_last t (t + 1) x t (t + 1) op.Add vs w (rw one (ap (λ (z : ℕ). Ok z) (moved_one (vs t) (vs (t + 1)))))
      test false h =
          let two = put vs (t + 2) size in
          let y = ops.multiply (vs (t + 1)) size in
          let e : applied op.Mul (two (t + 1)) (two (t + 2)) ≡ Ok y = rw (put_other vs (t + 2) size (t + 1) (inl (omega arith)), put_same vs (t + 2) size) refl in
          sets_const t (t + 1) (t + 2) size x (mid.Set (t + 1) op.Mul (t + 1) (t + 2) ∷ mid.Set t op.Add t (t + 1) ∷ []) vs w (omega arith)
          (sets_above t (t + 1) (t + 1) y x (t + 1) (t + 2) op.Mul (mid.Set t op.Add t (t + 1) ∷ []) two w (omega arith) e
          (sets_last t (t + 1) x t (t + 1) op.Add (put two (t + 1) y) w
          (rw (put_same two (t + 1) y, put_other two (t + 1) y t (inl (omega arith)), put_other vs (t + 2) size t (inl (omega arith))) refl)))

  even : (x : ℕ) → bit_xor (bit_or x 1) 1 ≡ aligned 2 x
  even x =
      let m : bit_and x 1 ≡ x % 2 = and_mask x 1 in
      let a : bit_or x 1 + bit_and x 1 ≡ x + 1 = or_add_and x 1 in
      let b : bit_xor (bit_or x 1) 1 + bit_and (bit_or x 1) 1 * 2 ≡ bit_or x 1 + 1 = xor_add_and (bit_or x 1) 1 in
      let c : bit_and (bit_or x 1) 1 ≡ 1 = and_or_self 1 x in
      omega (arith, m, a, b, c)

  pub cleared_sets : (t : ℕ) (vs : Vars) (w : World) → Sets t (t + 1) (aligned 2 (vs t)) vs w (run_all r (code.cleared t) vs w)
  cleared_sets t vs w =
      let one = put vs (t + 1) 1 in
      let y = bit_or (vs t) 1 in
      sets_const t (t + 1) (t + 1) 1 (aligned 2 (vs t)) (mid.Set t op.Or t (t + 1) ∷ mid.Set t op.Xor t (t + 1) ∷ []) vs w (omega arith)
      (sets_more t (t + 1) y (aligned 2 (vs t)) t (t + 1) op.Or (mid.Set t op.Xor t (t + 1) ∷ []) one w (rw (below t 1 vs, put_same vs (t + 1) 1) refl)
      (sets_last t (t + 1) (aligned 2 (vs t)) t (t + 1) op.Xor (put one t y) w
      (rw (put_same one t y, put_other one t y (t + 1) (inr (omega arith)), put_same vs (t + 1) 1) (ap (λ (z : ℕ). Ok z) (even (vs t))))))

  less_one : (y : ℕ) → ltb y 1 ≡ eqb y 0
  less_one y = grind arith

  pub is_even_sets : (t : ℕ) (vs : Vars) (w : World) → Sets t (t + 1) (truth (eqb (vs t % 2) 0)) vs w (run_all r (code.is_even t) vs w)
  is_even_sets t vs w =
      let one = put vs (t + 1) 1 in
      let y = bit_and (vs t) 1 in
      let x = truth (eqb (vs t % 2) 0) in
      let m : bit_and (vs t) 1 ≡ vs t % 2 = and_mask (vs t) 1 in
      sets_const t (t + 1) (t + 1) 1 x (mid.Set t op.And t (t + 1) ∷ mid.Set t op.LtU t (t + 1) ∷ []) vs w (omega arith)
      (sets_more t (t + 1) y x t (t + 1) op.And (mid.Set t op.LtU t (t + 1) ∷ []) one w (rw (below t 1 vs, put_same vs (t + 1) 1) refl)
      (sets_last t (t + 1) x t (t + 1) op.LtU (put one t y) w
      (rw (put_same one t y, put_other one t y (t + 1) (inr (omega arith)), put_same vs (t + 1) 1) (ap (λ (z : Bool). Ok (truth z)) (less_one y) ∙ ap (λ (z : ℕ). Ok (truth (eqb z 0))) m))))

  -- ---- an operator of one operand

  divided : (n : ℕ) → n / 1 ≡ n
  divided n = omega arith

  -- what is shifted by 0 with its sign is at most the greatest word
  saturated : (x : ℕ) → ops.subtract 0xFFFFFFFF (ops.shift_right_signed x 0) ≡ ops.complement x
  saturated x = test (ltb x 0x80000000) refl
    where
      test : (b : Bool) → ltb x 0x80000000 ≡ b → ops.subtract 0xFFFFFFFF (cond (not b) (ops.complement (ops.complement x / 1)) (x / 1)) ≡ ops.complement x
      test true h = let lt : x < 0x80000000 = grind (arith, h) in let e = divided x in omega (arith, lt, e)
      test false h = let e = divided (ops.complement x) in omega (arith, e)

  pub one_sets : (o : UnOp) (t : ℕ) (vs : Vars) (w : World) → Sets t (t + 1) (operate_one o (vs t)) vs w (run_all r (code.operation_one o t) vs w)
  one_sets un.Plus t vs w = sets_done t (t + 1) (vs t) vs w refl
  one_sets un.Minus t vs w = sets_from t 0 (ops.negate (vs t)) op.Sub vs w refl
  one_sets un.Not t vs w = sets_with t 0 (truth (eqb (vs t) 0)) op.Eq vs w refl
  one_sets un.Compl t vs w =
      let one = put vs (t + 1) 0 in
      let y = ops.shift_right_signed (vs t) 0 in
      sets_const t (t + 1) (t + 1) 0 (ops.complement (vs t)) (mid.Set t op.ShrS t (t + 1) ∷ mid.Const (t + 1) 0xFFFFFFFF ∷ mid.Set t op.Sub (t + 1) t ∷ []) vs w (omega arith)
      (sets_more t (t + 1) y (ops.complement (vs t)) t (t + 1) op.ShrS (mid.Const (t + 1) 0xFFFFFFFF ∷ mid.Set t op.Sub (t + 1) t ∷ []) one w (rw (below t 0 vs, put_same vs (t + 1) 0) refl)
      (sets_from t 0xFFFFFFFF (ops.complement (vs t)) op.Sub (put one t y) w (rw (put_same one t y) (ap (λ (z : ℕ). Ok z) (saturated (vs t))))))

  -- ---- conversions

  pub narrow_sets : (k t s : ℕ) (vs : Vars) (w : World) → Sets t s (narrowed k (vs t)) vs w (run_all r (code.narrow k t) vs w)
  narrow_sets zero t s vs w = sets_done t s (vs t) vs w refl
  narrow_sets (suc zero) t s vs w = sets_last t s (ops.to_signed 1 (vs t)) t t op.Sext8 vs w refl
  narrow_sets (suc (suc zero)) t s vs w = sets_last t s (ops.to_unsigned 1 (vs t)) t t op.Zext8 vs w refl
  narrow_sets (suc (suc (suc zero))) t s vs w = sets_last t s (ops.to_signed 2 (vs t)) t t op.Sext16 vs w refl
  narrow_sets (suc (suc (suc (suc zero)))) t s vs w = sets_last t s (ops.to_unsigned 2 (vs t)) t t op.Zext16 vs w refl
  narrow_sets (suc (suc (suc (suc (suc k))))) t s vs w = sets_done t s (vs t) vs w refl

pub kind_is : (t : Option Arith) (x : ℕ) → narrowed (code.kind_as t) x ≡ converted_as t x
kind_is None x = refl
kind_is (Some a.Char) x = refl
kind_is (Some a.SignedChar) x = refl
kind_is (Some a.UnsignedChar) x = refl
kind_is (Some a.Short) x = refl
kind_is (Some a.UnsignedShort) x = refl
kind_is (Some a.Int) x = refl
kind_is (Some a.Unsigned) x = refl
kind_is (Some a.Long) x = refl
kind_is (Some a.UnsignedLong) x = refl

pub convert_sets : (r : Site) (c : CType) (t s : ℕ) (vs : Vars) (w : World) → Sets t s (converted c (vs t)) vs w (run_all r (code.convert c t) vs w)
convert_sets r c t s vs w = subst (λ x. Sets t s x vs w (run_all r (code.convert c t) vs w)) (kind_is (arithmetic c) (vs t)) (narrow_sets r (code.kind_of c) t s vs w)

-- ---- an operator of two operands

-- its one statement
pub operation_is : (r : Site) (o : BinOp) (g : Bool) (v x y : ℕ) (vs : Vars) (w : World) → run r (code.operation o g v x y) vs w ≡ or_stop v vs w (operate o g (vs x) (vs y))
operation_is r bin.Mul g v x y vs w = run_Set r v op.Mul x y vs w
operation_is r bin.Div true v x y vs w = run_Set r v op.DivS x y vs w
operation_is r bin.Div false v x y vs w = run_Set r v op.DivU x y vs w
operation_is r bin.Rem true v x y vs w = run_Set r v op.RemS x y vs w
operation_is r bin.Rem false v x y vs w = run_Set r v op.RemU x y vs w
operation_is r bin.Add g v x y vs w = run_Set r v op.Add x y vs w
operation_is r bin.Sub g v x y vs w = run_Set r v op.Sub x y vs w
operation_is r bin.Shl g v x y vs w = run_Set r v op.Shl x y vs w
operation_is r bin.Shr true v x y vs w = run_Set r v op.ShrS x y vs w
operation_is r bin.Shr false v x y vs w = run_Set r v op.ShrU x y vs w
operation_is r bin.Lt true v x y vs w = run_Set r v op.LtS x y vs w
operation_is r bin.Lt false v x y vs w = run_Set r v op.LtU x y vs w
operation_is r bin.Gt true v x y vs w = run_Set r v op.LtS y x vs w
operation_is r bin.Gt false v x y vs w = run_Set r v op.LtU y x vs w
operation_is r bin.Le true v x y vs w = run_Set r v op.LeS x y vs w
operation_is r bin.Le false v x y vs w = run_Set r v op.LeU x y vs w
operation_is r bin.Ge true v x y vs w = run_Set r v op.LeS y x vs w
operation_is r bin.Ge false v x y vs w = run_Set r v op.LeU y x vs w
operation_is r bin.Eq g v x y vs w = run_Set r v op.Eq x y vs w
operation_is r bin.Ne g v x y vs w = run_Set r v op.Ne x y vs w
operation_is r bin.And g v x y vs w = run_Set r v op.And x y vs w
operation_is r bin.Xor g v x y vs w = run_Set r v op.Xor x y vs w
operation_is r bin.Or g v x y vs w = run_Set r v op.Or x y vs w

-- ---- as a part of a tree that gives x and leaves all else

pub sets_runs : (fr : Frame) → IsFrame fr → (t s x p : ℕ) (l : List ℕ) (vs old : Vars) (w : World) (o : Out) → fr.free ≤ t → t < s → p ≤ w.peak → Agrees fr l old → Kept fr.free t vs old → Sets t s x old (low p w) o → Runs (Value fr t vs) (Has x l w) o
sets_runs fr good t s x p l vs old w o nt ts le g k h =
    subst (λ z. Runs (Value fr t vs) (Has x l w) z) (sym h.is)
    (left (Value fr t vs) x l h.new w p le (record {
      holds = h.holds;
      locals = agrees_on fr l old h.new good (λ i lt. h.kept i (omega arith) (inl (omega arith))) g;
      kept = record { at = λ i a b. h.kept i (omega arith) (inl b) ∙ k.at i a b };
    }))
