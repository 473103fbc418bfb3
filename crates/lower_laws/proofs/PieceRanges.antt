-- The numbers in pieces of code are in range.
use Rattle.std.proofs.Common.{◌≡◌, ℕ, zero, suc, ◌+◌, ◌<◌, ◌≤◌, ◌&&◌, Bool, true, false, cond, List, [], ◌∷◌, ◌++◌, refl, ◌∙◌, arith, Option, Some, None}
use Rattle.std.specs.Prelude.{eqb, nat_lt, nat_le}
use Rattle.c_types.specs.declared.arith.Arith.{Arith}
use Rattle.c_types.specs.declared.arith.Arith.TheVariants as a
use Rattle.c_types.specs.declared.ctype.CType.{CType}
use Rattle.c_types.specs.Kind.{arithmetic, referenced}
use Rattle.c_tree.specs.Slots.{bytes_of}
use Rattle.c_tree.specs.declared.expr.BinOp.{BinOp}
use Rattle.c_tree.specs.declared.expr.BinOp.TheVariants as bin
use Rattle.c_tree.specs.declared.expr.UnOp.{UnOp}
use Rattle.c_tree.specs.declared.expr.UnOp.TheVariants as un
use Rattle.c_mean.specs.Exprs.{done_signed}
use Rattle.c_mean.specs.Values.{value_size, size_as}
use Rattle.mid_ir.specs.declared.stmt.MidStmt.{MidStmt}
use Rattle.mid_ir.specs.declared.stmt.MidStmt.TheVariants as mid
use Rattle.mid_ir.specs.declared.stmt.SetOp.{SetOp}
use Rattle.mid_ir.specs.declared.stmt.SetOp.TheVariants as op
use Rattle.mid_ir.specs.Numbers.{Around, is_var, are_vars, is_size, is_kind, in_range}
use Rattle.mid_ir.proofs.RangeLaws.{all_in_range, range_Seq, range_Const, range_Set, range_Home, range_Load, range_Store, range_If, range_Loop, range_Block, range_Break, range_Return, all_in_range_append}
use Rattle.lower_code.specs.Pieces.{kind_as, kind_of, narrow, convert, has_sign, load, store, operation, operation_one, truth, plus, scaled, counted, moved_by, apart, cleared, is_even, choose, places}
use Rattle.lower_code.specs.Exprs.{Base, InBlock, Fixed, base, Change, changed, change_at, step_held, step_at}
use Rattle.lower_code.specs.Stmts.{block, loop}

pub both : (a b : Bool) → a ≡ true → b ≡ true → (a && b) ≡ true
both true b h k = k
both false b h k = h

size_in : (t : Option Arith) → is_size (size_as t) ≡ true
size_in None = refl
size_in (Some a.Char) = refl
size_in (Some a.SignedChar) = refl
size_in (Some a.UnsignedChar) = refl
size_in (Some a.Short) = refl
size_in (Some a.UnsignedShort) = refl
size_in (Some a.Int) = refl
size_in (Some a.Unsigned) = refl
size_in (Some a.Long) = refl
size_in (Some a.UnsignedLong) = refl

pub kind_in : (t : Option Arith) → is_kind (kind_as t) ≡ true
kind_in None = refl
kind_in (Some a.Char) = refl
kind_in (Some a.SignedChar) = refl
kind_in (Some a.UnsignedChar) = refl
kind_in (Some a.Short) = refl
kind_in (Some a.UnsignedShort) = refl
kind_in (Some a.Int) = refl
kind_in (Some a.Unsigned) = refl
kind_in (Some a.Long) = refl
kind_in (Some a.UnsignedLong) = refl

module _ (R : Around) where
  pub var_in : (v : ℕ) → v < R.vars → is_var R v ≡ true
  var_in v h = grind (arith, h)

  pub first_in : (x : MidStmt) (xs : List MidStmt) (k : ℕ) → in_range R x k ≡ true → all_in_range R xs k ≡ true → all_in_range R (x ∷ xs) k ≡ true
  first_in x xs k h i = both (in_range R x k) (all_in_range R xs k) h i

  pub one_in : (x : MidStmt) (k : ℕ) → in_range R x k ≡ true → all_in_range R (x ∷ []) k ≡ true
  one_in x k h = first_in x [] k h refl

  pub append_in : (xs ys : List MidStmt) (k : ℕ) → all_in_range R xs k ≡ true → all_in_range R ys k ≡ true → all_in_range R (xs ++ ys) k ≡ true
  append_in xs ys k h i = all_in_range_append R xs ys k ∙ both (all_in_range R xs k) (all_in_range R ys k) h i

  pub const_in : (v n k : ℕ) → v < R.vars → in_range R (mid.Const v n) k ≡ true
  const_in v n k h = range_Const R v n k ∙ var_in v h

  pub set_in : (v : ℕ) (o : SetOp) (x y k : ℕ) → v < R.vars → x < R.vars → y < R.vars → in_range R (mid.Set v o x y) k ≡ true
  set_in v o x y k h i j = range_Set R v o x y k ∙ both (is_var R v) (is_var R x && (is_var R y && true)) (var_in v h) (both (is_var R x) (is_var R y && true) (var_in x i) (both (is_var R y) true (var_in y j) refl))

  pub home_in : (v offset k : ℕ) → v < R.vars → offset ≤ R.block → in_range R (mid.Home v offset) k ≡ true
  home_in v offset k h i = let q : nat_le offset R.block ≡ true = grind (arith, i) in range_Home R v offset k ∙ both (is_var R v) (nat_le offset R.block) (var_in v h) q

  pub load_in : (c : CType) (v at k : ℕ) → v < R.vars → at < R.vars → in_range R (load c v at) k ≡ true
  load_in c v at k h i =
      range_Load R v at (value_size c) (has_sign (kind_of c)) k
      ∙ both (is_var R v && (is_var R at && true)) (is_size (value_size c)) (both (is_var R v) (is_var R at && true) (var_in v h) (both (is_var R at) true (var_in at i) refl)) (size_in (arithmetic c))

  pub store_in : (c : CType) (at v k : ℕ) → at < R.vars → v < R.vars → in_range R (store c at v) k ≡ true
  store_in c at v k h i =
      range_Store R at (value_size c) v k
      ∙ both (is_var R at && (is_var R v && true)) (is_size (value_size c)) (both (is_var R at) (is_var R v && true) (var_in at h) (both (is_var R v) true (var_in v i) refl)) (size_in (arithmetic c))

  pub break_in : (n k : ℕ) → n < k → in_range R (mid.Break n) k ≡ true
  break_in n k h = let q : nat_lt n k ≡ true = grind (arith, h) in range_Break R n k ∙ q

  pub return_in : (v k : ℕ) → v < R.vars → in_range R (mid.Return v) k ≡ true
  return_in v k h = range_Return R v k ∙ var_in v h

  pub choose_in : (v : ℕ) (on off : List MidStmt) (k : ℕ) → v < R.vars → all_in_range R on k ≡ true → all_in_range R off k ≡ true → in_range R (choose v on off) k ≡ true
  choose_in v on off k h i j =
      range_If R v (mid.Seq on) (mid.Seq off) k
      ∙ both (is_var R v) (in_range R (mid.Seq on) k && in_range R (mid.Seq off) k) (var_in v h) (both (in_range R (mid.Seq on) k) (in_range R (mid.Seq off) k) (range_Seq R on k ∙ i) (range_Seq R off k ∙ j))

  pub block_in : (ms : List MidStmt) (k : ℕ) → all_in_range R ms (suc k) ≡ true → in_range R (block ms) k ≡ true
  block_in ms k h = range_Block R (mid.Seq ms) k ∙ range_Seq R ms (suc k) ∙ h

  pub loop_in : (ms : List MidStmt) (k : ℕ) → all_in_range R ms (suc k) ≡ true → in_range R (loop ms) k ≡ true
  loop_in ms k h = range_Loop R (mid.Seq ms) k ∙ range_Seq R ms (suc k) ∙ h

  pub narrow_in : (kind t k : ℕ) → t < R.vars → all_in_range R (narrow kind t) k ≡ true
  narrow_in zero t k h = refl
  narrow_in (suc zero) t k h = one_in (mid.Set t op.Sext8 t t) k (set_in t op.Sext8 t t k h h h)
  narrow_in (suc (suc zero)) t k h = one_in (mid.Set t op.Zext8 t t) k (set_in t op.Zext8 t t k h h h)
  narrow_in (suc (suc (suc zero))) t k h = one_in (mid.Set t op.Sext16 t t) k (set_in t op.Sext16 t t k h h h)
  narrow_in (suc (suc (suc (suc zero)))) t k h = one_in (mid.Set t op.Zext16 t t) k (set_in t op.Zext16 t t k h h h)
  narrow_in (suc (suc (suc (suc (suc n))))) t k h = refl

  pub operation_in : (o : BinOp) (g : Bool) (v x y k : ℕ) → v < R.vars → x < R.vars → y < R.vars → in_range R (operation o g v x y) k ≡ true
  operation_in bin.Mul g v x y k h i j = set_in v op.Mul x y k h i j
  operation_in bin.Div true v x y k h i j = set_in v op.DivS x y k h i j
  operation_in bin.Div false v x y k h i j = set_in v op.DivU x y k h i j
  operation_in bin.Rem true v x y k h i j = set_in v op.RemS x y k h i j
  operation_in bin.Rem false v x y k h i j = set_in v op.RemU x y k h i j
  operation_in bin.Add g v x y k h i j = set_in v op.Add x y k h i j
  operation_in bin.Sub g v x y k h i j = set_in v op.Sub x y k h i j
  operation_in bin.Shl g v x y k h i j = set_in v op.Shl x y k h i j
  operation_in bin.Shr true v x y k h i j = set_in v op.ShrS x y k h i j
  operation_in bin.Shr false v x y k h i j = set_in v op.ShrU x y k h i j
  operation_in bin.Lt true v x y k h i j = set_in v op.LtS x y k h i j
  operation_in bin.Lt false v x y k h i j = set_in v op.LtU x y k h i j
  operation_in bin.Gt true v x y k h i j = set_in v op.LtS y x k h j i
  operation_in bin.Gt false v x y k h i j = set_in v op.LtU y x k h j i
  operation_in bin.Le true v x y k h i j = set_in v op.LeS x y k h i j
  operation_in bin.Le false v x y k h i j = set_in v op.LeU x y k h i j
  operation_in bin.Ge true v x y k h i j = set_in v op.LeS y x k h j i
  operation_in bin.Ge false v x y k h i j = set_in v op.LeU y x k h j i
  operation_in bin.Eq g v x y k h i j = set_in v op.Eq x y k h i j
  operation_in bin.Ne g v x y k h i j = set_in v op.Ne x y k h i j
  operation_in bin.And g v x y k h i j = set_in v op.And x y k h i j
  operation_in bin.Xor g v x y k h i j = set_in v op.Xor x y k h i j
  operation_in bin.Or g v x y k h i j = set_in v op.Or x y k h i j

  -- a number, and an operator of it and t
  with_in : (n t x y : ℕ) (o : SetOp) (k : ℕ) → t + 1 < R.vars → x < R.vars → y < R.vars → all_in_range R (mid.Const (t + 1) n ∷ mid.Set t o x y ∷ []) k ≡ true
  with_in n t x y o k h i j = first_in (mid.Const (t + 1) n) (mid.Set t o x y ∷ []) k (const_in (t + 1) n k h) (one_in (mid.Set t o x y) k (set_in t o x y k (omega (arith, h)) i j))

  pub operation_one_in : (o : UnOp) (t k : ℕ) → t + 1 < R.vars → all_in_range R (operation_one o t) k ≡ true
  operation_one_in un.Plus t k h = refl
  operation_one_in un.Minus t k h = with_in 0 t (t + 1) t op.Sub k h h (omega (arith, h))
  operation_one_in un.Compl t k h = append_in (mid.Const (t + 1) 0 ∷ mid.Set t op.ShrS t (t + 1) ∷ []) (mid.Const (t + 1) 0xFFFFFFFF ∷ mid.Set t op.Sub (t + 1) t ∷ []) k (with_in 0 t t (t + 1) op.ShrS k h (omega (arith, h)) h) (with_in 0xFFFFFFFF t (t + 1) t op.Sub k h h (omega (arith, h)))
  operation_one_in un.Not t k h = with_in 0 t t (t + 1) op.Eq k h (omega (arith, h)) h

  pub truth_in : (t k : ℕ) → t + 1 < R.vars → all_in_range R (truth t) k ≡ true
  truth_in t k h = with_in 0 t t (t + 1) op.Ne k h (omega (arith, h)) h

  pub plus_in : (n t k : ℕ) → t + 1 < R.vars → all_in_range R (plus n t) k ≡ true
  plus_in n t k h = with_in n t t (t + 1) op.Add k h (omega (arith, h)) h

  scaled_in : (size x s k : ℕ) → x < R.vars → s < R.vars → all_in_range R (scaled size x s) k ≡ true
  scaled_in size x s k h i = first_in (mid.Const s size) (mid.Set x op.Mul x s ∷ []) k (const_in s size k i) (one_in (mid.Set x op.Mul x s) k (set_in x op.Mul x s k h h i))

  counted_in : (to : Option CType) (x s k : ℕ) → x < R.vars → s < R.vars → all_in_range R (counted to x s) k ≡ true
  counted_in None x s k h i = refl
  counted_in (Some to) x s k h i = scaled_in (bytes_of to) x s k h i

  pub moved_in : (size t k : ℕ) → t + 2 < R.vars → all_in_range R (moved_by size t) k ≡ true
  moved_in size t k h = test (eqb size 1)
    where
      last : all_in_range R (mid.Set t op.Add t (t + 1) ∷ []) k ≡ true
      last = one_in (mid.Set t op.Add t (t + 1)) k (set_in t op.Add t (t + 1) k (omega (arith, h)) (omega (arith, h)) (omega (arith, h)))

      test : (b : Bool) → all_in_range R (cond b [] (scaled size (t + 1) (t + 2)) ++ mid.Set t op.Add t (t + 1) ∷ []) k ≡ true
      test true = last
      test false = append_in (scaled size (t + 1) (t + 2)) (mid.Set t op.Add t (t + 1) ∷ []) k (scaled_in size (t + 1) (t + 2) k (omega (arith, h)) h) last

  pub apart_in : (size t k : ℕ) → t + 1 < R.vars → all_in_range R (apart size t) k ≡ true
  apart_in size t k h =
      let g : t < R.vars = omega (arith, h) in
      first_in (mid.Set t op.Sub t (t + 1)) (mid.Const (t + 1) size ∷ mid.Set t op.DivS t (t + 1) ∷ []) k (set_in t op.Sub t (t + 1) k g g h) (with_in size t t (t + 1) op.DivS k h g h)

  pub cleared_in : (t k : ℕ) → t + 1 < R.vars → all_in_range R (cleared t) k ≡ true
  cleared_in t k h =
      let g : t < R.vars = omega (arith, h) in
      append_in (mid.Const (t + 1) 1 ∷ mid.Set t op.Or t (t + 1) ∷ []) (mid.Set t op.Xor t (t + 1) ∷ []) k (with_in 1 t t (t + 1) op.Or k h g h) (one_in (mid.Set t op.Xor t (t + 1)) k (set_in t op.Xor t (t + 1) k g g h))

  pub even_in : (t k : ℕ) → t + 1 < R.vars → all_in_range R (is_even t) k ≡ true
  even_in t k h =
      let g : t < R.vars = omega (arith, h) in
      append_in (mid.Const (t + 1) 1 ∷ mid.Set t op.And t (t + 1) ∷ []) (mid.Set t op.LtU t (t + 1) ∷ []) k (with_in 1 t t (t + 1) op.And k h g h) (one_in (mid.Set t op.LtU t (t + 1)) k (set_in t op.LtU t (t + 1) k g g h))

  abbrev pub BaseIn : Base → Type 0
  BaseIn (InBlock offset) = offset ≤ R.block
  BaseIn (Fixed at) = Unit {0}

  pub base_in : (b : Base) (v k : ℕ) → v < R.vars → BaseIn b → in_range R (base b v) k ≡ true
  base_in (InBlock offset) v k h i = home_in v offset k h i
  base_in (Fixed at) v k h i = const_in v at k h

  pub changed_in : (c : Change) (v x s : ℕ) (rest : List MidStmt) (k : ℕ) → v < R.vars → x < R.vars → s < R.vars → all_in_range R rest k ≡ true → all_in_range R (changed c v x s rest) k ≡ true
  changed_in c v x s rest k h i j l =
      let o = operation c.op (done_signed c.op c.place c.operand) x v x in
      append_in (counted (referenced c.place) x s) (o ∷ (convert c.place x ++ rest)) k (counted_in (referenced c.place) x s k i j)
      (first_in o (convert c.place x ++ rest) k (operation_in c.op (done_signed c.op c.place c.operand) x v x k i h i) (append_in (convert c.place x) rest k (narrow_in (kind_of c.place) x k i) l))

  pub change_in : (c : Change) (at x s : ℕ) (rest : List MidStmt) (k : ℕ) → at < R.vars → x < R.vars → s + 1 < R.vars → all_in_range R rest k ≡ true → all_in_range R (change_at c at x s rest) k ≡ true
  change_in c at x s rest k h i j l =
      first_in (load c.place s at) (changed c s x (s + 1) (store c.place at x ∷ rest)) k (load_in c.place s at k (omega (arith, j)) h)
      (changed_in c s x (s + 1) (store c.place at x ∷ rest) k (omega (arith, j)) i j (first_in (store c.place at x) rest k (store_in c.place at x k h i) l))

  pub held_in : (c : CType) (by v s : ℕ) (rest : List MidStmt) (k : ℕ) → v < R.vars → s < R.vars → all_in_range R rest k ≡ true → all_in_range R (step_held c by v s rest) k ≡ true
  held_in c by v s rest k h i l =
      first_in (mid.Const s by) (mid.Set v op.Add v s ∷ (convert c v ++ rest)) k (const_in s by k i)
      (first_in (mid.Set v op.Add v s) (convert c v ++ rest) k (set_in v op.Add v s k h h i) (append_in (convert c v) rest k (narrow_in (kind_of c) v k h) l))

  pub step_in : (c : CType) (by v t k : ℕ) → v < R.vars → t + 2 < R.vars → all_in_range R (step_at c by v t) k ≡ true
  step_in c by v t k h i =
      let g : t < R.vars = omega (arith, i) in
      let j : t + 1 < R.vars = omega (arith, i) in
      let last = convert c v ++ store c (t + 1) v ∷ [] in
      first_in (load c t (t + 1)) (mid.Const (t + 2) by ∷ mid.Set v op.Add t (t + 2) ∷ last) k (load_in c t (t + 1) k g j)
      (first_in (mid.Const (t + 2) by) (mid.Set v op.Add t (t + 2) ∷ last) k (const_in (t + 2) by k i)
      (first_in (mid.Set v op.Add t (t + 2)) last k (set_in v op.Add t (t + 2) k h g i)
      (append_in (convert c v) (store c (t + 1) v ∷ []) k (narrow_in (kind_of c) v k h) (one_in (store c (t + 1) v) k (store_in c (t + 1) v k j h)))))

  -- variables one after another
  pub places_in : (t n : ℕ) → t + n ≤ R.vars → are_vars R (places t n) ≡ true
  places_in t zero h = refl
  places_in t (suc n) h = both (is_var R t) (are_vars R (places (t + 1) n)) (var_in t (omega (arith, h))) (places_in (t + 1) n (omega (arith, h)))
