-- Places: what is read there, and what is written.
use Rattle.std.proofs.Common.{◌≡◌, ℕ, ◌+◌, ◌<◌, ◌≤◌, ◌≢◌, Bool, true, false, cond, List, [], ◌∷◌, ◌++◌, length, refl, sym, ap, ◌∙◌, subst, inl, arith, Some, slice_get, slice_index, slice_set}
use Rattle.std.specs.Prelude.{eqb, leb}
use Rattle.std.proofs.lemmas.List.{length-set, get_or-set_same, get_or-set_other}
use Rattle.std.proofs.lemmas.Option.{slice_get_within}
use Rattle.ns_types.specs.Operators.{wrapped}
use Rattle.ns_types.specs.CRun.{World}
use Rattle.ns_types.specs.Alike.{low}
use Rattle.c_types.specs.declared.ctype.CType.{CType}
use Rattle.c_mean.specs.Parts as tree
use Rattle.c_mean.specs.Parts.{Has, Ends, Part, then_with, or_halt}
use Rattle.c_mean.specs.Values.{Spot, Unplaced, At, moved, converted, read_spot, write_spot}
use Rattle.c_mean.specs.Values as values
use Rattle.c_mean.specs.Exprs.{constant}
use Rattle.mid_ir.specs.declared.stmt.MidStmt.{MidStmt}
use Rattle.mid_ir.specs.declared.stmt.MidStmt.TheVariants as mid
use Rattle.mid_ir.specs.declared.stmt.SetOp.TheVariants as op
use Rattle.mid_ir.specs.Activation.{Vars, put, Site}
use Rattle.mid_ir.specs.Run.{Out, Next, then_do, or_stop, run, run_all}
use Rattle.mid_ir.proofs.RunLaws.{run_Const, run_Home, run_all_append}
use Rattle.lower_code.specs.Frames.{Variable, Frame}
use Rattle.lower_code.specs.Pieces as piece
use Rattle.lower_code.specs.Exprs as code
use Rattle.lower_code.specs.Exprs.{Codes, Base, InBlock, Fixed, Place, Held, Based, Computed, Change}
use Rattle.lower_laws.proofs.Relate.{put_same, put_other, Agrees, IsFrame, Kept, kept_self, kept_on, agrees_on, Runs, Value, left, weaker, then_runs, then_value}
use Rattle.lower_laws.proofs.Straight.{next, sets_last, plus_sets, sets_runs}
use Rattle.lower_laws.proofs.Accesses.{Put, load_puts}

-- the same part, with nothing behind it
pub then_has : {A : Type 0} (a : tree.Out A) → then_with a (λ x l w. Has x l w) ≡ a
then_has (Has x l w) = refl
then_has (Ends e w) = refl

pub then_then : {A B C : Type 0} (a : tree.Out A) (f : A → Part B) (g : B → Part C) → then_with (then_with a f) g ≡ then_with a (λ x l w. then_with (f x l w) g)
then_then (Has x l w) f g = refl
then_then (Ends e w) f g = refl

-- a part, and code behind it that is no part of the tree
pub and_runs : {A : Type 0} (G H : A → List ℕ → Vars → Type 0) (a : tree.Out A) (o : Out) (g : Vars → World → Out) → Runs G a o
    → ((x : A) (l : List ℕ) (new : Vars) (w : World) (p : ℕ) → p ≤ w.peak → G x l new → Runs H (Has x l w) (g new (low p w))) → Runs H a (then_do o g)
and_runs G H a o g r h = subst (λ z. Runs H z (then_do o g)) (then_has a) (then_runs G H a o (λ x l w. Has x l w) g r h)

-- a local is set, in its variable and in the list
pub agrees_set : (fr : Frame) (i v x : ℕ) (l : List ℕ) (vs new : Vars) → IsFrame fr → slice_get fr.homes i ≡ Some (Variable v) → new v ≡ x → ((u : ℕ) → u < fr.free → u ≢ v → new u ≡ vs u) → Agrees fr l vs → Agrees fr (slice_set l i x) new
agrees_set fr i v x l vs new good home is same g = record { many = length-set l i x ∙ g.many; at = λ j u h. by (eqb j i) (eqb u v) j u h refl refl }
  where
    variable : (a b : ℕ) → Some (Variable a) ≡ Some (Variable b) → a ≡ b
    variable a b e = cc

    by : (b d : Bool) (j u : ℕ) → slice_get fr.homes j ≡ Some (Variable u) → eqb j i ≡ b → eqb u v ≡ d → new u ≡ slice_index (slice_set l i x) j
    by true d j u h p q =
        let e : j ≡ i = grind (arith, p) in
        let f : u ≡ v = variable u v (sym h ∙ ap (slice_get fr.homes) e ∙ home) in
        let lt : i < length l = subst (λ n. i < n) (sym g.many) (slice_get_within fr.homes i (Variable v) home) in
        ap new f ∙ is ∙ sym (ap (slice_index (slice_set l i x)) e ∙ get_or-set_same l i x 0 lt)
    by false true j u h p q =
        let f : u ≡ v = grind (arith, q) in
        let e : j ≡ i = good.apart j i v (h ∙ ap (λ (z : ℕ). Some (Variable z)) f) home in
        absurd (grind (arith, p, e))
    by false false j u h p q =
        let ne : j ≢ i = grind (arith, p) in
        let nv : u ≢ v = grind (arith, q) in
        same u (good.below j u h) nv ∙ g.at j u h ∙ sym (get_or-set_other l i j x 0 ne)

-- x is in v, the locals agree, and the variables from the free ones on below t are kept
pub record Holds (fr : Frame) (t v : ℕ) (vs : Vars) (x : ℕ) (l : List ℕ) (new : Vars) : Type 0 where
  pub holds : new v ≡ x
  pub locals : Agrees fr l new
  pub kept : Kept fr.free t vs new

module _ (fr : Frame) (good : IsFrame fr) (r : Site) (room : r.block + fr.bytes < 4294967296) where
  -- what code does in place of an expression, from any variables that agree with the locals
  pub record Does (a : Part ℕ) (c : Codes) : Type 0 where
    pub by : (t : ℕ) → fr.free ≤ t → (l : List ℕ) (vs : Vars) (w : World) (p : ℕ) → p ≤ w.peak → Agrees fr l vs → Runs (Value fr t vs) (a l w) (run_all r (c t) vs (low p w))

  -- code for a value, and what follows it
  pub more : {B : Type 0} (t : ℕ) (vs : Vars) (H : B → List ℕ → Vars → Type 0) (l : List ℕ) (w : World) (p : ℕ) (a : Part ℕ) (c d : List MidStmt) (f : ℕ → Part B) → Runs (Value fr t vs) (a l w) (run_all r c vs (low p w))
      → ((l : List ℕ) (new : Vars) (w : World) (p : ℕ) → p ≤ w.peak → Agrees fr l new → Kept fr.free t vs new → Runs H (f (new t) l w) (run_all r d new (low p w)))
      → Runs H (then_with (a l w) f) (run_all r (c ++ d) vs (low p w))
  more t vs H l w p a c d f h k = subst (λ o. Runs H (then_with (a l w) f) o) (sym (run_all_append r c d vs (low p w))) (then_value fr t vs H (a l w) (run_all r c vs (low p w)) f (run_all r d) h k)

  -- code for two values, and what follows them
  pub two : {B : Type 0} (t : ℕ) (vs : Vars) (H : B → List ℕ → Vars → Type 0) (l : List ℕ) (w : World) (p : ℕ) (a b : Part ℕ) (c d : Codes) (e : List MidStmt) (f : ℕ → ℕ → Part B)
      → fr.free ≤ t → p ≤ w.peak → Agrees fr l vs → Does a c → Does b d
      → ((l : List ℕ) (new : Vars) (w : World) (p : ℕ) → p ≤ w.peak → Agrees fr l new → Kept fr.free t vs new → Runs H (f (new t) (new (t + 1)) l w) (run_all r e new (low p w)))
      → Runs H (then_with (a l w) (λ x m u. then_with (b m u) (f x))) (run_all r (c t ++ (d (t + 1) ++ e)) vs (low p w))
  two t vs H l w p a b c d e f nt le g h k last =
      more t vs H l w p a (c t) (d (t + 1) ++ e) _ (h.by t nt l vs w p le g)
      (λ l new w p le g kp. more (t + 1) new H l w p b (d (t + 1)) e (f (new t)) (k.by (t + 1) (omega arith) l new w p le g)
      (λ l end w p le g kq. subst (λ x. Runs H (f x (end (t + 1)) l w) (run_all r e end (low p w))) (kq.at t nt (omega arith))
      (last l end w p le g (kept_on fr.free t (t + 1) vs new end (omega arith) kp kq))))

  -- one statement
  pub one_is : (m : MidStmt) (vs : Vars) (w : World) → run_all r (m ∷ []) vs w ≡ run r m vs w
  one_is m vs w = ends (run r m vs w)
    where
      ends : (o : Out) → then_do o (λ us u. Next us u) ≡ o
      ends (Next us u) = refl
      ends (Rattle.mid_ir.specs.Run.Broke k us u) = refl
      ends (Rattle.mid_ir.specs.Run.Gives x u) = refl
      ends (Rattle.mid_ir.specs.Run.Stops e u) = refl

  -- x is put into t
  pub put_value : (t x : ℕ) (l : List ℕ) (vs old : Vars) → fr.free ≤ t → Agrees fr l old → Kept fr.free t vs old → Value fr t vs x l (put old t x)
  put_value t x l vs old nt g k = record {
    holds = put_same old t x;
    locals = agrees_on fr l old (put old t x) good (λ i lt. put_other old t x i (inl (omega arith))) g;
    kept = record { at = λ i a b. put_other old t x i (inl b) ∙ k.at i a b };
  }

  pub const_does : (x : ℕ) → Does (λ l w. Has x l w) (λ t. mid.Const t x ∷ [])
  const_does x = record {
    by = λ t nt l vs w p le g.
        subst (λ o. Runs (Value fr t vs) (Has x l w) o) (sym (one_is (mid.Const t x) vs (low p w) ∙ run_Const r t x vs (low p w)))
        (left (Value fr t vs) x l (put vs t x) w p le (put_value t x l vs vs nt g (kept_self fr.free t vs)));
  }

  -- what is put into a variable is a value
  pub puts_value : (t p : ℕ) (l : List ℕ) (vs old : Vars) (w : World) (a : tree.Out ℕ) (o : Out) → fr.free ≤ t → Agrees fr l old → Kept fr.free t vs old → Runs (Put t l old) a o → Runs (Value fr t vs) a o
  puts_value t p l vs old w a o nt g k h =
      weaker (Put t l old) (Value fr t vs) a o
      (λ x m new q. subst (λ z. Value fr t vs x z new) (sym q.list) (subst (λ z. Value fr t vs x l z) (sym q.vars) (put_value t x l vs old nt g k))) h

  -- ---- what a place is

  abbrev pub base_at : Base → ℕ
  base_at (InBlock offset) = r.block + offset
  base_at (Fixed at) = at

  abbrev pub IsWithin : Base → Type 0
  IsWithin (InBlock offset) = offset ≤ fr.bytes
  IsWithin (Fixed at) = Unit {0}

  pub record HeldAt (p : Part Spot) (v : ℕ) : Type 0 where
    pub local : ℕ
    pub home : slice_get fr.homes local ≡ Some (Variable v)
    pub is : (l : List ℕ) (w : World) → p l w ≡ Has (Unplaced local) l w

  pub record BasedAt (p : Part Spot) (b : Base) : Type 0 where
    pub within : IsWithin b
    pub is : (l : List ℕ) (w : World) → p l w ≡ Has (At (base_at b)) l w

  pub record ComputedAt (p : Part Spot) (c : Codes) : Type 0 where
    pub at : Part ℕ
    pub is : (l : List ℕ) (w : World) → p l w ≡ then_with (at l w) (λ x m u. Has (At x) m u)
    pub does : Does at c

  abbrev pub Stands : Part Spot → Place → Type 0
  Stands p (Held v) = HeldAt p v
  Stands p (Based b) = BasedAt p b
  Stands p (Computed c) = ComputedAt p c

  pub base_is : (b : Base) (v : ℕ) (vs : Vars) (w : World) → run r (code.base b v) vs w ≡ Next (put vs v (base_at b)) w
  base_is (InBlock offset) v vs w = run_Home r v offset vs w
  base_is (Fixed at) v vs w = run_Const r v at vs w

  -- code for a base, and what follows it
  pub after_base : (b : Base) (v : ℕ) (ms : List MidStmt) (vs : Vars) (w : World) → run_all r (code.base b v ∷ ms) vs w ≡ run_all r ms (put vs v (base_at b)) w
  after_base b v ms vs w = next r (code.base b v) ms vs (put vs v (base_at b)) w w (base_is b v vs w)

  -- a part that begins with a place of each form
  pub at_held : {B : Type 0} (H : B → List ℕ → Vars → Type 0) (p : Part Spot) (v : ℕ) (s : HeldAt p v) (f : Spot → Part B) (l : List ℕ) (w : World) (o : Out) → Runs H (f (Unplaced s.local) l w) o → Runs H (then_with (p l w) f) o
  at_held H p v s f l w o h = subst (λ z. Runs H (then_with z f) o) (sym (s.is l w)) h

  pub at_based : {B : Type 0} (H : B → List ℕ → Vars → Type 0) (p : Part Spot) (b : Base) (s : BasedAt p b) (f : Spot → Part B) (l : List ℕ) (w : World) (o : Out) → Runs H (f (At (base_at b)) l w) o → Runs H (then_with (p l w) f) o
  at_based H p b s f l w o h = subst (λ z. Runs H (then_with z f) o) (sym (s.is l w)) h

  pub at_computed : {B : Type 0} (H : B → List ℕ → Vars → Type 0) (p : Part Spot) (c : Codes) (s : ComputedAt p c) (f : Spot → Part B) (l : List ℕ) (w : World) (o : Out) → Runs H (then_with (s.at l w) (λ x m u. f (At x) m u)) o → Runs H (then_with (p l w) f) o
  at_computed H p c s f l w o h = subst (λ z. Runs H z o) (sym (ap (λ z. then_with z f) (s.is l w) ∙ then_then (s.at l w) (λ x m u. Has (At x) m u) f)) h

  -- ---- its address

  pub address_does : (p : Part Spot) (z : Place) → Stands p z → Does (λ l w. then_with (p l w) (λ s. constant (values.address s))) (code.address z)
  address_does p (Held v) s = record { by = λ t nt l vs w k le g. at_held (Value fr t vs) p v s _ l w _ ((const_does 0).by t nt l vs w k le g) }
  address_does p (Based b) s = record {
    by = λ t nt l vs w k le g.
        at_based (Value fr t vs) p b s _ l w _
        (subst (λ o. Runs (Value fr t vs) (Has (base_at b) l w) o) (sym (after_base b t [] vs (low k w))) (left (Value fr t vs) (base_at b) l (put vs t (base_at b)) w k le (put_value t (base_at b) l vs vs nt g (kept_self fr.free t vs))));
  }
  address_does p (Computed c) s = record {
    by = λ t nt l vs w k le g.
        at_computed (Value fr t vs) p c s _ l w _ (subst (λ z. Runs (Value fr t vs) z (run_all r (c t) vs (low k w))) (sym (then_has (s.at l w))) (s.does.by t nt l vs w k le g));
  }

  -- ---- what stands there

  -- an access by the address in t, at last
  load_value : (c : CType) (t from at p : ℕ) (l : List ℕ) (vs old : Vars) (w : World) → fr.free ≤ t → p ≤ w.peak → Agrees fr l old → Kept fr.free t vs old → old from ≡ at → Runs (Value fr t vs) (read_spot c (At at) l w) (run_all r (piece.load c t from ∷ []) old (low p w))
  load_value c t from at p l vs old w nt le g k e =
      subst (λ o. Runs (Value fr t vs) (read_spot c (At at) l w) o) (sym (one_is (piece.load c t from) old (low p w)))
      (puts_value t p l vs old w _ _ nt g k (load_puts r c t from at p l old w le e))

  -- a copy of a local
  copy_value : (t v i p : ℕ) (l : List ℕ) (vs : Vars) (w : World) → slice_get fr.homes i ≡ Some (Variable v) → fr.free ≤ t → p ≤ w.peak → Agrees fr l vs → Runs (Value fr t vs) (Has (slice_index l i) l w) (run_all r (mid.Set t op.Copy v v ∷ []) vs (low p w))
  copy_value t v i p l vs w home nt le g =
      subst (λ x. Runs (Value fr t vs) (Has x l w) (run_all r (mid.Set t op.Copy v v ∷ []) vs (low p w))) (g.at i v home)
      (sets_runs fr good t (t + 1) (vs v) p l vs vs w _ nt (omega arith) le g (kept_self fr.free t vs) (sets_last r t (t + 1) (vs v) v v op.Copy vs (low p w) refl))

  pub read_does : (c : CType) (p : Part Spot) (z : Place) → Stands p z → Does (λ l w. then_with (p l w) (read_spot c)) (code.read c z)
  read_does c p (Held v) s = record { by = λ t nt l vs w k le g. at_held (Value fr t vs) p v s (read_spot c) l w _ (copy_value t v s.local k l vs w s.home nt le g) }
  read_does c p (Based b) s = record {
    by = λ t nt l vs w k le g.
        at_based (Value fr t vs) p b s (read_spot c) l w _
        (subst (λ o. Runs (Value fr t vs) (read_spot c (At (base_at b)) l w) o) (sym (after_base b t (piece.load c t t ∷ []) vs (low k w)))
        (let v = put_value t (base_at b) l vs vs nt g (kept_self fr.free t vs) in
        load_value c t t (base_at b) k l vs (put vs t (base_at b)) w nt le v.locals v.kept v.holds));
  }
  read_does c p (Computed at) s = record {
    by = λ t nt l vs w k le g.
        at_computed (Value fr t vs) p at s (read_spot c) l w _
        (more t vs (Value fr t vs) l w k s.at (at t) (piece.load c t t ∷ []) _ (s.does.by t nt l vs w k le g)
        (λ l new w p le g kp. load_value c t t (new t) p l vs new w nt le g kp refl));
  }

  -- ---- so many bytes on

  -- an address in t, and a number more
  pub plus_does : (a : Part ℕ) (c : Codes) (offset : ℕ) → Does a c → Does (λ l w. then_with (a l w) (λ x. constant (wrapped (x + offset)))) (λ t. c t ++ piece.plus offset t)
  plus_does a c offset d = record {
    by = λ t nt l vs w p le g.
        more t vs (Value fr t vs) l w p a (c t) (piece.plus offset t) _ (d.by t nt l vs w p le g)
        (λ l new w p le g k. sets_runs fr good t (t + 1) (wrapped (new t + offset)) p l vs new w _ nt (omega arith) le g k (plus_sets r offset t new (low p w)));
  }

  home_does : (from : ℕ) → Does (λ l w. Has (r.block + from) l w) (λ t. mid.Home t from ∷ [])
  home_does from = record {
    by = λ t nt l vs w k le g.
        subst (λ o. Runs (Value fr t vs) (Has (r.block + from) l w) o) (sym (after_base (InBlock from) t [] vs (low k w))) (left (Value fr t vs) (r.block + from) l (put vs t (r.block + from)) w k le (put_value t (r.block + from) l vs vs nt g (kept_self fr.free t vs)));
  }

  pub member_stands : (p : Part Spot) (z : Place) (offset : ℕ) → Stands p z → Stands (λ l w. then_with (p l w) (λ s m u. Has (moved s offset) m u)) (code.member fr.bytes z offset)
  member_stands p (Held v) offset s = record { local = s.local; home = s.home; is = λ l w. ap (λ z. then_with z (λ s m u. Has (moved s offset) m u)) (s.is l w) }
  member_stands p (Based (Fixed at)) offset s = record { within = tt; is = λ l w. ap (λ z. then_with z (λ s m u. Has (moved s offset) m u)) (s.is l w) }
  member_stands p (Based (InBlock from)) offset s = test (leb (from + offset) fr.bytes) refl
    where
      test : (b : Bool) → leb (from + offset) fr.bytes ≡ b → Stands (λ l w. then_with (p l w) (λ s m u. Has (moved s offset) m u)) (cond b (Based (InBlock (from + offset))) (Computed (λ t. mid.Home t from ∷ piece.plus offset t)))
      test true h =
          let lt : from + offset ≤ fr.bytes = grind (arith, h) in
          let e : wrapped (r.block + from + offset) ≡ r.block + (from + offset) = omega (arith, room, lt) in
          record { within = lt; is = λ l w. ap (λ z. then_with z (λ s m u. Has (moved s offset) m u)) (s.is l w) ∙ ap (λ (z : ℕ). Has (At z) l w) e }
      test false h = record {
        at = λ l w. then_with {A = ℕ} (Has (r.block + from) l w) (λ x. constant (wrapped (x + offset)));
        is = λ l w. ap (λ z. then_with z (λ s m u. Has (moved s offset) m u)) (s.is l w);
        does = plus_does (λ l w. Has (r.block + from) l w) (λ t. mid.Home t from ∷ []) offset (home_does from);
      }
  member_stands p (Computed c) offset s = record {
    at = λ l w. then_with (s.at l w) (λ x. constant (wrapped (x + offset)));
    is = λ l w. ap (λ z. then_with z (λ s m u. Has (moved s offset) m u)) (s.is l w) ∙ then_then (s.at l w) _ _ ∙ sym (then_then (s.at l w) _ _);
    does = plus_does s.at c offset s.does;
  }
