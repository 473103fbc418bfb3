-- What is written to a place.
use Rattle.std.proofs.Common.{◌≡◌, ℕ, ◌+◌, ◌<◌, ◌≤◌, ◌⊎◌, ◌≢◌, List, [], ◌∷◌, ◌++◌, refl, sym, ap, ◌∙◌, subst, inl, inr, arith, Some, slice_get, slice_set}
use Rattle.ns_types.specs.CRun.{World}
use Rattle.ns_types.specs.Alike.{low}
use Rattle.c_types.specs.declared.ctype.CType.{CType}
use Rattle.c_types.specs.Kind.{referenced}
use Rattle.c_const.specs.Operate.{operate}
use Rattle.c_mean.specs.Parts as tree
use Rattle.c_mean.specs.Parts.{Has, Part, then_with, or_halt}
use Rattle.c_mean.specs.Values.{Spot, Unplaced, At, converted, read_spot, write_spot}
use Rattle.c_mean.specs.Exprs as mean
use Rattle.c_mean.specs.Exprs.{constant, done_signed}
use Rattle.mid_ir.specs.declared.stmt.MidStmt.{MidStmt}
use Rattle.mid_ir.specs.declared.stmt.MidStmt.TheVariants as mid
use Rattle.mid_ir.specs.declared.stmt.SetOp.TheVariants as op
use Rattle.mid_ir.specs.Activation.{Vars, put, Site}
use Rattle.mid_ir.specs.Run.{Out, Next, then_do, run, run_all}
use Rattle.mid_ir.proofs.RunLaws.{run_Set, run_all_append}
use Rattle.lower_code.specs.Frames.{Variable, Frame}
use Rattle.lower_code.specs.Pieces as piece
use Rattle.lower_code.specs.Exprs as code
use Rattle.lower_code.specs.Exprs.{Codes, Place, Held, Based, Computed, Change}
use Rattle.lower_laws.proofs.Relate.{put_same, put_other, Agrees, IsFrame, Kept, agrees_on, Runs, Value, left, then_runs}
use Rattle.lower_laws.proofs.Straight.{Sets, sets_last, counted_sets, convert_sets, operation_is, sets_runs}
use Rattle.lower_laws.proofs.Accesses.{Put, result_puts, load_puts, Same, store_same}
use Rattle.lower_laws.proofs.Places.{agrees_set, and_runs, Does, more, two, one_is, Stands, base_at, at_held, at_based, at_computed, after_base}

put_not : (vs : Vars) (v x u : ℕ) → u ≢ v → put vs v x u ≡ vs u
put_not vs v x u h = grind (arith, h)

-- a value that was put into a variable, and what follows
pub puts_then : {B : Type 0} (H : B → List ℕ → Vars → Type 0) (v : ℕ) (l : List ℕ) (old : Vars) (a : tree.Out ℕ) (o : Out) (f : ℕ → Part B) (g : Vars → World → Out) → Runs (Put v l old) a o
    → ((x : ℕ) (w : World) (p : ℕ) → p ≤ w.peak → Runs H (f x l w) (g (put old v x) (low p w))) → Runs H (then_with a f) (then_do o g)
puts_then H v l old a o f g r h =
    then_runs (Put v l old) H a o f g r
    (λ x m new w p le q. subst (λ z. Runs H (f x z w) (g new (low p w))) (sym q.list) (subst (λ z. Runs H (f x l w) (g z (low p w))) (sym q.vars) (h x w p le)))

-- a write, and code behind it
pub same_then : (H : ℕ → List ℕ → Vars → Type 0) (x : ℕ) (l : List ℕ) (old : Vars) (a : tree.Out ℕ) (o : Out) (g : Vars → World → Out) → Runs (Same x l old) a o
    → ((w : World) (p : ℕ) → p ≤ w.peak → Runs H (Has x l w) (g old (low p w))) → Runs H a (then_do o g)
same_then H x l old a o g r h =
    and_runs (Same x l old) H a o g r
    (λ y m new w p le q. subst (λ z. Runs H (Has z m w) (g new (low p w))) (sym q.value) (subst (λ z. Runs H (Has x z w) (g new (low p w))) (sym q.list) (subst (λ z. Runs H (Has x l w) (g z (low p w))) (sym q.vars) (h w p le))))

-- code that sets a variable, and what follows
pub sets_then : (r : Site) (t s x : ℕ) (ms rest : List MidStmt) (vs : Vars) (w : World) (h : Sets t s x vs w (run_all r ms vs w)) → run_all r (ms ++ rest) vs w ≡ run_all r rest h.new w
sets_then r t s x ms rest vs w h = run_all_append r ms rest vs w ∙ ap (λ o. then_do o (run_all r rest)) h.is

module _ (fr : Frame) (good : IsFrame fr) (r : Site) (room : r.block + fr.bytes < 4294967296) where
  abbrev D : Part ℕ → Codes → Type 0
  D = Does fr good r room

  -- a local is set to x, and y is in t
  pub set_local : (t v i x y p : ℕ) (l : List ℕ) (vs old new : Vars) (w : World) → slice_get fr.homes i ≡ Some (Variable v) → fr.free ≤ t → p ≤ w.peak → Agrees fr l old → Kept fr.free t vs old
      → new v ≡ x → new t ≡ y → ((u : ℕ) → u < t → u ≢ v → new u ≡ old u) → Runs (Value fr t vs) (Has y (slice_set l i x) w) (Next new (low p w))
  set_local t v i x y p l vs old new w home nt le g k e f same =
      left (Value fr t vs) y (slice_set l i x) new w p le (record {
        holds = f;
        locals = agrees_set fr i v x l old new good home e (λ u lt ne. same u (omega arith) ne) g;
        kept = record { at = λ j a b. let lt = good.below i v home in let ne : j ≢ v = omega (arith, lt, a) in same j b ne ∙ k.at j a b };
      })

  -- memory is written, and all is as before but for variables from t on
  pub unchanged : (t y p : ℕ) (l : List ℕ) (vs old new : Vars) (w : World) → fr.free ≤ t → p ≤ w.peak → Agrees fr l old → Kept fr.free t vs old → new t ≡ y → ((u : ℕ) → u < t → new u ≡ old u) → Runs (Value fr t vs) (Has y l w) (Next new (low p w))
  unchanged t y p l vs old new w nt le g k f same =
      left (Value fr t vs) y l new w p le (record { holds = f; locals = agrees_on fr l old new good (λ u lt. same u (omega arith)) g; kept = record { at = λ j a b. same j b ∙ k.at j a b } })

  -- ---- assignments

  pub assigned_does : (c : CType) (p : Part Spot) (z : Place) (a : Part ℕ) (d : Codes) → Stands fr good r room p z → D a d → D (λ l w. then_with (p l w) (λ s m u. then_with (a m u) (λ x n v. write_spot c s x n v))) (code.assigned c z d)
  assigned_does c p (Held v) a d s k = record {
    by = λ t nt l vs w q le g.
        at_held fr good r room (Value fr t vs) p v s _ l w _
        (more fr good r room t vs (Value fr t vs) l w q a (d t) (mid.Set v op.Copy t t ∷ []) _ (k.by t nt l vs w q le g)
        (λ l new w q le g kp.
        let lt = good.below s.local v s.home in
        subst (λ o. Runs (Value fr t vs) (Has (new t) (slice_set l s.local (new t)) w) o) (sym (one_is fr good r room (mid.Set v op.Copy t t) new (low q w) ∙ run_Set r v op.Copy t t new (low q w)))
        (set_local t v s.local (new t) (new t) q l vs new (put new v (new t)) w s.home nt le g kp (put_same new v (new t)) (put_other new v (new t) t (inr (omega arith))) (λ u lu ne. put_not new v (new t) u ne))));
  }
  assigned_does c p (Based b) a d s k = record {
    by = λ t nt l vs w q le g.
        at_based fr good r room (Value fr t vs) p b s _ l w _
        (more fr good r room t vs (Value fr t vs) l w q a (d t) (code.base b (t + 1) ∷ piece.store c (t + 1) t ∷ []) _ (k.by t nt l vs w q le g)
        (λ l new w q le g kp.
        let at = base_at fr good r room b in
        let last = put new (t + 1) at in
        subst (λ o. Runs (Value fr t vs) (write_spot c (At at) (new t) l w) o) (sym (after_base fr good r room b (t + 1) (piece.store c (t + 1) t ∷ []) new (low q w)))
        (same_then (Value fr t vs) (new t) l last _ _ (run_all r []) (store_same r c (t + 1) t at (new t) q l last w le (put_same new (t + 1) at) (put_other new (t + 1) at t (inl (omega arith))))
        (λ w q le. unchanged t (new t) q l vs new last w nt le g kp (put_other new (t + 1) at t (inl (omega arith))) (λ u lt. put_other new (t + 1) at u (inl (omega arith)))))));
  }
  assigned_does c p (Computed at) a d s k = record {
    by = λ t nt l vs w q le g.
        at_computed fr good r room (Value fr t vs) p at s _ l w _
        (two fr good r room t vs (Value fr t vs) l w q s.at a at d (piece.store c t (t + 1) ∷ mid.Set t op.Copy (t + 1) (t + 1) ∷ []) (λ x y. write_spot c (At x) y) nt le g s.does k
        (λ l new w q le g kp.
        same_then (Value fr t vs) (new (t + 1)) l new _ _ (run_all r (mid.Set t op.Copy (t + 1) (t + 1) ∷ [])) (store_same r c t (t + 1) (new t) (new (t + 1)) q l new w le refl refl)
        (λ w q le. sets_runs fr good t (t + 1) (new (t + 1)) q l vs new w _ nt (omega arith) le g kp (sets_last r t (t + 1) (new (t + 1)) (t + 1) (t + 1) op.Copy new (low q w) refl))));
  }

  -- ---- `op=`

  -- the operand in x becomes the new value
  changed_runs : {B : Type 0} (H : B → List ℕ → Vars → Type 0) (c : Change) (v x s : ℕ) (rest : List MidStmt) (f : ℕ → Part B) (l : List ℕ) (old : Vars) (w : World) (p : ℕ) → p ≤ w.peak → x < s → v < s → (v < x) ⊎ (x < v)
      → ((z : ℕ) (new : Vars) (w : World) (p : ℕ) → p ≤ w.peak → new x ≡ converted c.place z → ((i : ℕ) → i < s → (i < x) ⊎ (x < i) → new i ≡ old i) → Runs H (f z l w) (run_all r rest new (low p w)))
      → Runs H (then_with (or_halt (mean.changed c.op c.place c.operand (old v) (old x)) l w) f) (run_all r (code.changed c v x s rest) old (low p w))
  changed_runs H c v x s rest f l old w p le xs lv ne h =
      let one = counted_sets r (referenced c.place) x s old (low p w) xs in
      let g = done_signed c.op c.place c.operand in
      let tail = piece.convert c.place x ++ rest in
      subst (λ o. Runs H (then_with (or_halt (mean.changed c.op c.place c.operand (old v) (old x)) l w) f) o)
      (sym (sets_then r x s _ (piece.counted (referenced c.place) x s) (piece.operation c.op g x v x ∷ tail) old (low p w) one ∙ ap (λ o. then_do o (run_all r tail)) (operation_is r c.op g x v x one.new (low p w))))
      (subst (λ y. Runs H (then_with (or_halt (operate c.op g y (mean.counted (referenced c.place) (old x))) l w) f) (then_do (Rattle.mid_ir.specs.Run.or_stop x one.new (low p w) (operate c.op g (one.new v) (one.new x))) (run_all r tail))) (one.kept v lv ne)
      (subst (λ y. Runs H (then_with (or_halt (operate c.op g (one.new v) y) l w) f) (then_do (Rattle.mid_ir.specs.Run.or_stop x one.new (low p w) (operate c.op g (one.new v) (one.new x))) (run_all r tail))) one.holds
      (puts_then H x l one.new _ _ f (run_all r tail) (result_puts x p l one.new w (operate c.op g (one.new v) (one.new x)) le)
      (λ z w p le.
      let two = put one.new x z in
      let three = convert_sets r c.place x s two (low p w) in
      subst (λ o. Runs H (f z l w) o) (sym (sets_then r x s _ (piece.convert c.place x) rest two (low p w) three))
      (h z three.new w p le (three.holds ∙ ap (converted c.place) (put_same one.new x z)) (λ i lt q. three.kept i lt q ∙ put_other one.new x z i q ∙ one.kept i lt q))))))

  -- the object whose address is in `from` is changed
  change_runs : (H : ℕ → List ℕ → Vars → Type 0) (c : Change) (from x s at : ℕ) (rest : List MidStmt) (l : List ℕ) (old : Vars) (w : World) (p : ℕ) → p ≤ w.peak → x < s → from < s → (from < x) ⊎ (x < from) → old from ≡ at
      → ((y : ℕ) (new : Vars) (w : World) (p : ℕ) → p ≤ w.peak → new x ≡ y → ((i : ℕ) → i < s → (i < x) ⊎ (x < i) → new i ≡ old i) → Runs H (Has y l w) (run_all r rest new (low p w)))
      → Runs H (then_with (read_spot c.place (At at) l w) (λ y m u. then_with (or_halt (mean.changed c.op c.place c.operand y (old x)) m u) (λ z n v. write_spot c.place (At at) (converted c.place z) n v))) (run_all r (code.change_at c from x s rest) old (low p w))
  change_runs H c from x s at rest l old w p le xs fs ne e h =
      puts_then H s l old _ _ _ (run_all r (code.changed c s x (s + 1) (piece.store c.place from x ∷ rest))) (load_puts r c.place s from at p l old w le e)
      (λ y w p le.
      let one = put old s y in
      subst (λ a. Runs H (then_with (or_halt (mean.changed c.op c.place c.operand a (old x)) l w) (λ z n v. write_spot c.place (At at) (converted c.place z) n v)) (run_all r (code.changed c s x (s + 1) (piece.store c.place from x ∷ rest)) one (low p w))) (put_same old s y)
      (subst (λ a. Runs H (then_with (or_halt (mean.changed c.op c.place c.operand (one s) a) l w) (λ z n v. write_spot c.place (At at) (converted c.place z) n v)) (run_all r (code.changed c s x (s + 1) (piece.store c.place from x ∷ rest)) one (low p w))) (put_other old s y x (inl (omega arith)))
      (changed_runs H c s x (s + 1) (piece.store c.place from x ∷ rest) (λ z. write_spot c.place (At at) (converted c.place z)) l one w p le (omega arith) (omega arith) (inr xs)
      (λ z new w p le f same.
      same_then H (converted c.place z) l new _ _ (run_all r rest) (store_same r c.place from x at (converted c.place z) p l new w le (same from (omega arith) ne ∙ put_other old s y from (inl (omega arith)) ∙ e) f)
      (λ w p le. h (converted c.place z) new w p le f (λ i lt q. same i (omega arith) q ∙ put_other old s y i (inl (omega arith))))))))

  -- what `op=` means at a place
  abbrev pub op_meant : Change → Part Spot → Part ℕ → Part ℕ
  op_meant c p a l w =
      then_with (p l w) (λ s m u.
      then_with (a m u) (λ y n v.
      then_with (read_spot c.place s n v) (λ x o q.
      then_with (or_halt (mean.changed c.op c.place c.operand x y) o q) (λ z e f. write_spot c.place s (converted c.place z) e f))))

  pub assigned_op_does : (c : Change) (p : Part Spot) (z : Place) (a : Part ℕ) (d : Codes) → Stands fr good r room p z → D a d → D (op_meant c p a) (code.assigned_op c z d)
  assigned_op_does c p (Held v) a d s k = record {
    by = λ t nt l vs w q le g.
        at_held fr good r room (Value fr t vs) p v s _ l w _
        (more fr good r room t vs (Value fr t vs) l w q a (d t) (code.changed c v t (t + 1) (mid.Set v op.Copy t t ∷ [])) _ (k.by t nt l vs w q le g)
        (λ l new w q le g kp.
        let lt = good.below s.local v s.home in
        subst (λ x. Runs (Value fr t vs) (then_with (or_halt (mean.changed c.op c.place c.operand x (new t)) l w) (λ z e f. write_spot c.place (Unplaced s.local) (converted c.place z) e f)) (run_all r (code.changed c v t (t + 1) (mid.Set v op.Copy t t ∷ [])) new (low q w))) (g.at s.local v s.home)
        (changed_runs (Value fr t vs) c v t (t + 1) (mid.Set v op.Copy t t ∷ []) _ l new w q le (omega arith) (omega arith) (inl (omega arith))
        (λ z last w q le f same.
        let x = converted c.place z in
        let end = put last v (last t) in
        subst (λ o. Runs (Value fr t vs) (Has x (slice_set l s.local x) w) o) (sym (one_is fr good r room (mid.Set v op.Copy t t) last (low q w) ∙ run_Set r v op.Copy t t last (low q w)))
        (set_local t v s.local x x q l vs new end w s.home nt le g kp (put_same last v (last t) ∙ f) (put_other last v (last t) t (inr (omega arith)) ∙ f) (λ u lu n. put_not last v (last t) u n ∙ same u (omega arith) (inl lu)))))));
  }
  assigned_op_does c p (Based b) a d s k = record {
    by = λ t nt l vs w q le g.
        at_based fr good r room (Value fr t vs) p b s _ l w _
        (more fr good r room t vs (Value fr t vs) l w q a (d t) (code.base b (t + 1) ∷ code.change_at c (t + 1) t (t + 2) []) _ (k.by t nt l vs w q le g)
        (λ l new w q le g kp.
        let at = base_at fr good r room b in
        let one = put new (t + 1) at in
        let meant : ℕ → tree.Out ℕ = λ y. then_with (read_spot c.place (At at) l w) (λ x o u. then_with (or_halt (mean.changed c.op c.place c.operand x y) o u) (λ z e f. write_spot c.place (At at) (converted c.place z) e f)) in
        subst (λ o. Runs (Value fr t vs) (meant (new t)) o) (sym (after_base fr good r room b (t + 1) (code.change_at c (t + 1) t (t + 2) []) new (low q w)))
        (subst (λ y. Runs (Value fr t vs) (meant y) (run_all r (code.change_at c (t + 1) t (t + 2) []) one (low q w))) (put_other new (t + 1) at t (inl (omega arith)))
        (change_runs (Value fr t vs) c (t + 1) t (t + 2) at [] l one w q le (omega arith) (omega arith) (inr (omega arith)) (put_same new (t + 1) at)
        (λ y last w q le f same. unchanged t y q l vs new last w nt le g kp f (λ u lu. same u (omega arith) (inl lu) ∙ put_other new (t + 1) at u (inl (omega arith))))))));
  }
  assigned_op_does c p (Computed at) a d s k = record {
    by = λ t nt l vs w q le g.
        at_computed fr good r room (Value fr t vs) p at s _ l w _
        (two fr good r room t vs (Value fr t vs) l w q s.at a at d (code.change_at c t (t + 1) (t + 2) (mid.Set t op.Copy (t + 1) (t + 1) ∷ []))
        (λ x y n v. then_with (read_spot c.place (At x) n v) (λ i o u. then_with (or_halt (mean.changed c.op c.place c.operand i y) o u) (λ z e f. write_spot c.place (At x) (converted c.place z) e f)))
        nt le g s.does k
        (λ l new w q le g kp.
        change_runs (Value fr t vs) c t (t + 1) (t + 2) (new t) (mid.Set t op.Copy (t + 1) (t + 1) ∷ []) l new w q le (omega arith) (omega arith) (inl (omega arith)) refl
        (λ y last w q le f same.
        let end = put last t (last (t + 1)) in
        subst (λ o. Runs (Value fr t vs) (Has y l w) o) (sym (one_is fr good r room (mid.Set t op.Copy (t + 1) (t + 1)) last (low q w) ∙ run_Set r t op.Copy (t + 1) (t + 1) last (low q w)))
        (unchanged t y q l vs new end w nt le g kp (put_same last t (last (t + 1)) ∙ f) (λ u lu. put_other last t (last (t + 1)) u (inl lu) ∙ same u (omega arith) (inl (omega arith)))))));
  }
