-- Steps by a number: `++` and `--`.
use Rattle.std.proofs.Common.{◌≡◌, ℕ, ◌+◌, ◌<◌, ◌≤◌, ◌⊎◌, ◌≢◌, Bool, true, false, cond, List, [], ◌∷◌, ◌++◌, refl, sym, ap, ◌∙◌, subst, inl, inr, arith, Ok, Some, slice_get, slice_index, slice_set}
use Rattle.std.specs.Prelude.{ltb}
use Rattle.ns_types.specs.Operators as ops
use Rattle.ns_types.specs.CRun.{World}
use Rattle.ns_types.specs.Alike.{low}
use Rattle.c_types.specs.declared.ctype.CType.{CType}
use Rattle.c_mean.specs.Parts.{Has, Part, then_with}
use Rattle.c_mean.specs.Values.{Spot, At, converted, read_spot, write_spot}
use Rattle.c_mean.specs.Exprs.{constant}
use Rattle.mid_ir.specs.declared.stmt.MidStmt.TheVariants as mid
use Rattle.mid_ir.specs.declared.stmt.SetOp.TheVariants as op
use Rattle.mid_ir.specs.Activation.{Vars, put, Site}
use Rattle.mid_ir.specs.Run.{Next, run_all}
use Rattle.mid_ir.proofs.RunLaws.{run_Set}
use Rattle.lower_code.specs.Frames.{Variable, Frame}
use Rattle.lower_code.specs.Pieces as piece
use Rattle.lower_code.specs.Exprs as code
use Rattle.lower_code.specs.Exprs.{Codes, Place, Held, Based, Computed}
use Rattle.lower_laws.proofs.Relate.{put_same, put_other, Agrees, IsFrame, Kept, kept_self, Runs, Value, then_runs}
use Rattle.lower_laws.proofs.Straight.{Sets, next, sets_const, sets_more, convert_sets}
use Rattle.lower_laws.proofs.Accesses.{load_puts, Same, store_same}
use Rattle.lower_laws.proofs.Places.{Does, more, one_is, Stands, base_at, at_held, at_based, at_computed, after_base}
use Rattle.lower_laws.proofs.Writes.{puts_then, sets_then, set_local, unchanged}

either : (u v : ℕ) → u ≢ v → (u < v) ⊎ (v < u)
either u v ne = test (ltb u v) refl
  where
    test : (b : Bool) → ltb u v ≡ b → (u < v) ⊎ (v < u)
    test true h = inl (grind (arith, h))
    test false h = let le : v ≤ u = grind (arith, h) in inr (omega (arith, le, ne))

-- a number is added to x, and the sum is converted; it comes to v, and a number above is free
sum_sets : (r : Site) (c : CType) (by v x s : ℕ) (vs : Vars) (w : World) → x < s → Sets v s (converted c (ops.add (vs x) by)) vs w (run_all r (mid.Const s by ∷ mid.Set v op.Add x s ∷ piece.convert c v) vs w)
sum_sets r c by v x s vs w lt =
    let one = put vs s by in
    let y = ops.add (vs x) by in
    let e : ops.add (one x) (one s) ≡ y = rw (put_other vs s by x (inl lt), put_same vs s by) refl in
    sets_const r v s s by (converted c y) (mid.Set v op.Add x s ∷ piece.convert c v) vs w (omega arith)
    (sets_more r v s y (converted c y) x s op.Add (piece.convert c v) one w (ap (λ (z : ℕ). Ok z) e)
    (subst (λ z. Sets v s (converted c z) (put one v y) w (run_all r (piece.convert c v) (put one v y) w)) (put_same one v y) (convert_sets r c v s (put one v y) w)))

module _ (fr : Frame) (good : IsFrame fr) (r : Site) (room : r.block + fr.bytes < 4294967296) where
  abbrev D : Part ℕ → Codes → Type 0
  D = Does fr good r room

  -- what a step means at a place
  abbrev pub step_meant : CType → ℕ → Bool → Part Spot → Part ℕ
  step_meant c by old p l w =
      then_with (p l w) (λ s m u.
      then_with (read_spot c s m u) (λ x n v.
      then_with (write_spot c s (converted c (ops.add x by)) n v) (λ y. constant (cond old x y))))

  step_held_true : (c : CType) (by v t i p : ℕ) (l : List ℕ) (vs : Vars) (w : World) → slice_get fr.homes i ≡ Some (Variable v) → fr.free ≤ t → p ≤ w.peak → Agrees fr l vs
      → Runs (Value fr t vs) (Has (slice_index l i) (slice_set l i (converted c (ops.add (slice_index l i) by))) w) (run_all r (mid.Set t op.Copy v v ∷ code.step_held c by v (t + 1) []) vs (low p w))
  step_held_true c by v t i p l vs w home nt le g =
      let lt = good.below i v home in
      let e = g.at i v home in
      let one = put vs t (vs v) in
      let two = sum_sets r c by v v (t + 1) one (low p w) (omega arith) in
      let f : one v ≡ slice_index l i = put_other vs t (vs v) v (inl (omega arith)) ∙ e in
      subst (λ o. Runs (Value fr t vs) (Has (slice_index l i) (slice_set l i (converted c (ops.add (slice_index l i) by))) w) o)
      (sym (next r (mid.Set t op.Copy v v) (code.step_held c by v (t + 1) []) vs one (low p w) (low p w) (run_Set r t op.Copy v v vs (low p w))
      ∙ sets_then r v (t + 1) _ (mid.Const (t + 1) by ∷ mid.Set v op.Add v (t + 1) ∷ piece.convert c v) [] one (low p w) two))
      (set_local fr good r room t v i (converted c (ops.add (slice_index l i) by)) (slice_index l i) p l vs vs two.new w home nt le g (kept_self fr.free t vs)
      (two.holds ∙ ap (λ z. converted c (ops.add z by)) f)
      (two.kept t (omega arith) (inr (omega arith)) ∙ put_same vs t (vs v) ∙ e)
      (λ u lu ne. two.kept u (omega arith) (either u v ne) ∙ put_other vs t (vs v) u (inl lu)))

  step_held_false : (c : CType) (by v t i p : ℕ) (l : List ℕ) (vs : Vars) (w : World) → slice_get fr.homes i ≡ Some (Variable v) → fr.free ≤ t → p ≤ w.peak → Agrees fr l vs
      → Runs (Value fr t vs) (Has (converted c (ops.add (slice_index l i) by)) (slice_set l i (converted c (ops.add (slice_index l i) by))) w) (run_all r (code.step_held c by v (t + 1) (mid.Set t op.Copy v v ∷ [])) vs (low p w))
  step_held_false c by v t i p l vs w home nt le g =
      let lt = good.below i v home in
      let e = g.at i v home in
      let two = sum_sets r c by v v (t + 1) vs (low p w) (omega arith) in
      let x = converted c (ops.add (slice_index l i) by) in
      let f : two.new v ≡ x = two.holds ∙ ap (λ z. converted c (ops.add z by)) e in
      let end = put two.new t (two.new v) in
      subst (λ o. Runs (Value fr t vs) (Has x (slice_set l i x) w) o)
      (sym (sets_then r v (t + 1) _ (mid.Const (t + 1) by ∷ mid.Set v op.Add v (t + 1) ∷ piece.convert c v) (mid.Set t op.Copy v v ∷ []) vs (low p w) two
      ∙ one_is fr good r room (mid.Set t op.Copy v v) two.new (low p w) ∙ run_Set r t op.Copy v v two.new (low p w)))
      (set_local fr good r room t v i x x p l vs vs end w home nt le g (kept_self fr.free t vs)
      (put_other two.new t (two.new v) v (inl (omega arith)) ∙ f)
      (put_same two.new t (two.new v) ∙ f)
      (λ u lu ne. put_other two.new t (two.new v) u (inl lu) ∙ two.kept u (omega arith) (either u v ne)))

  -- the variable of the new value, and the one of the expression's
  given : (old : Bool) (t x y : ℕ) (one new : Vars) → one t ≡ x → new (code.new_value old t) ≡ y → ((i : ℕ) → i < t + 2 → (i < code.new_value old t) ⊎ (code.new_value old t < i) → new i ≡ one i) → new t ≡ cond old x y
  given true t x y one new e f k = k t (omega arith) (inl (omega arith)) ∙ e
  given false t x y one new e f k = f

  -- the new value stands in t, or above the address
  beside : (old : Bool) (t : ℕ) → (t + 1 < code.new_value old t) ⊎ (code.new_value old t < t + 1)
  beside true t = inl (omega arith)
  beside false t = inr (omega arith)

  under : (old : Bool) (t u : ℕ) → u < t → u < code.new_value old t
  under true t u h = omega (arith, h)
  under false t u h = h

  -- the sum in its variable
  sum_at : (c : CType) (by t : ℕ) (old : Bool) (vs : Vars) (w : World) → Sets (code.new_value old t) (t + 2) (converted c (ops.add (vs t) by)) vs w (run_all r (mid.Const (t + 2) by ∷ mid.Set (code.new_value old t) op.Add t (t + 2) ∷ piece.convert c (code.new_value old t)) vs w)
  sum_at c by t old vs w = sum_sets r c by (code.new_value old t) t (t + 2) vs w (omega arith)

  at_address : (c : CType) (by t at p : ℕ) (old : Bool) (l : List ℕ) (vs cur : Vars) (w : World) → fr.free ≤ t → p ≤ w.peak → Agrees fr l cur → Kept fr.free t vs cur → cur (t + 1) ≡ at
      → Runs (Value fr t vs) (then_with (read_spot c (At at) l w) (λ x n v. then_with (write_spot c (At at) (converted c (ops.add x by)) n v) (λ y. constant (cond old x y)))) (run_all r (code.step_at c by (code.new_value old t) t) cur (low p w))
  at_address c by t at p old l vs cur w nt le g k e =
      let y = code.new_value old t in
      let sum = mid.Const (t + 2) by ∷ mid.Set y op.Add t (t + 2) ∷ piece.convert c y in
      puts_then (Value fr t vs) t l cur _ _ _ (run_all r (sum ++ piece.store c (t + 1) y ∷ [])) (load_puts r c t (t + 1) at p l cur w le e)
      (λ x w p le.
      let one = put cur t x in
      let two = sum_at c by t old one (low p w) in
      let z = converted c (ops.add x by) in
      let f : two.new y ≡ z = two.holds ∙ ap (λ i. converted c (ops.add i by)) (put_same cur t x) in
      let a : two.new (t + 1) ≡ at = two.kept (t + 1) (omega arith) (beside old t) ∙ put_other cur t x (t + 1) (inr (omega arith)) ∙ e in
      subst (λ o. Runs (Value fr t vs) (then_with (write_spot c (At at) z l w) (λ v. constant (cond old x v))) o)
      (sym (sets_then r y (t + 2) _ sum (piece.store c (t + 1) y ∷ []) one (low p w) two))
      (then_runs (Same z l two.new) (Value fr t vs) _ _ (λ v. constant (cond old x v)) (run_all r []) (store_same r c (t + 1) y at z p l two.new w le a f)
      (λ v m new w p le q.
      subst (λ m. Runs (Value fr t vs) (Has (cond old x v) m w) (Next new (low p w))) (sym q.list)
      (subst (λ n. Runs (Value fr t vs) (Has (cond old x v) l w) (Next n (low p w))) (sym q.vars)
      (unchanged fr good r room t (cond old x v) p l vs cur two.new w nt le g k
      (given old t x v one two.new (put_same cur t x) (f ∙ sym q.value) two.kept)
      (λ u lu. two.kept u (omega arith) (inl (under old t u lu)) ∙ put_other cur t x u (inl lu)))))))

  pub stepped_does : (c : CType) (by : ℕ) (old : Bool) (p : Part Spot) (z : Place) → Stands fr good r room p z → D (step_meant c by old p) (code.stepped c by old z)
  stepped_does c by true p (Held v) s = record { by = λ t nt l vs w q le g. at_held fr good r room (Value fr t vs) p v s _ l w _ (step_held_true c by v t s.local q l vs w s.home nt le g) }
  stepped_does c by false p (Held v) s = record { by = λ t nt l vs w q le g. at_held fr good r room (Value fr t vs) p v s _ l w _ (step_held_false c by v t s.local q l vs w s.home nt le g) }
  stepped_does c by old p (Based b) s = record {
    by = λ t nt l vs w q le g.
        let at = base_at fr good r room b in
        at_based fr good r room (Value fr t vs) p b s _ l w _
        (subst (λ o. Runs (Value fr t vs) (then_with (read_spot c (At at) l w) (λ x n v. then_with (write_spot c (At at) (converted c (ops.add x by)) n v) (λ y. constant (cond old x y)))) o)
        (sym (after_base fr good r room b (t + 1) (code.step_at c by (code.new_value old t) t) vs (low q w)))
        (at_address c by t at q old l vs (put vs (t + 1) at) w nt le
        (record { many = g.many; at = λ i v h. let lt = good.below i v h in put_other vs (t + 1) at v (inl (omega arith)) ∙ g.at i v h })
        (record { at = λ i a b. put_other vs (t + 1) at i (inl (omega arith)) }) (put_same vs (t + 1) at)));
  }
  stepped_does c by old p (Computed at) s = record {
    by = λ t nt l vs w q le g.
        at_computed fr good r room (Value fr t vs) p at s _ l w _
        (more fr good r room t vs (Value fr t vs) l w q s.at (at t) (mid.Set (t + 1) op.Copy t t ∷ code.step_at c by (code.new_value old t) t) _ (s.does.by t nt l vs w q le g)
        (λ l new w q le g kp.
        subst (λ o. Runs (Value fr t vs) (then_with (read_spot c (At (new t)) l w) (λ x n v. then_with (write_spot c (At (new t)) (converted c (ops.add x by)) n v) (λ y. constant (cond old x y)))) o)
        (sym (next r (mid.Set (t + 1) op.Copy t t) (code.step_at c by (code.new_value old t) t) new (put new (t + 1) (new t)) (low q w) (low q w) (run_Set r (t + 1) op.Copy t t new (low q w))))
        (at_address c by t (new t) q old l vs (put new (t + 1) (new t)) w nt le
        (record { many = g.many; at = λ i v h. let lt = good.below i v h in put_other new (t + 1) (new t) v (inl (omega arith)) ∙ g.at i v h })
        (record { at = λ i a b. put_other new (t + 1) (new t) i (inl (omega arith)) ∙ kp.at i a b }) (put_same new (t + 1) (new t)))));
  }
