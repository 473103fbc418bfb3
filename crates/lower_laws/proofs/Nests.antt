-- The parts of a switch, in blocks that their labels end.
use Rattle.std.proofs.Common.{◌≡◌, ℕ, suc, ◌+◌, ◌≤◌, Bool, true, false, cond, List, [], ◌∷◌, ◌++◌, map, refl, sym, ap, ◌∙◌, subst, arith, Option, Some, None}
use Rattle.std.specs.Prelude.{eqb}
use Rattle.std.specs.Option.{unwrap_or}
use Rattle.ns_types.specs.CRun.{World}
use Rattle.ns_types.specs.Alike.{low}
use Rattle.c_tree.specs.declared.stmt.Part.TheOpen as part
use Rattle.c_mean.specs.declared.flow.Flow.{Flow}
use Rattle.c_mean.specs.declared.flow.Flow.TheVariants as flow
use Rattle.c_mean.specs.Parts as tree
use Rattle.c_mean.specs.Parts.{Has, Ends, Part, then_with, and_next, in_order, after_switch}
use Rattle.c_mean.specs.Exprs.{Around}
use Rattle.c_mean.specs.Stmts.{Arm, Does, skipped, arms_from, part_step}
use Rattle.mid_ir.specs.declared.stmt.MidStmt.{MidStmt}
use Rattle.mid_ir.specs.declared.stmt.MidStmt.TheVariants as mid
use Rattle.mid_ir.specs.Activation.{Vars, Site}
use Rattle.mid_ir.specs.Run.{Out, Next, Broke, then_do, caught, run, run_all}
use Rattle.mid_ir.proofs.RunLaws.{run_Block, run_Seq, run_all_append}
use Rattle.lower_code.specs.Frames.{Frame}
use Rattle.lower_code.specs.Stmts.{Ways, Codes, Piece, Case, Default, Code, farther, in_switch, labels, nest, default_label, dispatch, block}
use Rattle.lower_laws.proofs.Relate.{Agrees, IsFrame}
use Rattle.lower_laws.proofs.Flows.{leading, Returned, Acts, Onward, goes_next, then_acts, returned_caught}
use Rattle.lower_laws.proofs.Switches.{first, rest_of, or_else, skip_is, case_label, last_is, sent}

-- a block of statements
pub block_is : (r : Site) (body : List MidStmt) (vs : Vars) (w : World) → run r (block body) vs w ≡ caught (run_all r body vs w)
block_is r body vs w = run_Block r (mid.Seq body) vs w ∙ ap caught (run_Seq r body vs w)

-- nothing follows
and_end : (a : tree.Out Flow) → then_with a (λ f m u. and_next f (in_order []) m u) ≡ a
and_end (Has flow.Next l w) = refl
and_end (Has flow.Break l w) = refl
and_end (Has flow.Continue l w) = refl
and_end (Has (flow.Return x) l w) = refl
and_end (Ends e w) = refl

and_then : (a : tree.Out Flow) (f g : Part Flow) → then_with (then_with a (λ x m u. and_next x f m u)) (λ x m u. and_next x g m u) ≡ then_with a (λ x m u. and_next x (λ l w. then_with (f l w) (λ y n v. and_next y g n v)) m u)
and_then (Has flow.Next l w) f g = refl
and_then (Has flow.Break l w) f g = refl
and_then (Has flow.Continue l w) f g = refl
and_then (Has (flow.Return x) l w) f g = refl
and_then (Ends e w) f g = refl

module _ (fr : Frame) (good : IsFrame fr) (gives : Bool) (s : Around) (r : Site) where
  -- each part acts as its piece does
  pub data AllParts : List Arm → List Piece → Type 0 where
    none : AllParts [] []
    case : {n : ℕ} {arms : List Arm} {ps : List Piece} → AllParts arms ps → AllParts (part_step (part.Case n) ∷ arms) (Case n ∷ ps)
    default : {arms : List Arm} {ps : List Piece} → AllParts arms ps → AllParts (part_step part.Default ∷ arms) (Default ∷ ps)
    stmt : {d : Does} {c : Codes} {arms : List Arm} {ps : List Piece} → ((y : Ways) → Onward fr gives (leading y) (d s) (run_all r (c y))) → AllParts arms ps → AllParts (part_step (part.Stmt d) ∷ arms) (Code c ∷ ps)

  abbrev pub do_arms : List Arm → Part Flow
  do_arms arms = in_order (map (λ (a : Arm). a.does s) arms)

  module _ (y : Ways) where
    -- what the blocks do, by what stands before them
    abbrev follow : Out → List Piece → Out
    follow o [] = o
    follow o (Case x ∷ ps) = follow (caught o) ps
    follow o (Default ∷ ps) = follow (caught o) ps
    follow o (Code d ∷ ps) = follow (then_do o (run_all r (d (in_switch (labels ps) y)))) ps

    nest_is : (ps : List Piece) (before : List MidStmt) (vs : Vars) (w : World) → run_all r (nest y before ps) vs w ≡ follow (run_all r before vs w) ps
    nest_is [] before vs w = refl
    nest_is (Case x ∷ ps) before vs w = nest_is ps (block before ∷ []) vs w ∙ ap (λ o. follow o ps) (last_is fr good r (block before) vs w ∙ block_is r before vs w)
    nest_is (Default ∷ ps) before vs w = nest_is ps (block before ∷ []) vs w ∙ ap (λ o. follow o ps) (last_is fr good r (block before) vs w ∙ block_is r before vs w)
    nest_is (Code d ∷ ps) before vs w = nest_is ps (before ++ d (in_switch (labels ps) y)) vs w ∙ ap (λ o. follow o ps) (run_all_append r before (d (in_switch (labels ps) y)) vs w)

    -- a label less
    label_acts : (left : ℕ) (a : tree.Out Flow) (o : Out) → Acts fr gives (leading (in_switch (left + 1) y)) a o → Acts fr gives (leading (in_switch left y)) a (caught o)
    label_acts left (Has flow.Next l w) o b = let e = b.by in record { by = record { new = e.new; peak = e.peak; less = e.less; is = ap caught e.is; locals = e.locals } }
    label_acts left (Has flow.Break l w) o b =
        let e = b.by in
        let q : left + 1 ≡ suc left = omega arith in
        record { by = record { new = e.new; peak = e.peak; less = e.less; is = ap caught e.is ∙ ap (λ z. caught (Broke z e.new (low e.peak w))) q; locals = e.locals } }
    label_acts left (Has flow.Continue l w) o b =
        let e = b.by in
        let q : y.continues + (left + 1) + 1 ≡ suc (y.continues + left + 1) = omega arith in
        record { by = record { new = e.new; peak = e.peak; less = e.less; is = ap caught e.is ∙ ap (λ z. caught (Broke z e.new (low e.peak w))) q; locals = e.locals } }
    label_acts left (Has (flow.Return x) l w) o b = record { by = returned_caught fr gives y.returns (left + 1 + 1) (left + 1) x l w o (omega arith) b.by }
    label_acts left (Ends q w) o b = let e = b.by in record { by = record { peak = e.peak; less = e.less; is = ap caught e.is } }

    farther_none : (q : Option ℕ) → farther 0 q ≡ q
    farther_none None = refl
    farther_none (Some k) = ap (λ (z : ℕ). Some z) (omega arith)

    -- the end of the switch
    switch_acts : (a : tree.Out Flow) (o : Out) → Acts fr gives (leading (in_switch 0 y)) a o → Acts fr gives (leading y) (then_with a after_switch) (caught o)
    switch_acts (Has flow.Next l w) o b = let e = b.by in record { by = record { new = e.new; peak = e.peak; less = e.less; is = ap caught e.is; locals = e.locals } }
    switch_acts (Has flow.Break l w) o b = let e = b.by in record { by = record { new = e.new; peak = e.peak; less = e.less; is = ap caught e.is; locals = e.locals } }
    switch_acts (Has flow.Continue l w) o b =
        let e = b.by in
        let q : y.continues + 0 + 1 ≡ suc y.continues = omega arith in
        record { by = record { new = e.new; peak = e.peak; less = e.less; is = ap caught e.is ∙ ap (λ z. caught (Broke z e.new (low e.peak w))) q; locals = e.locals } }
    switch_acts (Has (flow.Return x) l w) o b =
        let h = returned_caught fr gives y.returns (0 + 1) 0 x l w o (omega arith) b.by in
        record { by = subst (λ q. Returned fr gives q x l w (caught o)) (farther_none y.returns) h }
    switch_acts (Ends q w) o b = let e = b.by in record { by = record { peak = e.peak; less = e.less; is = ap caught e.is } }

    -- the parts from some place on
    runs_on : (arms : List Arm) (ps : List Piece) → AllParts arms ps → (a : tree.Out Flow) (o : Out) → Acts fr gives (leading (in_switch (labels ps) y)) a o
        → Acts fr gives (leading (in_switch 0 y)) (then_with a (λ f m u. and_next f (do_arms arms) m u)) (follow o ps)
    runs_on [] [] none a o h = subst (λ z. Acts fr gives (leading (in_switch 0 y)) z o) (sym (and_end a)) h
    runs_on (x ∷ arms) (Case n ∷ ps) (case all) a o h = runs_on arms ps all a (caught o) (label_acts (labels ps) a o h)
    runs_on (x ∷ arms) (Default ∷ ps) (default all) a o h = runs_on arms ps all a (caught o) (label_acts (labels ps) a o h)
    runs_on (x ∷ arms) (Code c ∷ ps) (stmt act all) a o h =
        subst (λ z. Acts fr gives (leading (in_switch 0 y)) z (follow (then_do o (run_all r (c (in_switch (labels ps) y)))) ps)) (and_then a (x.does s) (do_arms arms))
        (runs_on arms ps all (then_with a (λ f m u. and_next f (x.does s) m u)) (then_do o (run_all r (c (in_switch (labels ps) y)))) (then_acts fr gives (in_switch (labels ps) y) a o (x.does s) (run_all r (c (in_switch (labels ps) y))) h (act (in_switch (labels ps) y))))
    runs_on [] (p ∷ ps) all a o h = elim all [ ]
    runs_on (x ∷ arms) [] all a o h = elim all [ ]

    -- entered at the m-th label, the blocks do these parts
    abbrev Enters : ℕ → List Arm → List Piece → Type 0
    Enters m arms ps = (l : List ℕ) (vs : Vars) (w : World) (p : ℕ) → p ≤ w.peak → Agrees fr l vs → Acts fr gives (leading y) (then_with (do_arms arms l w) after_switch) (caught (follow (Broke m vs (low p w)) ps))

    -- here is the first label
    here : (n : Piece) (arms : List Arm) (ps : List Piece) → AllParts arms ps → (l : List ℕ) (vs : Vars) (w : World) (p : ℕ) → p ≤ w.peak → Agrees fr l vs
        → Acts fr gives (leading y) (then_with (do_arms arms l w) after_switch) (caught (follow (Next vs (low p w)) ps))
    here n arms ps all l vs w p le g = switch_acts (do_arms arms l w) _ (runs_on arms ps all (Has flow.Next l w) (Next vs (low p w)) (goes_next fr gives (leading (in_switch (labels ps) y)) l vs w p le g))

    -- the label of number k, the first of all being label i, and the parts from it on
    record Entered (i k : ℕ) (arms : List Arm) (ps : List Piece) : Type 0 where
      label : ℕ
      is : k ≡ i + label
      enters : Enters label arms ps

    first_label : (i : ℕ) (arms : List Arm) (ps : List Piece) → Enters 0 arms ps → Entered i i arms ps
    first_label i arms ps h = record { label = 0; is = omega arith; enters = h }

    next_label : (i k : ℕ) (rest : List Arm) (ps : List Piece) (more : List Piece) → ((m : ℕ) (vs : Vars) (w : World) → follow (Broke (suc m) vs w) more ≡ follow (Broke m vs w) ps) → Entered (i + 1) k rest ps → Entered i k rest more
    next_label i k rest ps more e h = record {
      label = suc h.label;
      is = let q = h.is in omega (arith, q);
      enters = λ l vs w p le g. subst (λ o. Acts fr gives (leading y) (then_with (do_arms rest l w) after_switch) (caught o)) (sym (e h.label vs (low p w))) (h.enters l vs w p le g);
    }

    abbrev MayEnter : ℕ → Option ℕ → Option (List Arm) → List Piece → Type 0
    MayEnter i None rest ps = rest ≡ None
    MayEnter i (Some k) rest ps = (found : List Arm) × (rest ≡ Some found) × Entered i k found ps

    next_case : (i : ℕ) (f : Option ℕ) (rest : Option (List Arm)) (ps more : List Piece) → ((m : ℕ) (vs : Vars) (w : World) → follow (Broke (suc m) vs w) more ≡ follow (Broke m vs w) ps) → MayEnter (i + 1) f rest ps → MayEnter i f rest more
    next_case i None rest ps more e h = h
    next_case i (Some k) rest ps more e h = (h.0, h.1, next_label i k h.0 ps more e h.2)

    same_case : (i : ℕ) (f : Option ℕ) (rest : Option (List Arm)) (ps more : List Piece) → ((m : ℕ) (vs : Vars) (w : World) → follow (Broke m vs w) more ≡ follow (Broke m vs w) ps) → MayEnter i f rest ps → MayEnter i f rest more
    same_case i None rest ps more e h = h
    same_case i (Some k) rest ps more e h =
        (h.0, h.1, record { label = h.2.label; is = h.2.is; enters = λ l vs w p le g. subst (λ o. Acts fr gives (leading y) (then_with (do_arms h.0 l w) after_switch) (caught o)) (sym (e h.2.label vs (low p w))) (h.2.enters l vs w p le g) })

    cases : (x i : ℕ) (arms : List Arm) (ps : List Piece) → AllParts arms ps → MayEnter i (case_label x i ps) (first (λ a. a.is_case x) arms) ps
    cases x i [] [] none = refl
    cases x i (a ∷ arms) (Case n ∷ ps) (case all) = test (eqb x n) (cases x (i + 1) arms ps all)
      where
        test : (b : Bool) → MayEnter (i + 1) (case_label x (i + 1) ps) (first (λ a. a.is_case x) arms) ps → MayEnter i (cond b (Some i) (case_label x (i + 1) ps)) (cond b (Some (part_step (part.Case n) ∷ arms)) (first (λ a. a.is_case x) arms)) (Case n ∷ ps)
        test true h = (part_step (part.Case n) ∷ arms, refl, first_label i (part_step (part.Case n) ∷ arms) (Case n ∷ ps) (λ l vs w p le g. here (Case n) arms ps all l vs w p le g))
        test false h = next_case i (case_label x (i + 1) ps) (first (λ a. a.is_case x) arms) ps (Case n ∷ ps) (λ m vs w. refl) h
    cases x i (a ∷ arms) (Default ∷ ps) (default all) = next_case i (case_label x (i + 1) ps) (first (λ a. a.is_case x) arms) ps (Default ∷ ps) (λ m vs w. refl) (cases x (i + 1) arms ps all)
    cases x i (a ∷ arms) (Code c ∷ ps) (stmt act all) = same_case i (case_label x i ps) (first (λ a. a.is_case x) arms) ps (Code c ∷ ps) (λ m vs w. refl) (cases x i arms ps all)
    cases x i [] (p ∷ ps) all = elim all [ ]
    cases x i (a ∷ arms) [] all = elim all [ ]

    defaults : (i : ℕ) (arms : List Arm) (ps : List Piece) → AllParts arms ps → Entered i (default_label i ps) (rest_of (first (λ a. a.is_default) arms)) ps
    defaults i [] [] none = first_label i [] [] (λ l vs w p le g. goes_next fr gives (leading y) l vs w p le g)
    defaults i (a ∷ arms) (Default ∷ ps) (default all) = first_label i (part_step part.Default ∷ arms) (Default ∷ ps) (λ l vs w p le g. here Default arms ps all l vs w p le g)
    defaults i (a ∷ arms) (Case n ∷ ps) (case all) = next_label i (default_label (i + 1) ps) (rest_of (first (λ a. a.is_default) arms)) ps (Case n ∷ ps) (λ m vs w. refl) (defaults (i + 1) arms ps all)
    defaults i (a ∷ arms) (Code c ∷ ps) (stmt act all) = let h = defaults i arms ps all in record { label = h.label; is = h.is; enters = h.enters }
    defaults i [] (p ∷ ps) all = elim all [ ]
    defaults i (a ∷ arms) [] all = elim all [ ]

    entered : (arms : List Arm) (ps : List Piece) (k : ℕ) (rest : List Arm) → Entered 0 k rest ps → (l : List ℕ) (vs : Vars) (w : World) (p : ℕ) → p ≤ w.peak → Agrees fr l vs → Acts fr gives (leading y) (then_with (do_arms rest l w) after_switch) (caught (follow (Broke k vs (low p w)) ps))
    entered arms ps k rest h l vs w p le g = let q : k ≡ h.label = h.is ∙ omega arith in subst (λ z. Acts fr gives (leading y) (then_with (do_arms rest l w) after_switch) (caught (follow (Broke z vs (low p w)) ps))) (sym q) (h.enters l vs w p le g)

    -- with the value in the first free variable
    pub parts_act : (arms : List Arm) (ps : List Piece) → AllParts arms ps → (l : List ℕ) (vs : Vars) (w : World) (p : ℕ) → p ≤ w.peak → Agrees fr l vs
        → Acts fr gives (leading y) (arms_from (skipped (vs fr.free) arms) arms s l w) (run r (block (nest y (dispatch fr.free ps) ps)) vs (low p w))
    parts_act arms ps all l vs w p le g =
        let d = sent fr good r ps l vs (low p w) g in
        let x = vs fr.free in
        subst (λ o. Acts fr gives (leading y) (arms_from (skipped x arms) arms s l w) o)
        (sym (block_is r (nest y (dispatch fr.free ps) ps) vs (low p w) ∙ ap caught (nest_is ps (dispatch fr.free ps) vs (low p w) ∙ ap (λ o. follow o ps) d.is)))
        (subst (λ z. Acts fr gives (leading y) (then_with (do_arms z l w) after_switch) (caught (follow (Broke (unwrap_or (case_label x 0 ps) (default_label 0 ps)) d.new (low p w)) ps))) (sym (skip_is x arms))
        (by (case_label x 0 ps) (first (λ a. a.is_case x) arms) d.new d.locals (cases x 0 arms ps all)))
      where
        by : (f : Option ℕ) (rest : Option (List Arm)) (new : Vars) → Agrees fr l new → MayEnter 0 f rest ps
            → Acts fr gives (leading y) (then_with (do_arms (or_else rest (rest_of (first (λ a. a.is_default) arms))) l w) after_switch) (caught (follow (Broke (unwrap_or f (default_label 0 ps)) new (low p w)) ps))
        by None rest new g h =
            subst (λ z. Acts fr gives (leading y) (then_with (do_arms (or_else z (rest_of (first (λ a. a.is_default) arms))) l w) after_switch) (caught (follow (Broke (default_label 0 ps) new (low p w)) ps))) (sym h)
            (entered arms ps (default_label 0 ps) (rest_of (first (λ a. a.is_default) arms)) (defaults 0 arms ps all) l new w p le g)
        by (Some k) rest new g h =
            subst (λ z. Acts fr gives (leading y) (then_with (do_arms (or_else z (rest_of (first (λ a. a.is_default) arms))) l w) after_switch) (caught (follow (Broke k new (low p w)) ps))) (sym h.1)
            (entered arms ps k h.0 h.2 l new w p le g)
