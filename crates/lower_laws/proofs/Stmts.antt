-- Every statement.
use Rattle.std.proofs.Common.{◌≡◌, ℕ, ◌+◌, ◌<◌, ◌≤◌, ◌&&◌, ◌||◌, Bool, true, false, List, [], ◌∷◌, ◌++◌, length, map, refl, sym, ap, ◌∙◌, subst, arith, Option, Some, None, slice_get, nat_lt}
use Rattle.ns_types.specs.CRun.{World}
use Rattle.ns_types.specs.Alike.{low}
use Rattle.c_tree.specs.Numbers as numbers
use Rattle.c_tree.specs.Numbers.{expr_in_range, stmt_in_range, in_range_or, items_in_range, all_true, or_true}
use Rattle.c_tree.specs.declared.expr.Expr.{Expr}
use Rattle.c_tree.specs.declared.stmt.Item.{Item}
use Rattle.c_tree.specs.declared.stmt.Stmt.{Stmt, roll-Stmt}
use Rattle.c_tree.specs.declared.stmt.Part.{Part as SwitchPart, roll-Part}
use Rattle.c_tree.specs.declared.stmt.Part.TheOpen as k
use Rattle.c_tree.specs.declared.stmt.Part.TheOpen.{Stmt-F, Part-F}
use Rattle.c_tree.specs.declared.stmt.Part.TheFolds.{map-Stmt, map-Part, fold-Part, fold-roll-Stmt, fold-roll-Part, ind-Stmt}
use Rattle.c_mean.specs.declared.flow.Flow.{Flow}
use Rattle.c_mean.specs.declared.flow.Flow.TheVariants as flow
use Rattle.c_mean.specs.Parts as tree
use Rattle.c_mean.specs.Parts.{Has, Part, then_with, chosen, in_order}
use Rattle.c_mean.specs.Values.{Spot, moved, write_spot, spot_in}
use Rattle.c_mean.specs.Exprs as mean
use Rattle.c_mean.specs.Exprs.{Around}
use Rattle.c_mean.specs.Stmts as st
use Rattle.c_mean.specs.Stmts.{Arm, Does, does, arm}
use Rattle.mid_ir.specs.declared.stmt.MidStmt.{MidStmt}
use Rattle.mid_ir.specs.declared.stmt.MidStmt.TheVariants as mid
use Rattle.mid_ir.specs.Activation.{Vars, put, Site}
use Rattle.mid_ir.specs.Run.{Out, Next, Broke, Gives, narrowed, then_do, caught, run, run_all}
use Rattle.mid_ir.specs.Run as run_mid
use Rattle.mid_ir.specs.Whole.{given}
use Rattle.mid_ir.proofs.RunLaws.{run_Const, run_Loop, run_Seq, run_Break, run_Return, run_all_append}
use Rattle.lower_code.specs.Frames.{Frame}
use Rattle.lower_code.specs.Pieces.{kind_as, narrow, choose}
use Rattle.lower_code.specs.Exprs as expr
use Rattle.lower_code.specs.Exprs.{Place, place_at, member}
use Rattle.lower_code.specs.Stmts as code
use Rattle.lower_code.specs.Stmts.{Ways, Codes, Piece, farther, in_loop, in_first, coded, piece, items_code, leave, return_code, code_or, all_codes, block, loop, while_so, while_or}
use Rattle.lower_code.specs.Programs.{bare, bare_step, bare_part, all_bare}
use Rattle.lower_laws.specs.Likeness.{Like}
use Rattle.lower_laws.proofs.Relate.{put_same, Agrees, IsFrame}
use Rattle.lower_laws.proofs.Straight.{next, narrow_sets}
use Rattle.lower_laws.proofs.Places.{Does as DoesValue, Stands, then_then, member_stands}
use Rattle.lower_laws.proofs.Writes.{sets_then, assigned_does}
use Rattle.lower_laws.proofs.Operands.{choose_is}
use Rattle.lower_laws.proofs.Exprs.{both_left, both_right, value_does, local_stands}
use Rattle.lower_laws.proofs.Flows.{Leads, leading, turning, Returned, Acts, Onward, goes_break, goes_continue, value_acts, value_alone, chosen_acts, then_acts, body_acts, after_acts, loop_acts, first_acts}
use Rattle.lower_laws.proofs.Switches.{last_is}
use Rattle.lower_laws.proofs.Nests.{AllParts, none, case, default, stmt, block_is, parts_act}

or_left : (c a b : Bool) → (c || (a && b)) ≡ true → (c || a) ≡ true
or_left true a b h = refl
or_left false a b h = both_left a b h

or_right : (c a b : Bool) → (c || (a && b)) ≡ true → (c || b) ≡ true
or_right true a b h = refl
or_right false a b h = both_right a b h

or_else : (c : Bool) → (c || false) ≡ true → c ≡ true
or_else true h = refl
or_else false h = h

module _ (around : numbers.Around) (fr : Frame) (good : IsFrame fr) (s : Around) (r : Site) (like : Like around.names fr s r) (all : around.locals ≡ length fr.homes) (gives ok : Bool) (given_is : ok ≡ true → (x : ℕ) → given gives (narrowed (kind_as fr.gives) x) ≡ s.returned x) where
  abbrev A : Leads → tree.Out Flow → Out → Type 0
  A = Acts fr gives

  abbrev O : Leads → Part Flow → (Vars → World → Out) → Type 0
  O = Onward fr gives

  value : (e : Expr) → expr_in_range around e ≡ true → DoesValue fr good r like.room (mean.value e s) (expr.code fr e)
  value e h = value_does around fr good s r like all e h

  -- an expression in the first free variable, and what follows it
  value_more : (y : Leads) (a : Part ℕ) (c : expr.Codes) (d : List MidStmt) (f : ℕ → Part Flow) → DoesValue fr good r like.room a c
      → ((l : List ℕ) (new : Vars) (w : World) (p : ℕ) → p ≤ w.peak → Agrees fr l new → A y (f (new fr.free) l w) (run_all r d new (low p w)))
      → O y (λ l w. then_with (a l w) f) (run_all r (c fr.free ++ d))
  value_more y a c d f h k l vs w p le g =
      subst (λ o. A y (then_with (a l w) f) o) (sym (run_all_append r (c fr.free) d vs (low p w)))
      (value_acts fr gives fr.free vs y (a l w) (run_all r (c fr.free) vs (low p w)) f (run_all r d) (h.by fr.free (omega arith) l vs w p le g) k)

  -- ---- simple statements

  -- what comes of no code
  nothing : (y : Leads) → y.next ≡ Next → O y (λ l w. Has flow.Next l w) (run_all r [])
  nothing y e l vs w p le g = record { by = record { new = vs; peak = p; less = le; is = ap (λ z. z vs (low p w)) (sym e); locals = g } }

  done : (y : Leads) → y.next ≡ Next → (e : Option Expr) → in_range_or around e ≡ true → O y (st.done_or e s) (run_all r (code_or fr e))
  done y n None h l vs w p le g = nothing y n l vs w p le g
  done y n (Some e) h l vs w p le g = value_alone fr gives fr.free vs y _ _ n ((value e h).by fr.free (omega arith) l vs w p le g)

  items : (y : Ways) (is : List Item) → items_in_range around is ≡ true → (spot : Spot) (z : Place) → Stands fr good r like.room (λ l w. Has spot l w) z → O (leading y) (st.initialised is spot s) (run_all r (items_code fr z is))
  items y [] h spot z q l vs w p le g = nothing (leading y) refl l vs w p le g
  items y (i ∷ is) h spot z q l vs w p le g =
      let c = i.value.ctype in
      let a : Part ℕ = λ m u. then_with (mean.value i.value s m u) (write_spot c (moved spot i.offset)) in
      let d = assigned_does fr good r like.room c (λ m u. Has (moved spot i.offset) m u) (member fr.bytes z i.offset) (mean.value i.value s) (expr.code fr i.value) (member_stands fr good r like.room (λ m u. Has spot m u) z i.offset q) (value i.value (both_left _ _ h)) in
      subst (λ o. A (leading y) o (run_all r (items_code fr z (i ∷ is)) vs (low p w))) (then_then (mean.value i.value s l w) (write_spot c (moved spot i.offset)) (λ x. st.initialised is spot s))
      (value_more (leading y) a (expr.assigned c (member fr.bytes z i.offset) (expr.code fr i.value)) (items_code fr z is) (λ x. st.initialised is spot s) d
      (λ l new w p le g. items y is (both_right _ _ h) spot z q l new w p le g) l vs w p le g)

  -- the value of `return`
  leaves_with : (q : Option ℕ) (l : List ℕ) (new : Vars) (w : World) (p : ℕ) → p ≤ w.peak → Agrees fr l new → ok ≡ true → Returned fr gives q (s.returned (new fr.free)) l w (run_all r (leave fr q) new (low p w))
  leaves_with (Some n) l new w p le g h = record { new = new; peak = p; less = le; is = last_is fr good r (mid.Break n) new (low p w) ∙ run_Break r n new (low p w); locals = g }
  leaves_with None l new w p le g h =
      let kind = kind_as fr.gives in
      let one = narrow_sets r kind fr.free (fr.free + 1) new (low p w) in
      record {
        value = one.new fr.free;
        peak = p;
        less = le;
        is = sets_then r fr.free (fr.free + 1) _ (narrow kind fr.free) (mid.Return fr.free ∷ []) new (low p w) one ∙ last_is fr good r (mid.Return fr.free) one.new (low p w) ∙ run_Return r fr.free one.new (low p w);
        holds = ap (given gives) one.holds ∙ given_is h (new fr.free);
      }

  given_zero : (b : Bool) → given b 0 ≡ 0
  given_zero true = refl
  given_zero false = refl

  leaves_bare : (q : Option ℕ) (l : List ℕ) (vs : Vars) (w : World) (p : ℕ) → p ≤ w.peak → Agrees fr l vs → Returned fr gives q 0 l w (run_all r (return_code fr None q) vs (low p w))
  leaves_bare (Some n) l vs w p le g = record { new = vs; peak = p; less = le; is = last_is fr good r (mid.Break n) vs (low p w) ∙ run_Break r n vs (low p w); locals = g }
  leaves_bare None l vs w p le g =
      let one = put vs fr.free 0 in
      record {
        value = 0;
        peak = p;
        less = le;
        is = next r (mid.Const fr.free 0) (mid.Return fr.free ∷ []) vs one (low p w) (low p w) (run_Const r fr.free 0 vs (low p w)) ∙ last_is fr good r (mid.Return fr.free) one (low p w) ∙ run_Return r fr.free one (low p w) ∙ ap (λ (x : ℕ). Gives x (low p w)) (put_same vs fr.free 0);
        holds = given_zero gives;
      }

  -- ---- loops

  loops : (y : Ways) (f : Part Flow) (ms : List MidStmt) → O (turning (farther 1 y.returns)) f (run_all r ms) → O (leading y) (tree.loop f s.turns) (run_all r (loop ms ∷ []))
  loops y f ms h l vs w p le g =
      subst (λ o. A (leading y) (tree.loop f s.turns l w) o)
      (sym (last_is fr good r (loop ms) vs (low p w) ∙ run_Loop r (mid.Seq ms) vs (low p w) ∙ ap (λ n. run_mid.loop (run r (mid.Seq ms)) n vs (low p w)) like.turns))
      (loop_acts fr gives y f (run r (mid.Seq ms)) (λ l vs w p le g. subst (λ o. A (turning (farther 1 y.returns)) (f l w) o) (sym (run_Seq r ms vs (low p w))) (h l vs w p le g)) s.turns l vs w p le g)

  -- the body of a loop
  bodies : (y : Ways) (f : Part Flow) (ms : List MidStmt) → O (leading (in_loop y)) f (run_all r ms) → (l : List ℕ) (vs : Vars) (w : World) (p : ℕ) → p ≤ w.peak → Agrees fr l vs → A (turning (farther 1 y.returns)) (f l w) (run r (block ms) vs (low p w))
  bodies y f ms h l vs w p le g = subst (λ o. A (turning (farther 1 y.returns)) (f l w) o) (sym (block_is r ms vs (low p w))) (body_acts fr gives y (f l w) (run_all r ms vs (low p w)) (h l vs w p le g))

  body_alone : (y : Ways) (f : Part Flow) (ms : List MidStmt) → O (leading (in_loop y)) f (run_all r ms) → O (turning (farther 1 y.returns)) f (run_all r (block ms ∷ []))
  body_alone y f ms h l vs w p le g = subst (λ o. A (turning (farther 1 y.returns)) (f l w) o) (sym (last_is fr good r (block ms) vs (low p w))) (bodies y f ms h l vs w p le g)

  body_then : (y : Ways) (f g : Part Flow) (ms more : List MidStmt) → O (leading (in_loop y)) f (run_all r ms) → O (turning (farther 1 y.returns)) g (run_all r more) → O (turning (farther 1 y.returns)) (λ l w. then_with (f l w) (λ x m u. tree.after_body x g m u)) (run_all r (block ms ∷ more))
  body_then y f g ms more h k l vs w p le q = after_acts fr gives (farther 1 y.returns) (f l w) (run r (block ms) vs (low p w)) g (run_all r more) (bodies y f ms h l vs w p le q) k

  -- a turn with a test
  tests : (q : Option ℕ) (e : Expr) → expr_in_range around e ≡ true → (f : Part Flow) (ms : List MidStmt) → O (turning q) f (run_all r ms) → O (turning q) (λ l w. then_with (mean.value e s l w) (λ x m u. chosen x f (λ n v. Has flow.Break n v) m u)) (run_all r (while_so fr e ms))
  tests q e h f ms k =
      value_more (turning q) (mean.value e s) (expr.code fr e) (choose fr.free ms (mid.Break 0 ∷ []) ∷ []) (λ x m u. chosen x f (λ n v. Has flow.Break n v) m u) (value e h)
      (λ l new w p le g.
      subst (λ o. A (turning q) (chosen (new fr.free) f (λ n v. Has flow.Break n v) l w) o) (sym (last_is fr good r (choose fr.free ms (mid.Break 0 ∷ [])) new (low p w) ∙ choose_is r fr.free ms (mid.Break 0 ∷ []) new (low p w)))
      (chosen_acts fr gives (turning q) (new fr.free) f (λ n v. Has flow.Break n v) l w _ _ (k l new w p le g)
      (subst (λ o. A (turning q) (Has flow.Break l w) o) (sym (last_is fr good r (mid.Break 0) new (low p w) ∙ run_Break r 0 new (low p w))) (goes_break fr gives (turning q) l new w p le g))))

  tests_or : (q : Option ℕ) (e : Option Expr) → in_range_or around e ≡ true → (f : Part Flow) (ms : List MidStmt) → O (turning q) f (run_all r ms) → O (turning q) (λ l w. then_with (st.test_or e s l w) (λ x m u. chosen x f (λ n v. Has flow.Break n v) m u)) (run_all r (while_or fr e ms))
  tests_or q None h f ms k = k
  tests_or q (Some e) h f ms k = tests q e h f ms k

  -- ---- by the layers

  abbrev part_in : SwitchPart → Bool
  part_in = fold-Part Bool Bool numbers.part_step (numbers.stmt_step around)

  abbrev part_bare : SwitchPart → Bool
  part_bare = fold-Part Bool Bool bare_part bare_step

  abbrev pub Good : Stmt → Type 0
  Good x = stmt_in_range around x ≡ true → (ok || bare x) ≡ true → (y : Ways) → O (leading y) (does x s) (run_all r (coded fr x y))

  -- a part and its piece may stand before others
  abbrev pub PartGood : SwitchPart → Type 0
  PartGood x = part_in x ≡ true → (ok || part_bare x) ≡ true → (arms : List Arm) (ps : List Piece) → AllParts fr good gives s r arms ps → AllParts fr good gives s r (arm x ∷ arms) (piece fr x ∷ ps)

  abbrev GoodS : Type 0
  GoodS = (x : Stmt) × Good x

  abbrev GoodP : Type 0
  GoodP = (x : SwitchPart) × PartGood x

  abbrev layer : Stmt-F GoodP GoodS → Stmt-F SwitchPart Stmt
  layer = map-Stmt GoodP GoodS SwitchPart Stmt (λ x. x.0) (λ x. x.0)

  at_layer : (x : Stmt-F SwitchPart Stmt)
      → (numbers.stmt_step around (map-Stmt SwitchPart Stmt Bool Bool part_in (stmt_in_range around) x) ≡ true → (ok || bare_step (map-Stmt SwitchPart Stmt Bool Bool part_bare bare x)) ≡ true
      → (y : Ways) → O (leading y) (st.stmt_step (map-Stmt SwitchPart Stmt Arm Does arm does x) s) (run_all r (code.stmt_step fr (map-Stmt SwitchPart Stmt Piece Codes (piece fr) (coded fr) x) y)))
      → Good (roll-Stmt x)
  at_layer x f h b y =
      subst (λ (z : Does). O (leading y) (z s) (run_all r (coded fr (roll-Stmt x) y))) (sym (fold-roll-Stmt Arm Does st.part_step st.stmt_step x))
      (subst (λ (z : Codes). O (leading y) (st.stmt_step (map-Stmt SwitchPart Stmt Arm Does arm does x) s) (run_all r (z y))) (sym (fold-roll-Stmt Piece Codes code.part_step (code.stmt_step fr) x))
      (f (sym (fold-roll-Stmt Bool Bool numbers.part_step (numbers.stmt_step around) x) ∙ h) (ap (λ z. ok || z) (sym (fold-roll-Stmt Bool Bool bare_part bare_step x)) ∙ b) y))

  list_good : (xs : List GoodS) → all_true (map (stmt_in_range around) (map (λ (x : GoodS). x.0) xs)) ≡ true → (ok || all_bare (map bare (map (λ (x : GoodS). x.0) xs))) ≡ true
      → (y : Ways) → O (leading y) (in_order (map (λ (d : Does). d s) (map does (map (λ (x : GoodS). x.0) xs)))) (run_all r (all_codes (map (coded fr) (map (λ (x : GoodS). x.0) xs)) y))
  list_good [] h b y l vs w p le g = nothing (leading y) refl l vs w p le g
  list_good (x ∷ xs) h b y l vs w p le g =
      let rest = all_codes (map (coded fr) (map (λ (x : GoodS). x.0) xs)) y in
      let more = in_order (map (λ (d : Does). d s) (map does (map (λ (x : GoodS). x.0) xs))) in
      subst (λ o. A (leading y) (then_with (does x.0 s l w) (λ f m u. tree.and_next f more m u)) o) (sym (run_all_append r (coded fr x.0 y) rest vs (low p w)))
      (then_acts fr gives y (does x.0 s l w) (run_all r (coded fr x.0 y) vs (low p w)) more (run_all r rest) (x.1 (both_left _ _ h) (or_left ok _ _ b) y l vs w p le g) (list_good xs (both_right _ _ h) (or_right ok _ _ b) y))

  parts_good : (xs : List GoodP) → all_true (map part_in (map (λ (x : GoodP). x.0) xs)) ≡ true → (ok || all_bare (map part_bare (map (λ (x : GoodP). x.0) xs))) ≡ true → AllParts fr good gives s r (map arm (map (λ (x : GoodP). x.0) xs)) (map (piece fr) (map (λ (x : GoodP). x.0) xs))
  parts_good [] h b = none
  parts_good (x ∷ xs) h b = x.1 (both_left _ _ h) (or_left ok _ _ b) _ _ (parts_good xs (both_right _ _ h) (or_right ok _ _ b))

  ifs : (test : Expr) → expr_in_range around test ≡ true → (y : Ways) (f g : Part Flow) (on off : List MidStmt) → O (leading y) f (run_all r on) → O (leading y) g (run_all r off)
      → O (leading y) (λ l w. then_with (mean.value test s l w) (λ x m u. chosen x f g m u)) (run_all r (expr.code fr test fr.free ++ choose fr.free on off ∷ []))
  ifs test h y f g on off i j =
      value_more (leading y) (mean.value test s) (expr.code fr test) (choose fr.free on off ∷ []) (λ x m u. chosen x f g m u) (value test h)
      (λ l new w p le q.
      subst (λ o. A (leading y) (chosen (new fr.free) f g l w) o) (sym (last_is fr good r (choose fr.free on off) new (low p w) ∙ choose_is r fr.free on off new (low p w)))
      (chosen_acts fr gives (leading y) (new fr.free) f g l w _ _ (i l new w p le q) (j l new w p le q)))

  stmt_good : (x : Stmt-F GoodP GoodS) → Good (roll-Stmt (layer x))
  stmt_good k.Empty = at_layer k.Empty (λ h b y. nothing (leading y) refl)
  stmt_good (k.Expr e) = at_layer (k.Expr e) (λ h b y. done (leading y) refl (Some e) h)
  stmt_good (k.Declare n is) = at_layer (k.Declare n is) (λ h b y.
      let lt : n < around.locals = let q = both_left (nat_lt n around.locals) _ h in grind (arith, q) in
      items y is (both_right _ _ h) (spot_in s.block (slice_get s.offsets n) n) (place_at (slice_get fr.homes n)) (local_stands around fr good s r like all n (omega (arith, lt, all))))
  stmt_good (k.Block xs) = at_layer (k.Block (map (λ (x : GoodS). x.0) xs)) (λ h b y. list_good xs h b y)
  stmt_good (k.If test on None) = at_layer (k.If test on.0 None) (λ h b y. ifs test (both_left _ _ h) y _ _ _ [] (on.1 (both_left _ _ (both_right _ _ h)) (or_left ok _ _ b) y) (nothing (leading y) refl))
  stmt_good (k.If test on (Some off)) = at_layer (k.If test on.0 (Some off.0)) (λ h b y.
      ifs test (both_left _ _ h) y _ _ _ _ (on.1 (both_left _ _ (both_right _ _ h)) (or_left ok _ _ b) y) (off.1 (both_right _ _ (both_right _ _ h)) (or_right ok _ _ b) y))
  stmt_good (k.While test body) = at_layer (k.While test body.0) (λ h b y.
      let act = body.1 (both_right _ _ h) b (in_loop y) in
      loops y _ (while_so fr test (block (coded fr body.0 (in_loop y)) ∷ [])) (tests (farther 1 y.returns) test (both_left _ _ h) (does body.0 s) (block (coded fr body.0 (in_loop y)) ∷ []) (body_alone y (does body.0 s) (coded fr body.0 (in_loop y)) act)))
  stmt_good (k.DoWhile body test) = at_layer (k.DoWhile body.0 test) (λ h b y.
      let act = body.1 (both_left _ _ h) b (in_loop y) in
      loops y _ (block (coded fr body.0 (in_loop y)) ∷ while_so fr test []) (body_then y (does body.0 s) _ (coded fr body.0 (in_loop y)) (while_so fr test []) act (tests (farther 1 y.returns) test (both_right _ _ h) (λ l w. Has flow.Next l w) [] (nothing (turning (farther 1 y.returns)) refl))))
  stmt_good (k.For first test step body) = at_layer (k.For (map (λ (x : GoodS). x.0) first) test step body.0) (λ h b y.
      let starts = all_true (map (stmt_in_range around) (map (λ (x : GoodS). x.0) first)) in
      let tested = in_range_or around test in
      let stepped = in_range_or around step in
      let inner = stmt_in_range around body.0 in
      let after = both_right starts (tested && (stepped && inner)) h in
      let last = both_right tested (stepped && inner) after in
      let one = list_good first (both_left starts (tested && (stepped && inner)) h) (or_left ok _ _ b) in_first in
      let act = body.1 (both_right stepped inner last) (or_right ok _ _ b) (in_loop y) in
      let ms = block (coded fr body.0 (in_loop y)) ∷ code_or fr step in
      let q = farther 1 y.returns in
      let turn = tests_or q test (both_left tested (stepped && inner) after) _ ms (body_then y (does body.0 s) _ (coded fr body.0 (in_loop y)) (code_or fr step) act (done (turning q) refl step (both_left stepped inner last))) in
      let begin = all_codes (map (coded fr) (map (λ (x : GoodS). x.0) first)) in_first in
      λ l vs w p le g.
      subst (λ o. A (leading y) (then_with (in_order (map (λ (d : Does). d s) (map does (map (λ (x : GoodS). x.0) first))) l w) (λ x. st.looped (st.while_so (st.test_or test) (st.body_then (does body.0) (st.done_or step))) s)) (then_do o (run_all r (loop (while_or fr test ms) ∷ [])))) (sym (block_is r begin vs (low p w)))
      (first_acts fr gives (leading y) _ (run_all r begin vs (low p w)) _ (run_all r (loop (while_or fr test ms) ∷ [])) (one l vs w p le g) (loops y _ (while_or fr test ms) turn)))
  stmt_good (k.Switch v xs) = at_layer (k.Switch v (map (λ (x : GoodP). x.0) xs)) (λ h b y.
      let ps = map (piece fr) (map (λ (x : GoodP). x.0) xs) in
      let arms = map arm (map (λ (x : GoodP). x.0) xs) in
      let last = block (code.nest y (code.dispatch fr.free ps) ps) in
      value_more (leading y) (mean.value v s) (expr.code fr v) (last ∷ []) (λ x. st.arms_from (st.skipped x arms) arms s) (value v (both_left _ _ h))
      (λ l new w p le g.
      subst (λ o. A (leading y) (st.arms_from (st.skipped (new fr.free) arms) arms s l w) o) (sym (last_is fr good r last new (low p w)))
      (parts_act fr good gives s r y arms ps (parts_good xs (both_right _ _ h) b) l new w p le g)))
  stmt_good k.Break = at_layer k.Break (λ h b y l vs w p le g. subst (λ o. A (leading y) (Has flow.Break l w) o) (sym (last_is fr good r (mid.Break y.breaks) vs (low p w) ∙ run_Break r y.breaks vs (low p w))) (goes_break fr gives (leading y) l vs w p le g))
  stmt_good k.Continue = at_layer k.Continue (λ h b y l vs w p le g. subst (λ o. A (leading y) (Has flow.Continue l w) o) (sym (last_is fr good r (mid.Break y.continues) vs (low p w) ∙ run_Break r y.continues vs (low p w))) (goes_continue fr gives (leading y) l vs w p le g))
  stmt_good (k.Return None) = at_layer (k.Return None) (λ h b y l vs w p le g. record { by = leaves_bare y.returns l vs w p le g })
  stmt_good (k.Return (Some e)) = at_layer (k.Return (Some e)) (λ h b y.
      value_more (leading y) (mean.value e s) (expr.code fr e) (leave fr y.returns) (λ x. st.leaves (flow.Return (s.returned x)) s) (value e h)
      (λ l new w p le g. record { by = leaves_with y.returns l new w p le g (or_else ok b) }))

  part_good : (x : Part-F GoodP GoodS) → PartGood (roll-Part (map-Part GoodP GoodS SwitchPart Stmt (λ x. x.0) (λ x. x.0) x))
  part_good x h b arms ps all =
      let z = map-Part GoodP GoodS SwitchPart Stmt (λ x. x.0) (λ x. x.0) x in
      subst (λ (q : Arm). AllParts fr good gives s r (q ∷ arms) (piece fr (roll-Part z) ∷ ps)) (sym (fold-roll-Part Arm Does st.part_step st.stmt_step z))
      (subst (λ (q : Piece). AllParts fr good gives s r (st.part_step (map-Part SwitchPart Stmt Arm Does arm does z) ∷ arms) (q ∷ ps)) (sym (fold-roll-Part Piece Codes code.part_step (code.stmt_step fr) z))
      (by x (sym (fold-roll-Part Bool Bool numbers.part_step (numbers.stmt_step around) z) ∙ h) (ap (λ q. ok || q) (sym (fold-roll-Part Bool Bool bare_part bare_step z)) ∙ b)))
    where
      by : (x : Part-F GoodP GoodS)
          → numbers.part_step (map-Part SwitchPart Stmt Bool Bool part_in (stmt_in_range around) (map-Part GoodP GoodS SwitchPart Stmt (λ x. x.0) (λ x. x.0) x)) ≡ true
          → (ok || bare_part (map-Part SwitchPart Stmt Bool Bool part_bare bare (map-Part GoodP GoodS SwitchPart Stmt (λ x. x.0) (λ x. x.0) x))) ≡ true
          → AllParts fr good gives s r (st.part_step (map-Part SwitchPart Stmt Arm Does arm does (map-Part GoodP GoodS SwitchPart Stmt (λ x. x.0) (λ x. x.0) x)) ∷ arms) (code.part_step (map-Part SwitchPart Stmt Piece Codes (piece fr) (coded fr) (map-Part GoodP GoodS SwitchPart Stmt (λ x. x.0) (λ x. x.0) x)) ∷ ps)
      by (k.Case n) h b = case all
      by k.Default h b = default all
      by (k.Stmt d) h b = stmt (d.1 h b) all

  pub all_good : (x : Stmt) → Good x
  all_good = ind-Stmt PartGood Good (λ x y is. subst (λ z. PartGood (roll-Part z)) is (part_good y)) (λ x y is. subst (λ z. Good (roll-Stmt z)) is (stmt_good y))
