-- A larger bound only lets a run go further: of each part of a program, by one claim about two ways of calling.
use Rattle.std.proofs.Common.{◌≡◌, ℕ, zero, suc, ◌≤◌, ◌+◌, ◌-◌, Bool, true, false, cond, List, [], ◌∷◌, ◌++◌, map, drop, length, slice_index, slice_set, refl, sym, ap, ◌∙◌, subst, arith, Option, Some, None, append_assoc}
use Rattle.std.specs.Prelude.{Result, Ok, Err, slice_get, ltb}
use Rattle.cm_base.specs.declared.regions.TheConstants.{SECURE_DATA}
use Rattle.cm_base.specs.declared.stop.Stop.{Stop}
use Rattle.cm_base.specs.declared.stop.Stop.TheVariants as stop
use Rattle.ns_types.specs.declared.event.Bound.{Bound}
use Rattle.ns_types.specs.declared.event.Veneer.{Veneer}
use Rattle.ns_types.specs.declared.event.CEvent.{CEvent}
use Rattle.ns_types.specs.declared.event.CEvent.TheVariants as c
use Rattle.ns_types.specs.declared.event.End.{End}
use Rattle.ns_types.specs.declared.event.End.TheVariants as end
use Rattle.ns_types.specs.declared.turn.Start.{Start}
use Rattle.ns_types.specs.Turns.{Turn}
use Rattle.ns_types.specs.Prefix.{IsFront}
use Rattle.ns_types.specs.Access.{Written}
use Rattle.ns_types.specs.Veneers.{enters_of}
use Rattle.ns_types.specs.CRun.{World, Outcome, Gave, Over, emit_plain, emit, mark_at, reach, stop_with, phase}
use Rattle.ns_types.specs.Boundary.{eight_zeros}
use Rattle.ns_types.specs.Bounds.{Adds, Reaches, IsWithin, Extends, GoesFurther, world_of}
use Rattle.ns_types.proofs.BoundLaws.{front_same, front_trans, reaches_same, adds_phase, reaches_phase, extends}
use Rattle.c_types.specs.declared.ctype.CType.{CType}
use Rattle.c_tree.specs.Conditions.{Program}
use Rattle.c_tree.specs.declared.program.TFunction.{TFunction}
use Rattle.c_tree.specs.declared.program.TLocal.{TLocal}
use Rattle.c_tree.specs.declared.expr.Expr.{Expr, roll-Expr}
use Rattle.c_tree.specs.declared.expr.ExprKind.{ExprKind, roll-ExprKind}
use Rattle.c_tree.specs.declared.expr.ExprKind.TheOpen as k
use Rattle.c_tree.specs.declared.expr.ExprKind.TheOpen.{ExprKind-F, Expr-F}
use Rattle.c_tree.specs.declared.expr.ExprKind.TheFolds.{map-ExprKind, map-Expr, fold-roll-ExprKind, fold-roll-Expr, ind-Expr}
use Rattle.c_tree.specs.declared.stmt.Item.{Item}
use Rattle.c_tree.specs.declared.stmt.Stmt.{Stmt, roll-Stmt}
use Rattle.c_tree.specs.declared.stmt.Part.{Part as SwitchPart, roll-Part}
use Rattle.c_tree.specs.declared.stmt.Part.TheOpen as s
use Rattle.c_tree.specs.declared.stmt.Part.TheOpen.{Stmt-F, Part-F}
use Rattle.c_tree.specs.declared.stmt.Part.TheFolds.{map-Stmt, map-Part, fold-roll-Stmt, fold-roll-Part, ind-Stmt}
use Rattle.c_mean.specs.declared.flow.Flow.{Flow}
use Rattle.c_mean.specs.declared.flow.Flow.TheVariants as flow
use Rattle.c_mean.specs.Parts.{Out, Has, Ends, Part, then_with, halt, or_halt, called, loop, in_order, and_next, after_body, after_turn, after_switch, chosen, closing, result_of}
use Rattle.c_mean.specs.Homes.{homes, data_stack, block_of, block_bytes}
use Rattle.c_mean.specs.Values.{Spot, Unplaced, At, spot_in, moved, read_spot, write_spot, written, all_emitted}
use Rattle.c_mean.specs.Exprs as m
use Rattle.c_mean.specs.Exprs.{Around, Sense, Meant, values_from, sense, sense_of, kind_step, expr_step}
use Rattle.c_mean.specs.Stmts as st
use Rattle.c_mean.specs.Stmts.{Does, Arm, does, arm}
use Rattle.c_mean.specs.Calls.{Caller, call, activation, inside, begun, on_function, called_out, entered, entry_functions, need, runs, all_homed, homed, first_values, result, meaning}
use Rattle.c_mean.specs.Run.{program_run, first_memory}

abbrev pub world_in : {A : Type 0} → Out A → World
world_in (Has x l w) = w
world_in (Ends e w) = w

abbrev pub is_spent_out : {A : Type 0} → Out A → Bool
is_spent_out (Has x l w) = false
is_spent_out (Ends end.Spent w) = true
is_spent_out (Ends end.Stopped w) = false
is_spent_out (Ends end.Waiting w) = false

-- o under the smaller bound and p under the larger one, both from w
pub record Law {A : Type 0} (w : World) (o p : Out A) : Type 0 where
  pub own : IsFront w.events (world_in o).events
  pub adds : IsFront w.events (world_in p).events
  pub front : IsFront (world_in o).events (world_in p).events
  pub same : is_spent_out o ≡ false → p ≡ o

-- both do the same
law_both : {A : Type 0} (w : World) (o : Out A) → IsFront w.events (world_in o).events → Law w o o
law_both w o f = record { own = f; adds = f; front = front_same (world_in o).events; same = λ e. refl }

law_has : {A : Type 0} (x : A) (l : List ℕ) (w : World) → Law w (Has x l w) (Has x l w)
law_has x l w = law_both w (Has x l w) (front_same w.events)

adds_then : {A B : Type 0} (w : World) (p : Out A) (g : A → Part B) → IsFront w.events (world_in p).events → ((x : A) (l : List ℕ) (u : World) → IsFront u.events (world_in (g x l u)).events) → IsFront w.events (world_in (then_with p g)).events
adds_then w (Has x l u) g f h = front_trans w.events u.events (world_in (g x l u)).events f (h x l u)
adds_then w (Ends e u) g f h = f

abbrev AllLaw : {A B : Type 0} → (A → Part B) → (A → Part B) → Type 0
AllLaw {A} f g = (x : A) (l : List ℕ) (u : World) → Law u (f x l u) (g x l u)

law_then : {A B : Type 0} (w : World) (o p : Out A) (f g : A → Part B) → Law w o p → AllLaw f g → Law w (then_with o f) (then_with p g)
law_then w (Has x l u) p f g r more =
    let h = more x l u in
    subst (λ q. Law w (f x l u) (then_with q g)) (sym (r.same refl))
    (record {
      own = front_trans w.events u.events (world_in (f x l u)).events r.own h.own;
      adds = front_trans w.events u.events (world_in (g x l u)).events r.own h.adds;
      front = h.front;
      same = h.same;
    })
law_then w (Ends end.Spent u) p f g r more =
    record {
      own = r.own;
      adds = adds_then w p g r.adds (λ x l v. (more x l v).adds);
      front = adds_then u p g r.front (λ x l v. (more x l v).adds);
      same = λ e. cc;
    }
law_then w (Ends end.Stopped u) p f g r more = subst (λ q. Law w (Ends end.Stopped u) (then_with q g)) (sym (r.same refl)) (law_both w (Ends end.Stopped u) r.own)
law_then w (Ends end.Waiting u) p f g r more = subst (λ q. Law w (Ends end.Waiting u) (then_with q g)) (sym (r.same refl)) (law_both w (Ends end.Waiting u) r.own)

law_halt : {A : Type 0} (x : Stop) (w : World) → Law {A = A} w (halt x w) (halt x w)
law_halt {A} x w = law_both {A = A} w (halt x w) (_, refl)

law_or_halt : {A : Type 0} (r : Result A Stop) (l : List ℕ) (w : World) → Law w (or_halt r l w) (or_halt r l w)
law_or_halt (Ok x) l w = law_has x l w
law_or_halt (Err e) l w = law_halt e w

law_chosen : {A : Type 0} (x : ℕ) (f g f' g' : Part A) → ((l : List ℕ) (w : World) → Law w (f l w) (g l w)) → ((l : List ℕ) (w : World) → Law w (f' l w) (g' l w)) → (l : List ℕ) (w : World) → Law w (chosen x f f' l w) (chosen x g g' l w)
law_chosen zero f g f' g' a b l w = b l w
law_chosen (suc n) f g f' g' a b l w = a l w

law_cond : {A : Type 0} (x : Bool) (w : World) (o p o' p' : Out A) → Law w o p → Law w o' p' → Law w (cond x o o') (cond x p p')
law_cond true w o p o' p' a b = a
law_cond false w o p o' p' a b = b

law_read : (t : CType) (p : Spot) (l : List ℕ) (w : World) → Law w (read_spot t p l w) (read_spot t p l w)
law_read t (Unplaced n) l w = law_has _ l w
law_read t (At at) l w = law_then w _ _ _ _ (law_or_halt _ l w) (λ x n u. law_has _ n u)

front_emitted : (es : List CEvent) (w : World) → IsFront w.events (all_emitted es w).events
front_emitted [] w = front_same w.events
front_emitted (e ∷ es) w = front_trans w.events (emit_plain e w).events (all_emitted es (emit_plain e w)).events (_, refl) (front_emitted es (emit_plain e w))

law_written : (r : Result Written Stop) (v : ℕ) (l : List ℕ) (w : World) → Law w (written r v l w) (written r v l w)
law_written (Ok x) v l w = law_both w _ (front_emitted x.events (record w { memory = x.memory }))
law_written (Err e) v l w = law_halt e w

law_write : (t : CType) (p : Spot) (v : ℕ) (l : List ℕ) (w : World) → Law w (write_spot t p v l w) (write_spot t p v l w)
law_write t (Unplaced n) v l w = law_both w (Has v (slice_set l n v) w) (front_same w.events)
law_write t (At at) v l w = law_written _ v l w

-- ---- what stands around, with two ways of calling

pub record Fixed : Type 0 where
  pub block : ℕ
  pub offsets : List (Option ℕ)
  pub globals : List ℕ
  pub from_ns : Bool
  pub returned : ℕ → ℕ

pub record Calls : Type 0 where
  pub call : ℕ → List ℕ → World → Outcome
  pub ns_call : ℕ → List ℕ → World → Outcome
  pub turns : ℕ

abbrev pub around : Fixed → Calls → Around
around f x = record { block = f.block; offsets = f.offsets; globals = f.globals; call = x.call; ns_call = x.ns_call; from_ns = f.from_ns; turns = x.turns; returned = f.returned }

pub record Pair (w : World) (o p : Outcome) : Type 0 where
  pub own : Adds w o
  pub adds : Adds w p
  pub more : Reaches o p

abbrev pub OneBelow : (ℕ → List ℕ → World → Outcome) → (ℕ → List ℕ → World → Outcome) → Type 0
OneBelow low high = (n : ℕ) (xs : List ℕ) (w : World) → Pair w (low n xs w) (high n xs w)

pub record Below (a b : Calls) : Type 0 where
  pub call : OneBelow a.call b.call
  pub ns_call : OneBelow a.ns_call b.ns_call
  pub turns : a.turns ≤ b.turns

over_called : (v : World) (q : Outcome) (l : List ℕ) → IsFront v.events (world_of q).events → IsFront v.events (world_in (called q l)).events
over_called v (Gave x z) l f = f
over_called v (Over e z) l f = f

law_called : (w : World) (o p : Outcome) (l : List ℕ) → Pair w o p → Law w (called o l) (called p l)
law_called w (Gave x u) p l r = subst (λ q. Law w (Has x l u) (called q l)) (sym (r.more.same refl)) (law_both w (Has x l u) r.own.front)
law_called w (Over end.Spent u) p l r = record { own = r.own.front; adds = over_called w p l r.adds.front; front = over_called u p l r.more.front; same = λ e. cc }
law_called w (Over end.Stopped u) p l r = subst (λ q. Law w (Ends end.Stopped u) (called q l)) (sym (r.more.same refl)) (law_both w (Ends end.Stopped u) r.own.front)
law_called w (Over end.Waiting u) p l r = subst (λ q. Law w (Ends end.Waiting u) (called q l)) (sym (r.more.same refl)) (law_both w (Ends end.Waiting u) r.own.front)

-- ---- loops and lists of statements, for any two ways to do a turn or a statement

abbrev BothWays : {A : Type 0} → Part A → Part A → Type 0
BothWays f g = (l : List ℕ) (w : World) → Law w (f l w) (g l w)

law_after : (f : Flow) (x y : Part Flow) → BothWays x y → (l : List ℕ) (w : World) → Law w (after_turn f x l w) (after_turn f y l w)
law_after flow.Next x y h l w = h l w
law_after flow.Continue x y h l w = h l w
law_after flow.Break x y h l w = law_has flow.Next l w
law_after (flow.Return v) x y h l w = law_has (flow.Return v) l w

law_next : (f : Flow) (x y : Part Flow) → BothWays x y → (l : List ℕ) (w : World) → Law w (and_next f x l w) (and_next f y l w)
law_next flow.Next x y h l w = h l w
law_next flow.Continue x y h l w = law_has flow.Continue l w
law_next flow.Break x y h l w = law_has flow.Break l w
law_next (flow.Return v) x y h l w = law_has (flow.Return v) l w

law_body : (f : Flow) (x y : Part Flow) → BothWays x y → (l : List ℕ) (w : World) → Law w (after_body f x l w) (after_body f y l w)
law_body flow.Next x y h l w = h l w
law_body flow.Continue x y h l w = h l w
law_body flow.Break x y h l w = law_has flow.Break l w
law_body (flow.Return v) x y h l w = law_has (flow.Return v) l w

law_switch : (f : Flow) (l : List ℕ) (w : World) → Law w (after_switch f l w) (after_switch f l w)
law_switch flow.Next l w = law_has flow.Next l w
law_switch flow.Continue l w = law_has flow.Continue l w
law_switch flow.Break l w = law_has flow.Next l w
law_switch (flow.Return v) l w = law_has (flow.Return v) l w

adds_after : (f : Flow) (y : Part Flow) → ((l : List ℕ) (w : World) → IsFront w.events (world_in (y l w)).events) → (l : List ℕ) (w : World) → IsFront w.events (world_in (after_turn f y l w)).events
adds_after flow.Next y h l w = h l w
adds_after flow.Continue y h l w = h l w
adds_after flow.Break y h l w = front_same w.events
adds_after (flow.Return v) y h l w = front_same w.events

adds_loop : (turn : Part Flow) → ((l : List ℕ) (w : World) → IsFront w.events (world_in (turn l w)).events) → (n : ℕ) (l : List ℕ) (w : World) → IsFront w.events (world_in (loop turn n l w)).events
adds_loop turn h zero l w = front_same w.events
adds_loop turn h (suc n) l w = adds_then w (turn l w) (λ f m u. after_turn f (loop turn n) m u) (h l w) (λ f m u. adds_after f (loop turn n) (adds_loop turn h n) m u)

law_loop : (turn turn' : Part Flow) → BothWays turn turn' → (n n' : ℕ) → n ≤ n' → BothWays (loop turn n) (loop turn' n')
law_loop turn turn' h zero n' le l w =
    let adds = adds_loop turn' (λ m u. (h m u).adds) n' l w in
    record { own = front_same w.events; adds = adds; front = adds; same = λ e. cc }
law_loop turn turn' h (suc n) zero le l w = absurd (omega arith)
law_loop turn turn' h (suc n) (suc n') le l w =
    law_then w _ _ _ _ (h l w) (λ f m u. law_after f (loop turn n) (loop turn' n') (law_loop turn turn' h n n' (omega arith)) m u)

module _ (fixed : Fixed) (a b : Calls) (below : Below a b) where
  abbrev pub lo : Around
  lo = around fixed a

  abbrev pub hi : Around
  hi = around fixed b

  abbrev pub Lawful : {A : Type 0} → (Around → Part A) → Type 0
  Lawful f = (l : List ℕ) (w : World) → Law w (f lo l w) (f hi l w)

  pub record SenseLaw (x : Sense) : Type 0 where
    pub place : Lawful x.place
    pub value : Lawful x.value

  pub record MeantLaw (x : Meant) : Type 0 where
    pub place : Lawful x.place
    pub value : Lawful x.value

  abbrev KindLaw : ExprKind → Type 0
  KindLaw x = (t : CType) → MeantLaw (sense_of x t)

  abbrev GoodKind : Type 0
  GoodKind = (x : ExprKind) × KindLaw x

  abbrev Good : Type 0
  Good = (e : Expr) × SenseLaw (sense e)

  as_value_law : (f : Around → Part ℕ) → Lawful f → MeantLaw (m.as_value f)
  as_value_law f h = record { place = λ l w. law_has (At 0) l w; value = h }

  as_place_law : (t : CType) (f : Around → Part Spot) → Lawful f → MeantLaw (m.as_place t f)
  as_place_law t f h = record { place = h; value = λ l w. law_then w _ _ _ _ (h l w) (law_read t) }

  one_law : (e : Good) (op : ℕ → Part ℕ) → ((x : ℕ) (l : List ℕ) (w : World) → Law w (op x l w) (op x l w)) → MeantLaw (m.one (sense e.0) op)
  one_law e op h = as_value_law _ (λ l w. law_then w _ _ _ _ (e.1.value l w) h)

  two_law : (e f : Good) (op : ℕ → ℕ → Part ℕ) → ((x y : ℕ) (l : List ℕ) (w : World) → Law w (op x y l w) (op x y l w)) → MeantLaw (m.two (sense e.0) (sense f.0) op)
  two_law e f op h = as_value_law _ (λ l w. law_then w _ _ _ _ (e.1.value l w) (λ x n u. law_then u _ _ _ _ (f.1.value n u) (h x)))

  three_law : (e f g : Good) (op : ℕ → ℕ → ℕ → Part ℕ) → ((x y z : ℕ) (l : List ℕ) (w : World) → Law w (op x y z l w) (op x y z l w)) → MeantLaw (m.three (sense e.0) (sense f.0) (sense g.0) op)
  three_law e f g op h = as_value_law _ (λ l w. law_then w _ _ _ _ (e.1.value l w) (λ x n u. law_then u _ _ _ _ (f.1.value n u) (λ y o v. law_then v _ _ _ _ (g.1.value o v) (h x y))))

  truth_law : (e : Good) (l : List ℕ) (w : World) → Law w (m.truth_value (sense e.0) lo l w) (m.truth_value (sense e.0) hi l w)
  truth_law e l w = law_then w _ _ _ _ (e.1.value l w) (λ x n u. law_has _ n u)

  values_law : (done : List ℕ) (es : List Good) → Lawful (values_from done (map sense (map (λ (e : Good). e.0) es)))
  values_law done [] l w = law_has done l w
  values_law done (e ∷ es) l w = law_then w _ _ _ _ (e.1.value l w) (λ x n u. values_law (done ++ x ∷ []) es n u)

  abbrev seen : ExprKind-F GoodKind Good → ExprKind-F ExprKind Expr
  seen = map-ExprKind GoodKind Good ExprKind Expr (λ x. x.0) (λ e. e.0)

  step_law : (y : ExprKind-F GoodKind Good) (t : CType) → MeantLaw (kind_step (map-ExprKind ExprKind Expr (CType → Meant) Sense sense_of sense (seen y)) t)
  step_law (k.Const n) t = as_value_law _ (λ l w. law_has n l w)
  step_law (k.Local n) t = as_place_law t _ (λ l w. law_has _ l w)
  step_law (k.Global n) t = as_place_law t _ (λ l w. law_has _ l w)
  step_law (k.Deref e) t = as_place_law t _ (λ l w. law_then w _ _ _ _ (e.1.value l w) (λ x n u. law_has _ n u))
  step_law (k.Member e o) t = as_place_law t _ (λ l w. law_then w _ _ _ _ (e.1.place l w) (λ x n u. law_has _ n u))
  step_law (k.Addr e) t = as_value_law _ (λ l w. law_then w _ _ _ _ (e.1.place l w) (λ x n u. law_has _ n u))
  step_law (k.Convert e) t = one_law e _ (λ x n u. law_has _ n u)
  step_law (k.Unary op e) t = one_law e _ (λ x n u. law_has _ n u)
  step_law (k.Binary op e f) t = two_law e f _ (λ x y l w. law_or_halt _ l w)
  step_law (k.PtrAdd e f size) t = two_law e f _ (λ x y l w. law_has _ l w)
  step_law (k.PtrDiff e f size) t = two_law e f _ (λ x y l w. law_or_halt _ l w)
  step_law (k.And e f) t = as_value_law _ (λ l w. law_then w _ _ _ _ (e.1.value l w) (λ x n u. law_chosen x _ _ _ _ (truth_law f) (law_has 0) n u))
  step_law (k.Or e f) t = as_value_law _ (λ l w. law_then w _ _ _ _ (e.1.value l w) (λ x n u. law_chosen x _ _ _ _ (law_has 1) (truth_law f) n u))
  step_law (k.Cond c e f) t = as_value_law _ (λ l w. law_then w _ _ _ _ (c.1.value l w) (λ x n u. law_chosen x _ _ _ _ e.1.value f.1.value n u))
  step_law (k.Assign e f) t = as_value_law _ (λ l w. law_then w _ _ _ _ (e.1.place l w) (λ p n u. law_then u _ _ _ _ (f.1.value n u) (λ x n' v. law_write t p x n' v)))
  step_law (k.AssignOp op e f) t = as_value_law _ (λ l w. law_then w _ _ _ _ (e.1.place l w) (λ p n u. law_then u _ _ _ _ (f.1.value n u) (λ y n' v. law_then v _ _ _ _ (law_read t p n' v) (λ x o z. law_then z _ _ _ _ (law_or_halt _ o z) (λ q o' z'. law_write t p _ o' z')))))
  step_law (k.Step e by old) t = as_value_law _ (λ l w. law_then w _ _ _ _ (e.1.place l w) (λ p n u. law_then u _ _ _ _ (law_read t p n u) (λ x n' v. law_then v _ _ _ _ (law_write t p _ n' v) (λ y o z. law_has _ o z))))
  step_law (k.Comma e f) t = as_value_law _ (λ l w. law_then w _ _ _ _ (e.1.value l w) (λ x n u. f.1.value n u))
  step_law (k.Call n args) t = as_value_law _ (λ l w. law_then w _ _ _ _ (values_law [] args l w) (λ xs n' u. law_called u _ _ n' (below.call n xs u)))
  step_law (k.NsCall p args) t = as_value_law _ (λ l w. law_then w _ _ _ _ (p.1.value l w) (λ x n u. law_then u _ _ _ _ (values_law [] args n u)
      (λ xs n' v. law_cond _ v _ _ _ _ (law_then v _ _ _ _ (law_called v _ _ n' (below.ns_call _ xs v)) (λ r o z. law_has _ o z)) (law_halt stop.CallTarget v))))
  step_law (k.Range p n flags) t = three_law p n flags _ (λ x y z l w. law_has _ l w)
  step_law (k.NsCreate e) t = one_law e _ (λ x n u. law_has _ n u)
  step_law (k.NsTest e) t = one_law e _ (λ x n u. law_has _ n u)
  step_law k.NsCaller t = as_value_law _ (λ l w. law_has _ l w)

  kind_law : (y : ExprKind-F GoodKind Good) → KindLaw (roll-ExprKind (seen y))
  kind_law y t = subst (λ (f : CType → Meant). MeantLaw (f t)) (sym (fold-roll-ExprKind (CType → Meant) Sense kind_step expr_step (seen y))) (step_law y t)

  expr_law : (y : Expr-F GoodKind Good) → SenseLaw (sense (roll-Expr (map-Expr GoodKind Good ExprKind Expr (λ x. x.0) (λ e. e.0) y)))
  expr_law y = subst SenseLaw (sym (fold-roll-Expr (CType → Meant) Sense kind_step expr_step (map-Expr GoodKind Good ExprKind Expr (λ x. x.0) (λ e. e.0) y)))
      (record { place = (y.kind.1 y.ctype).place; value = (y.kind.1 y.ctype).value })

  pub sense_law : (e : Expr) → SenseLaw (sense e)
  sense_law = ind-Expr KindLaw (λ e. SenseLaw (sense e))
      (λ x y is. subst (λ z. KindLaw (roll-ExprKind z)) is (kind_law y))
      (λ x y is. subst (λ z. SenseLaw (sense (roll-Expr z))) is (expr_law y))
      -- ---- statements

  abbrev GoodPart : Type 0
  GoodPart = (x : SwitchPart) × Lawful ((arm x).does)

  abbrev GoodStmt : Type 0
  GoodStmt = (x : Stmt) × Lawful (does x)

  value_law : (e : Expr) → Lawful (m.value e)
  value_law e = (sense_law e).value

  items_law : (is : List Item) (s : Spot) → Lawful (st.initialised is s)
  items_law [] s l w = law_has flow.Next l w
  items_law (i ∷ is) s l w = law_then w _ _ _ _ (value_law i.value l w) (λ x n u. law_then u _ _ _ _ (law_write i.value.ctype (moved s i.offset) x n u) (λ y o v. items_law is s o v))

  done_law : (e : Option Expr) → Lawful (st.done_or e)
  done_law None l w = law_has flow.Next l w
  done_law (Some e) l w = law_then w _ _ _ _ (value_law e l w) (λ x n u. law_has flow.Next n u)

  given_law : (e : Option Expr) → Lawful (st.given e)
  given_law None l w = law_has (flow.Return 0) l w
  given_law (Some e) l w = law_then w _ _ _ _ (value_law e l w) (λ x n u. law_has _ n u)

  test_law : (e : Option Expr) → Lawful (st.test_or e)
  test_law None l w = law_has 1 l w
  test_law (Some e) l w = value_law e l w

  while_law : (test : Around → Part ℕ) (rest : Does) → Lawful test → Lawful rest → Lawful (st.while_so test rest)
  while_law test rest f g l w = law_then w _ _ _ _ (f l w) (λ x n u. law_chosen x _ _ _ _ g (law_has flow.Break) n u)

  body_law : (body rest : Does) → Lawful body → Lawful rest → Lawful (st.body_then body rest)
  body_law body rest f g l w = law_then w _ _ _ _ (f l w) (λ x n u. law_body x _ _ g n u)

  looped_law : (turn : Does) → Lawful turn → Lawful (st.looped turn)
  looped_law turn h l w = law_loop _ _ h a.turns b.turns below.turns l w

  list_law : (ss : List GoodStmt) → Lawful (λ (x : Around). in_order (map (λ (d : Does). d x) (map does (map (λ (s : GoodStmt). s.0) ss))))
  list_law [] l w = law_has flow.Next l w
  list_law (s ∷ ss) l w = law_then w _ _ _ _ (s.1 l w) (λ f n u. law_next f _ _ (list_law ss) n u)

  all_arms_law : (ps : List GoodPart) → Lawful (λ (x : Around). in_order (map (λ (d : Arm). d.does x) (map arm (map (λ (p : GoodPart). p.0) ps))))
  all_arms_law [] l w = law_has flow.Next l w
  all_arms_law (p ∷ ps) l w = law_then w _ _ _ _ (p.1 l w) (λ f n u. law_next f _ _ (all_arms_law ps) n u)

  arms_law : (i : ℕ) (ps : List GoodPart) → Lawful (λ (x : Around). in_order (map (λ (d : Arm). d.does x) (drop i (map arm (map (λ (p : GoodPart). p.0) ps)))))
  arms_law zero ps l w = all_arms_law ps l w
  arms_law (suc i) [] l w = law_has flow.Next l w
  arms_law (suc i) (p ∷ ps) l w = arms_law i ps l w

  abbrev seen_stmt : Stmt-F GoodPart GoodStmt → Stmt-F SwitchPart Stmt
  seen_stmt = map-Stmt GoodPart GoodStmt SwitchPart Stmt (λ x. x.0) (λ s. s.0)

  abbrev seen_part : Part-F GoodPart GoodStmt → Part-F SwitchPart Stmt
  seen_part = map-Part GoodPart GoodStmt SwitchPart Stmt (λ x. x.0) (λ s. s.0)

  stmt_step_law : (y : Stmt-F GoodPart GoodStmt) → Lawful (st.stmt_step (map-Stmt SwitchPart Stmt Arm Does arm does (seen_stmt y)))
  stmt_step_law s.Empty l w = law_has flow.Next l w
  stmt_step_law (s.Expr e) l w = done_law (Some e) l w
  stmt_step_law (s.Declare n items) l w = items_law items (spot_in fixed.block (slice_get fixed.offsets n) n) l w
  stmt_step_law (s.Block list) l w = list_law list l w
  stmt_step_law (s.If test on None) l w = law_then w _ _ _ _ (value_law test l w) (λ x n u. law_chosen x _ _ _ _ on.1 (law_has flow.Next) n u)
  stmt_step_law (s.If test on (Some off)) l w = law_then w _ _ _ _ (value_law test l w) (λ x n u. law_chosen x _ _ _ _ on.1 off.1 n u)
  stmt_step_law (s.While test body) l w = looped_law (st.while_so (m.value test) (does body.0)) (while_law (m.value test) (does body.0) (value_law test) body.1) l w
  stmt_step_law (s.DoWhile body test) l w =
      let again = st.while_so (m.value test) st.goes_on in
      looped_law (st.body_then (does body.0) again) (body_law (does body.0) again body.1 (while_law (m.value test) st.goes_on (value_law test) (law_has flow.Next))) l w
  stmt_step_law (s.For first test next body) l w =
      let rest = st.body_then (does body.0) (st.done_or next) in
      law_then w _ _ _ _ (list_law first l w)
      (λ f n u. looped_law (st.while_so (st.test_or test) rest) (while_law (st.test_or test) rest (test_law test) (body_law (does body.0) (st.done_or next) body.1 (done_law next))) n u)
  stmt_step_law (s.Switch v parts) l w = law_then w _ _ _ _ (value_law v l w) (λ x n u. law_then u _ _ _ _ (arms_law _ parts n u) law_switch)
  stmt_step_law s.Break l w = law_has flow.Break l w
  stmt_step_law s.Continue l w = law_has flow.Continue l w
  stmt_step_law (s.Return e) l w = given_law e l w

  part_step_law : (y : Part-F GoodPart GoodStmt) → Lawful ((st.part_step (map-Part SwitchPart Stmt Arm Does arm does (seen_part y))).does)
  part_step_law (s.Case n) l w = law_has flow.Next l w
  part_step_law s.Default l w = law_has flow.Next l w
  part_step_law (s.Stmt d) l w = d.1 l w

  stmt_law : (y : Stmt-F GoodPart GoodStmt) → Lawful (does (roll-Stmt (seen_stmt y)))
  stmt_law y = subst (λ (d : Does). Lawful d) (sym (fold-roll-Stmt Arm Does st.part_step st.stmt_step (seen_stmt y))) (stmt_step_law y)

  part_law : (y : Part-F GoodPart GoodStmt) → Lawful ((arm (roll-Part (seen_part y))).does)
  part_law y = subst (λ (d : Arm). Lawful d.does) (sym (fold-roll-Part Arm Does st.part_step st.stmt_step (seen_part y))) (part_step_law y)

  pub does_law : (s : Stmt) → Lawful (does s)
  does_law = ind-Stmt (λ x. Lawful ((arm x).does)) (λ x. Lawful (does x))
      (λ x y is. subst (λ z. Lawful ((arm (roll-Part z)).does)) is (part_law y))
      (λ x y is. subst (λ z. Lawful (does (roll-Stmt z))) is (stmt_law y))

  -- ---- bodies of functions

  law_homed : (t : CType) (p : Spot) (v : ℕ) (l : List ℕ) (w : World) → Law w (homed t p v l w) (homed t p v l w)
  law_homed t (Unplaced n) v l w = law_has v l w
  law_homed t (At at) v l w = law_write t (At at) v l w

  all_homed_law : (n : ℕ) (xs : List TLocal) → Lawful (all_homed n xs)
  all_homed_law n [] l w = law_has flow.Next l w
  all_homed_law n (x ∷ xs) l w = law_then w _ _ _ _ (law_homed x.ctype (spot_in fixed.block (slice_get fixed.offsets n) n) (slice_index l n) l w) (λ v m u. all_homed_law (suc n) xs m u)

  pub runs_law : (f : TFunction) → Lawful (runs f)
  runs_law f l w = law_then w _ _ _ _ (all_homed_law 0 f.params l w) (λ v m u. does_law f.body m u)

-- ---- calls

pair_both : (w : World) (o : Outcome) → Adds w o → Pair w o o
pair_both w o h = record { own = h; adds = h; more = reaches_same o }

front_closing : (v : World) (o : Out Flow) → IsFront v.events (world_in o).events → IsFront v.events (world_of (closing o)).events
front_closing v (Has f l u) h = h
front_closing v (Ends e u) h = h

pair_closing : (w : World) (o p : Out Flow) → Law w o p → Pair w (closing o) (closing p)
pair_closing w (Has f l u) p r = subst (λ q. Pair w (Gave (result_of f) u) (closing q)) (sym (r.same refl)) (pair_both w (Gave (result_of f) u) (record { front = r.own }))
pair_closing w (Ends end.Spent u) p r = record {
  own = record { front = r.own };
  adds = record { front = front_closing w p r.adds };
  more = record { front = front_closing u p r.front; same = λ e. cc };
}
pair_closing w (Ends end.Stopped u) p r = subst (λ q. Pair w (Over end.Stopped u) (closing q)) (sym (r.same refl)) (pair_both w (Over end.Stopped u) (record { front = r.own }))
pair_closing w (Ends end.Waiting u) p r = subst (λ q. Pair w (Over end.Waiting u) (closing q)) (sym (r.same refl)) (pair_both w (Over end.Waiting u) (record { front = r.own }))

abbrev pub CallerBelow : Caller → Caller → Type 0
CallerBelow low high = (from_ns : Bool) (load block : ℕ) (f : Option TFunction) (args : List ℕ) (w : World) → Pair w (low from_ns load block f args w) (high from_ns load block f args w)

module _ (p : Program) (enters : ℕ → Option ℕ) (low high : Caller) (below : CallerBelow low high) (t t' : ℕ) (le : t ≤ t') where
  ns_below : (load top : ℕ) → OneBelow (called_out (entered p enters t (low true load top))) (called_out (entered p enters t' (high true load top)))
  ns_below load top target args w =
      let u = emit (c.Called target args) (mark_at target eight_zeros w) w in
      let entry = slice_get (entry_functions p) in
      let own = adds_phase enters (λ e. low true load top (entry e)) (λ e xs v. (below true load top (entry e) xs v).own) t (length u.turns) u in
      let adds = adds_phase enters (λ e. high true load top (entry e)) (λ e xs v. (below true load top (entry e) xs v).adds) t' (length u.turns) u in
      record {
        own = record { front = front_trans w.events u.events _ (_, refl) own.front };
        adds = record { front = front_trans w.events u.events _ (_, refl) adds.front };
        more = reaches_phase enters (λ e. low true load top (entry e)) (λ e. high true load top (entry e)) (λ e xs v. (below true load top (entry e) xs v).adds) (λ e xs v. (below true load top (entry e) xs v).more) t t' le (length u.turns) u;
      }

  activation_below : (from_ns : Bool) (load block : ℕ) (f : TFunction) (args : List ℕ) (w : World) → Pair w (activation p enters t low from_ns load block f args w) (activation p enters t' high from_ns load block f args w)
  activation_below from_ns load block f args w = pair_cond (ltb SECURE_DATA.to (block + block_bytes f))
    where
      u : World
      u = begun load block (block_bytes f) w

      pair_cond : (x : Bool) → Pair w (cond x (stop_with stop.DataStack (reach load w)) (closing (runs f (inside p enters t low from_ns load block f) (first_values f args) u))) (cond x (stop_with stop.DataStack (reach load w)) (closing (runs f (inside p enters t' high from_ns load block f) (first_values f args) u)))
      pair_cond true = pair_both w (stop_with stop.DataStack (reach load w)) (record { front = (_, refl) })
      pair_cond false =
          let top = block + block_bytes f in
          let r = pair_closing u _ _
          (runs_law (record { block = block; offsets = (block_of f).offsets; globals = homes p.globals; from_ns = from_ns; returned = result f })
          (record { call = λ n. low false load top (slice_get p.functions n); ns_call = called_out (entered p enters t (low true load top)); turns = t })
          (record { call = λ n. high false load top (slice_get p.functions n); ns_call = called_out (entered p enters t' (high true load top)); turns = t' })
          (record { call = λ n. below false load top (slice_get p.functions n); ns_call = ns_below load top; turns = le }) f (first_values f args) u) in
          record { own = record { front = r.own.front }; adds = record { front = r.adds.front }; more = r.more }

  function_below : (from_ns : Bool) (load block : ℕ) (f : Option TFunction) (args : List ℕ) (w : World)
      → Pair w (on_function f w (λ g. activation p enters t low from_ns (load + need g) block g args w)) (on_function f w (λ g. activation p enters t' high from_ns (load + need g) block g args w))
  function_below from_ns load block None args w = pair_both w (Over end.Stopped w) (record { front = front_same w.events })
  function_below from_ns load block (Some g) args w = activation_below from_ns (load + need g) block g args w

call_self : (p : Program) (enters : ℕ → Option ℕ) (t d : ℕ) → CallerBelow (call p enters t d) (call p enters t d)
call_self p enters t zero from_ns load block f args w = pair_both w (Over end.Spent w) (record { front = front_same w.events })
call_self p enters t (suc d) from_ns load block f args w = function_below p enters (call p enters t d) (call p enters t d) (call_self p enters t d) t t (omega arith) from_ns load block f args w

pub call_below : (p : Program) (enters : ℕ → Option ℕ) (t t' : ℕ) → t ≤ t' → (d d' : ℕ) → d ≤ d' → CallerBelow (call p enters t d) (call p enters t' d')
call_below p enters t t' le zero d' ld from_ns load block f args w =
    let adds = (call_self p enters t' d' from_ns load block f args w).own in
    record { own = record { front = front_same w.events }; adds = adds; more = record { front = adds.front; same = λ e. cc } }
call_below p enters t t' le (suc d) zero ld from_ns load block f args w = absurd (omega arith)
call_below p enters t t' le (suc d) (suc d') ld from_ns load block f args w =
    function_below p enters (call p enters t d) (call p enters t' d') (call_below p enters t t' le d d' (omega arith)) t t' le from_ns load block f args w

-- a larger bound, for bodies of entries
pub goes_further : (p : Program) (enters : ℕ → Option ℕ) → GoesFurther (meaning p enters)
goes_further p enters = record {
  adds = λ b e args w. (call_self p enters b.turns b.deep true 0 (data_stack p.globals) (slice_get (entry_functions p) e) args w).own;
  more = λ a b within e args w. (call_below p enters a.turns b.turns within.0 a.deep b.deep within.1 true 0 (data_stack p.globals) (slice_get (entry_functions p) e) args w).more;
}

-- the same of whole runs
pub runs_extend : (p : Program) (veneers : List Veneer) (start : Start) (ts : List Turn) (a b : Bound) → IsWithin a b
    → Extends (program_run p veneers start ts a) (program_run p veneers start ts b)
runs_extend p veneers start ts a b within =
    extends (meaning p (enters_of veneers p.entries)) (goes_further p (enters_of veneers p.entries)) (enters_of veneers p.entries) start (first_memory p start) ts a b within
