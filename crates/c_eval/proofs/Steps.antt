-- The steps of a run, one equation each.
use Rattle.std.proofs.Common.{◌≡◌, ◌≢◌, ℕ, zero, suc, ◌+◌, ◌-◌, ◌*◌, ◌<◌, ◌≤◌, Bool, true, false, not, cond, ltb, nat_lt, List, [], ◌∷◌, drop, length, map, refl, ap, sym, subst, ◌∙◌, rules, arith, Option, Some, None, option_map, slice_get, slice_index, take, unwrap_or}
use Rattle.std.specs.Prelude.{Result, Ok, Err}
use Rattle.std.proofs.Math.Path.{fun_ext}
use Rattle.std.specs.List.{position_or_len}
use Rattle.std.proofs.lemmas.Bool.{lt-ltb, le-ltb}
use Rattle.std.proofs.lemmas.Grind.{common_steps}
use Rattle.std.proofs.lemmas.List.{drop-map, length-map}
use Rattle.std.proofs.lemmas.List.Sums.{prefix_len-le-length}
use Rattle.ns_types.specs.Boundary.{acted, eight_zeros, goes_of, in_four, kept_of}
use Rattle.ns_types.specs.Platform.{aligned}
use Rattle.ns_types.specs.declared.event.End.TheVariants as end
use Rattle.ns_types.specs.declared.goes.Goes.{Goes}
use Rattle.ns_types.specs.declared.goes.Goes.TheVariants as goes
use Rattle.cm_base.specs.declared.regions.TheConstants.{SECURE_DATA}
use Rattle.cm_base.specs.declared.stop.Stop.{Stop}
use Rattle.cm_base.specs.declared.stop.Stop.TheVariants.{DataStack}
use Rattle.ns_types.specs.declared.event.End.{End}
use Rattle.ns_types.specs.CRun.{World, Outcome, Gave, Over, counted, emit, emit_plain, mark_at, reach, stop_or, stop_with, take_turn, then_go, turned}
use Rattle.ns_types.specs.Turns.{Turn}
use Rattle.ns_types.specs.declared.event.CEvent.TheVariants as c
use Rattle.c_types.specs.declared.arith.Arith.{Arith}
use Rattle.c_types.specs.declared.ctype.Shape.TheOpen as shape
use Rattle.c_types.specs.Kind.{Look, look, is_void, arithmetic}
use Rattle.c_tree.specs.declared.expr.Expr.{Expr}
use Rattle.c_tree.specs.declared.expr.ExprKind.TheFolds.{the_lemmas}
use Rattle.c_tree.specs.declared.program.TFunction.{TFunction}
use Rattle.c_mean.specs.declared.flow.Flow.{Flow}
use Rattle.c_mean.specs.Parts.{Has, Out, after_switch, called, chosen, closing, in_order, then_with}
use Rattle.c_mean.specs.Values.{converted_as}
use Rattle.c_mean.specs.Exprs.{Around, sense}
use Rattle.c_mean.specs.Homes.{block_bytes}
use Rattle.c_mean.specs.Calls.{activation, begun, entry_functions, first_values, inside, need, on_function, result, result_as, runs}
use Rattle.c_mean.specs.Stmts.{Arm, arm, arms_from, skipped}
use Rattle.c_tree.specs.declared.stmt.Part.{Part as SwitchPart}
use Rattle.c_tree.specs.declared.stmt.Part.TheOpen as stmt
use Rattle.c_world.specs.declared.live.Live.{Live}
use Rattle.c_world.specs.declared.halt.Halt.{Halt}
use Rattle.c_world.specs.declared.halt.Halt.TheVariants as halts
use Rattle.c_world.specs.Seen.{Gives, IsOver, IsStop, Leaves, Stops, Turned, seen}
use Rattle.c_world.specs.declared.plan.At.{At as Place}
use Rattle.c_world.specs.declared.plan.Gives.TheVariants as gives
use Rattle.c_world.specs.declared.plan.Plan.{Plan}
use Rattle.c_world.specs.Here.{here, call_at, entering}
use Rattle.c_world.specs.Plans.{finished, gives_by, gives_of, narrowed_or, plan_of}
use Rattle.c_world.specs.Changes.{cleared_in}
use Rattle.c_world.specs.Setups.{Setup, enters, function_at}
use Rattle.c_eval.specs.Steps.{Chained, activated, arrived, begins_at, block_end, called_at, called_out_at, chain_at, crossing, entry_at, parts_at, phase_at, runs_at, stmt_at, value_at}

pub chosen_on : {A : Type 0} (x : ℕ) (on off : A) → x ≢ 0 → chosen x on off ≡ on
chosen_on zero on off h = absurd (h refl)
chosen_on (suc n) on off h = refl

pub sense_ctype : (e : Expr) → (sense e).ctype ≡ e.ctype
sense_ctype e = search (rules, the_lemmas)

pub here_turns : (s : Setup) (plan : Plan) (at : Place) → (here s plan at).turns ≡ s.turns
unfolding here
here_turns s plan at = refl

pub here_call : (s : Setup) (plan : Plan) (at : Place) (n : ℕ) (args : List ℕ) (w : World) → (here s plan at).call n args w ≡ call_at s at.deep false at.load at.top (slice_get s.program.functions n) args w
unfolding here
here_call s plan at n args w = refl

-- ---- what `return` makes of a value

void_is : (v : Bool) (a : Option Arith) (x : ℕ) → finished (cond v gives.Nothing (narrowed_or a)) x ≡ cond v 0 (converted_as a x)
void_is true a x = refl
void_is false (Some a) x = refl
void_is false None x = refl

finished_by : (entry : Bool) (k : Look) (x : ℕ) → finished (cond entry (gives_by k) gives.Same) x ≡ cond entry (result_as k x) x
finished_by false k x = refl
finished_by true shape.Void x = refl
finished_by true (shape.Arith a) x = refl
finished_by true (shape.Pointer to) x = refl
finished_by true (shape.Array of len) x = refl
finished_by true (shape.Struct number name size align) x = refl
finished_by true (shape.Function t params nonsecure) x = void_is (is_void t) (arithmetic t) x

pub finished_is : (f : TFunction) (x : ℕ) → finished (gives_of f) x ≡ result f x
finished_is f x = finished_by f.entry (look f.ctype) x

-- ---- activations

-- what stands around an activation, from what the evaluator keeps of it
inside_is : (s : Setup) (d : ℕ) (from_ns : Bool) (load block : ℕ) (f : TFunction)
    → here s (plan_of f) (record { deep = d; load = load; block = block; top = block + block_bytes f; from_ns = from_ns }) ≡ inside s.program (enters s) s.turns (call_at s d) from_ns load block f
unfolding here
inside_is s d from_ns load block f =
    ap (λ (r : ℕ → ℕ). record (inside s.program (enters s) s.turns (call_at s d) from_ns load block f) { returned = r }) (fun_ext (finished_is f))

-- with room for the block an activation begins, and without it the run stops
with_room : (b : Bool) (stopped : Outcome) (goes : Outcome) (block bytes top : ℕ) → cond b None (Some (block + bytes)) ≡ Some top → cond b stopped goes ≡ goes
with_room true stopped goes block bytes top is = cc
with_room false stopped goes block bytes top is = refl

top_is : (b : Bool) (n top : ℕ) → cond b None (Some n) ≡ Some top → n ≡ top
top_is true n top is = cc
top_is false n top is = cc

without_room : (b : Bool) (stopped : Outcome) (goes : Outcome) (n : ℕ) → cond b None (Some n) ≡ None → cond b stopped goes ≡ stopped
without_room true stopped goes n is = refl
without_room false stopped goes n is = cc

pub activation_begins : (s : Setup) (d : ℕ) (from_ns : Bool) (load block top : ℕ) (f : TFunction) (args : List ℕ) (w : World) → block_end block (block_bytes f) ≡ Some top
    → activated s d from_ns load block f args w ≡ begins_at s (plan_of f) (record { deep = d; load = load; block = block; top = top; from_ns = from_ns }) f args (reach load w)
unfolding activated begins_at
activation_begins s d from_ns load block top f args w is =
    with_room (ltb SECURE_DATA.to (block + block_bytes f)) _ _ block (block_bytes f) top is
    ∙ ap (λ (a : Around). closing (runs f a (first_values f args) (begun load block (block_bytes f) w))) (sym (inside_is s d from_ns load block f))
    ∙ ap (λ (t : ℕ). begins_at s (plan_of f) (record { deep = d; load = load; block = block; top = t; from_ns = from_ns }) f args (reach load w)) (top_is (ltb SECURE_DATA.to (block + block_bytes f)) (block + block_bytes f) top is)

pub activation_stops : (s : Setup) (d : ℕ) (from_ns : Bool) (load block : ℕ) (f : TFunction) (args : List ℕ) (w : World) → block_end block (block_bytes f) ≡ None
    → activated s d from_ns load block f args w ≡ stop_with DataStack (reach load w)
unfolding activated
activation_stops s d from_ns load block f args w is = without_room (ltb SECURE_DATA.to (block + block_bytes f)) _ _ (block + block_bytes f) is

-- ---- calls

pub call_spent : (s : Setup) (deep : ℕ) (from_ns : Bool) (load top : ℕ) (f : Option TFunction) (args : List ℕ) (w : World) → deep ≡ 0 → call_at s deep from_ns load top f args w ≡ Over end.Spent w
unfolding call_at
call_spent s zero from_ns load top f args w none = refl
call_spent s (suc d) from_ns load top f args w none = absurd (omega (arith, none))

pub call_of_none : (s : Setup) (deep : ℕ) (from_ns : Bool) (load top : ℕ) (o : Option TFunction) (args : List ℕ) (w : World) → 0 < deep → o ≡ None
    → call_at s deep from_ns load top o args w ≡ Over end.Stopped w
unfolding call_at
call_of_none s zero from_ns load top o args w some none = absurd (omega (arith, some))
call_of_none s (suc d) from_ns load top o args w some none = ap (λ (q : Option TFunction). on_function q w (λ g. activation s.program (enters s) s.turns (call_at s d) from_ns (load + need g) top g args w)) none

pub call_enters : (s : Setup) (deep : ℕ) (from_ns : Bool) (load top : ℕ) (f : TFunction) (args : List ℕ) (w : World) → 0 < deep
    → call_at s deep from_ns load top (Some f) args w ≡ activated s (deep - 1) from_ns (load + need f) top f args w
unfolding call_at activated
call_enters s zero from_ns load top f args w some = absurd (omega arith)
call_enters s (suc d) from_ns load top f args w some =
    let e : d ≡ suc d - 1 = omega arith in
    ap (λ (k : ℕ). activation s.program (enters s) s.turns (call_at s k) from_ns (load + need f) top f args w) e

-- ---- calls in expressions

pub leaves_called : (r : Result ℕ Halt) (l : List ℕ) (w : World) (o : Outcome) → Gives r w o → Leaves r l w (called o l)
leaves_called (Ok x) l w o is = ap (λ (q : Outcome). called q l) is
leaves_called (Err halts.NoMemory) l w o is = tt
leaves_called (Err (halts.Over e)) l w o is = ap (λ (q : Outcome). called q l) is

-- ---- the boundary

-- a chain that enters no entry
pub chain_returns : (s : Setup) (at : Place) (next : World → Outcome) (exit : ℕ) (kept : List ℕ) (n : ℕ) (args : List ℕ) (w : World) → chain_at s at next exit kept n goes.Return args w ≡ arrived next goes.Return (slice_index args 0) w
unfolding chain_at
chain_returns s at next exit kept zero args w = refl
chain_returns s at next exit kept (suc n) args w = refl

pub chain_turns : (s : Setup) (at : Place) (next : World → Outcome) (exit : ℕ) (kept : List ℕ) (n : ℕ) (args : List ℕ) (w : World) → chain_at s at next exit kept n goes.Turn args w ≡ arrived next goes.Turn (slice_index args 0) w
unfolding chain_at
chain_turns s at next exit kept zero args w = refl
chain_turns s at next exit kept (suc n) args w = refl

pub chain_at_secure : (s : Setup) (at : Place) (next : World → Outcome) (exit : ℕ) (kept : List ℕ) (n : ℕ) (args : List ℕ) (w : World) → chain_at s at next exit kept n goes.EntryPoint args w ≡ arrived next goes.EntryPoint (slice_index args 0) w
unfolding chain_at
chain_at_secure s at next exit kept zero args w = refl
chain_at_secure s at next exit kept (suc n) args w = refl

pub chain_astray : (s : Setup) (at : Place) (next : World → Outcome) (exit : ℕ) (kept : List ℕ) (n : ℕ) (args : List ℕ) (w : World) → chain_at s at next exit kept n goes.Astray args w ≡ arrived next goes.Astray (slice_index args 0) w
unfolding chain_at
chain_astray s at next exit kept zero args w = refl
chain_astray s at next exit kept (suc n) args w = refl

-- a chain that may enter no more entries
pub chain_spent : (s : Setup) (at : Place) (next : World → Outcome) (exit : ℕ) (kept : List ℕ) (e : ℕ) (args : List ℕ) (w : World) → chain_at s at next exit kept 0 (goes.Enter e) args w ≡ Over end.Spent w
unfolding chain_at
chain_spent s at next exit kept e args w = refl

within_bound : (b : Bool) (o p : Outcome) → b ≡ false → cond b o p ≡ p
within_bound true o p is = cc
within_bound false o p is = refl

entered_bound : (b : Bool) (o p : Outcome) → b ≡ true → cond b o p ≡ o
entered_bound true o p is = refl
entered_bound false o p is = cc

pub chain_full : (s : Setup) (at : Place) (next : World → Outcome) (exit : ℕ) (kept : List ℕ) (n e : ℕ) (args : List ℕ) (w : World) → s.turns ≤ w.entries → chain_at s at next exit kept n (goes.Enter e) args w ≡ Over end.Spent w
unfolding chain_at
chain_full s at next exit kept zero e args w full = refl
chain_full s at next exit kept (suc n) e args w full = within_bound (ltb w.entries s.turns) _ _ (le-ltb w.entries s.turns full)

-- an entry of a chain
pub chain_enters : (s : Setup) (at : Place) (next : World → Outcome) (exit : ℕ) (kept : List ℕ) (n e : ℕ) (args : List ℕ) (w : World) → w.entries < s.turns
    → chain_at s at next exit kept (suc n) (goes.Enter e) args w ≡ entry_at s at (λ r u. chain_at s at next exit kept n (goes_of (enters s) exit) (in_four (r ∷ [])) u) e args exit kept w
unfolding chain_at entry_at
chain_enters s at next exit kept n e args w less = entered_bound (ltb w.entries s.turns) _ _ (lt-ltb w.entries s.turns less)

over_is : (e : End) (u v : World) → e ≡ end.Stopped → u ≡ v → Over e u ≡ Over end.Stopped v
over_is e u v a b = cc

-- ---- whole moves

pub call_out_is : (s : Setup) (plan : Plan) (at : Place) (target : ℕ) (args : List ℕ) (w : World)
    → (here s plan at).ns_call target args w ≡ phase_at s at (length (emit (c.Called target args) (mark_at target eight_zeros w) w).turns) (emit (c.Called target args) (mark_at target eight_zeros w) w)
unfolding here phase_at entering
call_out_is s plan at target args w = refl

turn_none : (none : Outcome) (go : Turn → List Turn → Outcome) (ts : List Turn) → ts ≡ [] → take_turn none go ts ≡ none
turn_none none go ts e = ap (take_turn none go) e

turn_some : (none : Outcome) (go : Turn → List Turn → Outcome) (ts : List Turn) (t : Turn) (rest : List Turn) → ts ≡ t ∷ rest → take_turn none go ts ≡ go t rest
turn_some none go ts t rest e = ap (take_turn none go) e

pub phase_waits : (s : Setup) (at : Place) (fuel : ℕ) (w : World) → w.turns ≡ [] → phase_at s at fuel w ≡ Over end.Waiting w
unfolding phase_at
phase_waits s at zero w none = turn_none (Over end.Waiting w) _ w.turns none
phase_waits s at (suc fuel) w none = turn_none (Over end.Waiting w) _ w.turns none

pub phase_spent : (s : Setup) (at : Place) (w : World) (t : Turn) (rest : List Turn) → w.turns ≡ t ∷ rest → phase_at s at 0 w ≡ Over end.Spent w
unfolding phase_at
phase_spent s at w t rest some = turn_some (Over end.Waiting w) (λ x xs. Over end.Spent w) w.turns t rest some

pub phase_crosses : (s : Setup) (at : Place) (fuel : ℕ) (w : World) (t : Turn) (rest : List Turn) → w.turns ≡ t ∷ rest
    → phase_at s at (suc fuel) w ≡ crossing s at (phase_at s at fuel) t rest (s.turns * suc fuel) w
unfolding phase_at crossing chain_at
phase_crosses s at fuel w t rest some = turn_some (Over end.Waiting w) _ w.turns t rest some

-- ---- what the evaluator's steps give

pub enter_activates : (s : Setup) (deep : ℕ) (from_ns : Bool) (load top : ℕ) (o : Option TFunction) (f : TFunction) (plan : Plan) (args : List ℕ) (w v : World) (r : Result ℕ Halt)
    → 0 < deep → o ≡ Some f → plan ≡ plan_of f → Gives r v (activated s (deep - 1) from_ns (load + plan.need) top f args w) → Gives r v (call_at s deep from_ns load top o args w)
enter_activates s deep from_ns load top o f plan args w v r some is planned gives =
    subst (λ (q : Option TFunction). Gives r v (call_at s deep from_ns load top q args w)) (sym is)
    (subst (λ (q : Outcome). Gives r v q) (sym (call_enters s deep from_ns load top f args w some))
    (subst (λ (q : Plan). Gives r v (activated s (deep - 1) from_ns (load + q.need) top f args w)) planned gives))

pub activate_begins : (s : Setup) (d : ℕ) (from_ns : Bool) (load sum block top : ℕ) (plan : Plan) (f : TFunction) (args : List ℕ) (w u v : World) (r : Result ℕ Halt)
    → plan ≡ plan_of f → load ≡ sum → block_end block plan.bytes ≡ Some top → u ≡ reach sum w
    → Gives r v (begins_at s plan (record { deep = d; load = load; block = block; top = top; from_ns = from_ns }) f args u)
    → Gives r v (activated s d from_ns sum block f args w)
activate_begins s d from_ns load sum block top plan f args w u v r planned summed room reached gives =
    let here_room : block_end block (block_bytes f) ≡ Some top = ap (λ (q : Plan). block_end block q.bytes) (sym planned) ∙ room in
    subst (λ (q : Outcome). Gives r v q) (sym (activation_begins s d from_ns sum block top f args w here_room))
    (subst (λ (q : World). Gives r v (begins_at s (plan_of f) (record { deep = d; load = sum; block = block; top = top; from_ns = from_ns }) f args q)) reached
    (subst (λ (n : ℕ). Gives r v (begins_at s (plan_of f) (record { deep = d; load = n; block = block; top = top; from_ns = from_ns }) f args u)) summed
    (subst (λ (q : Plan). Gives r v (begins_at s q (record { deep = d; load = load; block = block; top = top; from_ns = from_ns }) f args u)) planned gives)))

stops_over : (h : Halt) (why : Stop) (u v : World) → IsStop h why u v → IsOver h v (stop_with why u)
stops_over halts.NoMemory why u v is = tt
stops_over (halts.Over e) why u v is = sym (over_is e v (emit_plain (c.Stopped why) u) is.0 is.1)

pub activate_stops : (s : Setup) (d : ℕ) (from_ns : Bool) (load block : ℕ) (plan : Plan) (f : TFunction) (args : List ℕ) (w u v : World) (h : Halt)
    → plan ≡ plan_of f → block_end block plan.bytes ≡ None → u ≡ reach load w → IsStop h DataStack u v
    → IsOver h v (activated s d from_ns load block f args w)
activate_stops s d from_ns load block plan f args w u v h planned room reached stops =
    let here_room : block_end block (block_bytes f) ≡ None = ap (λ (q : Plan). block_end block q.bytes) (sym planned) ∙ room in
    subst (λ (q : Outcome). IsOver h v q) (sym (activation_stops s d from_ns load block f args w here_room))
    (subst (λ (q : World). IsOver h v (stop_with DataStack q)) reached (stops_over h DataStack u v stops))

pub calls_value : (s : Setup) (plan : Plan) (at : Place) (n : ℕ) (args : List ℕ) (w v : World) (r : Result ℕ Halt)
    → Gives r v (call_at s at.deep false at.load at.top (slice_get s.program.functions n) args w) → (l : List ℕ) → Leaves r l v (called_at s plan at n args l w)
calls_value s plan at n args w v r gives l =
    subst (λ (q : Outcome). Leaves r l v (called q l)) (sym (here_call s plan at n args w)) (leaves_called r l v _ gives)

pub calls_out : (s : Setup) (plan : Plan) (at : Place) (target fuel : ℕ) (args : List ℕ) (w u v : World) (r : Result ℕ Halt)
    → u ≡ emit (c.Called target args) (mark_at target eight_zeros w) w → fuel ≡ length u.turns
    → Gives r v (phase_at s at fuel u) → (l : List ℕ) → Leaves r l v (called_out_at s plan at target args l w)
calls_out s plan at target fuel args w u v r is many gives l =
    subst (λ (q : Outcome). Leaves r l v (called q l)) (sym (call_out_is s plan at target args w))
    (leaves_called r l v _
    (subst (λ (q : World). Gives r v (phase_at s at (length q.turns) q)) is (subst (λ (q : ℕ). Gives r v (phase_at s at q u)) many gives)))

pub phase_on : (s : Setup) (at : Place) (fuel n : ℕ) (w : World) (t : Turn) (rest : List Turn) (o : Outcome)
    → 0 < fuel → w.turns ≡ t ∷ rest → n ≡ s.turns * fuel → crossing s at (phase_at s at (fuel - 1)) t rest n w ≡ o → phase_at s at fuel w ≡ o
phase_on s at zero n w t rest o some turns many is = absurd (omega arith)
phase_on s at (suc fuel) n w t rest o some turns many is =
    let e : suc fuel - 1 ≡ fuel = omega arith in
    phase_crosses s at fuel w t rest turns
    ∙ ap (λ (k : ℕ). crossing s at (phase_at s at fuel) t rest k w) (sym many)
    ∙ ap (λ (k : ℕ). crossing s at (phase_at s at k) t rest n w) (sym e)
    ∙ is

pub chain_on : (s : Setup) (at : Place) (next : World → Outcome) (exit : ℕ) (kept : List ℕ) (n e : ℕ) (args : List ℕ) (w : World) (o : Outcome)
    → 0 < n → w.entries < s.turns
    → entry_at s at (λ r u. chain_at s at next exit kept (n - 1) (goes_of (enters s) exit) (in_four (r ∷ [])) u) e args exit kept w ≡ o
    → chain_at s at next exit kept n (goes.Enter e) args w ≡ o
chain_on s at next exit kept zero e args w o some bound is = absurd (omega arith)
chain_on s at next exit kept (suc n) e args w o some bound is =
    let k : suc n - 1 ≡ n = omega arith in
    chain_enters s at next exit kept n e args w bound
    ∙ ap (λ (m : ℕ). entry_at s at (λ r u. chain_at s at next exit kept m (goes_of (enters s) exit) (in_four (r ∷ [])) u) e args exit kept w) (sym k)
    ∙ is

pub begins : (s : Setup) (plan : Plan) (at : Place) (f : TFunction) (args locals : List ℕ) (w u v : World) (r : Result ℕ Halt)
    → locals ≡ first_values f args → u ≡ cleared_in at.block plan.bytes w → Gives r v (runs_at s plan at f locals u) → Gives r v (begins_at s plan at f args w)
unfolding begins_at
begins s plan at f args locals w u v r first clear gives =
    subst (λ (q : World). Gives r v (runs_at s plan at f (first_values f args) q)) clear (subst (λ (q : List ℕ). Gives r v (runs_at s plan at f q u)) first gives)

pub entry_gives : (s : Setup) (at : Place) (go : ℕ → World → Outcome) (e : ℕ) (n : Option ℕ) (args : List ℕ) (exit : ℕ) (kept : List ℕ) (w u v z : World) (r : ℕ)
    → u ≡ counted w → function_at s n ≡ slice_get (entry_functions s.program) e → call_at s at.deep true at.load at.top (function_at s n) args u ≡ Gave r v
    → z ≡ emit (c.Result e r) (mark_at exit kept v) v → entry_at s at go e args exit kept w ≡ go r z
unfolding entry_at entering
entry_gives s at go e n args exit kept w u v z r count is gave emitted =
    ap (λ (q : World). then_go (call_at s at.deep true at.load at.top (slice_get (entry_functions s.program) e) args q) (λ x y. go x (emit (c.Result e x) (mark_at exit kept y) y))) (sym count)
    ∙ ap (λ (q : Option TFunction). then_go (call_at s at.deep true at.load at.top q args u) (λ x y. go x (emit (c.Result e x) (mark_at exit kept y) y))) (sym is)
    ∙ ap (λ (q : Outcome). then_go q (λ x y. go x (emit (c.Result e x) (mark_at exit kept y) y))) gave
    ∙ ap (go r) (sym emitted)

pub entry_over : (s : Setup) (at : Place) (go : ℕ → World → Outcome) (e : ℕ) (n : Option ℕ) (args : List ℕ) (exit : ℕ) (kept : List ℕ) (w u v : World) (h : Halt)
    → u ≡ counted w → function_at s n ≡ slice_get (entry_functions s.program) e → IsOver h v (call_at s at.deep true at.load at.top (function_at s n) args u)
    → IsOver h v (entry_at s at go e args exit kept w)
unfolding entry_at entering
entry_over s at go e n args exit kept w u v halts.NoMemory count is over = tt
entry_over s at go e n args exit kept w u v (halts.Over x) count is over =
    ap (λ (q : World). then_go (call_at s at.deep true at.load at.top (slice_get (entry_functions s.program) e) args q) (λ x y. go x (emit (c.Result e x) (mark_at exit kept y) y))) (sym count)
    ∙ ap (λ (q : Option TFunction). then_go (call_at s at.deep true at.load at.top q args u) (λ x y. go x (emit (c.Result e x) (mark_at exit kept y) y))) (sym is)
    ∙ ap (λ (q : Outcome). then_go q (λ x y. go x (emit (c.Result e x) (mark_at exit kept y) y))) over

none_stops : (o : Option Stop) (w : World) (rest : Outcome) → o ≡ None → stop_or o w rest ≡ rest
none_stops None w rest is = refl
none_stops (Some x) w rest is = cc

pub crossing_on : (s : Setup) (at : Place) (next : World → Outcome) (t : Turn) (rest : List Turn) (n : ℕ) (w u : World)
    → (u ≡ turned t rest (acted t.items w.memory.ns_ram).ram w) × ((acted t.items w.memory.ns_ram).stop ≡ None)
    → crossing s at next t rest n w ≡ chain_at s at next (aligned 2 t.lr) (kept_of t) n (goes_of (enters s) t.target) (take 4 t.r) u
unfolding crossing
crossing_on s at next t rest n w u is =
    none_stops (acted t.items w.memory.ns_ram).stop _ _ is.1
    ∙ ap (λ (q : World). chain_at s at next (aligned 2 t.lr) (kept_of t) n (goes_of (enters s) t.target) (take 4 t.r) q) (sym is.0)

pub crossing_stops : (s : Setup) (at : Place) (next : World → Outcome) (t : Turn) (rest : List Turn) (n : ℕ) (w u : World) (x : End)
    → ((o : Outcome) → stop_or (acted t.items w.memory.ns_ram).stop (turned t rest (acted t.items w.memory.ns_ram).ram w) o ≡ Over x u)
    → crossing s at next t rest n w ≡ Over x u
unfolding crossing
crossing_stops s at next t rest n w u x is = is _

crossing_over : (s : Setup) (at : Place) (next : World → Outcome) (t : Turn) (rest : List Turn) (n : ℕ) (w u : World) (h : Halt) → Turned {A = Unit {0}} (Err h) t rest w u
    → IsOver h u (crossing s at next t rest n w)
crossing_over s at next t rest n w u halts.NoMemory is = tt
crossing_over s at next t rest n w u (halts.Over x) is = crossing_stops s at next t rest n w u x is

pub crossing_halts : (s : Setup) (at : Place) (next : World → Outcome) (t : Turn) (rest : List Turn) (n : ℕ) (w u : World) (h : Halt) → Turned {A = Unit {0}} (Err h) t rest w u
    → IsOver h u (crossing s at next t rest n w)
crossing_halts s at next t rest n w u h is = crossing_over s at next t rest n w u h is

pub crossing_goes : (s : Setup) (at : Place) (next : World → Outcome) (t : Turn) (rest : List Turn) (exit : ℕ) (kept : List ℕ) (n : ℕ) (g : Goes) (args : List ℕ) (w u v : World) (r : Result (Option ℕ) Halt)
    → (u ≡ turned t rest (acted t.items w.memory.ns_ram).ram w) × ((acted t.items w.memory.ns_ram).stop ≡ None)
    → exit ≡ aligned 2 t.lr → kept ≡ kept_of t → g ≡ goes_of (enters s) t.target → args ≡ take 4 t.r
    → Chained r next v (chain_at s at next exit kept n g args u) → Chained r next v (crossing s at next t rest n w)
crossing_goes s at next t rest exit kept n g args w u v r is exits keeps goes four chained =
    subst (λ (q : Outcome). Chained r next v q) (sym (crossing_on s at next t rest n w u is))
    (subst (λ (q : ℕ). Chained r next v (chain_at s at next q (kept_of t) n (goes_of (enters s) t.target) (take 4 t.r) u)) exits
    (subst (λ (q : List ℕ). Chained r next v (chain_at s at next exit q n (goes_of (enters s) t.target) (take 4 t.r) u)) keeps
    (subst (λ (q : Goes). Chained r next v (chain_at s at next exit kept n q (take 4 t.r) u)) goes
    (subst (λ (q : List ℕ). Chained r next v (chain_at s at next exit kept n g q u)) four chained))))

-- ---- turns of a chain

pub seen_entries : (script : List Turn) (x : Live) → (seen script x).entries ≡ x.entries
unfolding seen
seen_entries script x = refl

-- a chain that stands before an entry
before_entry : (s : Setup) (at : Place) (next : World → Outcome) (exit : ℕ) (kept : List ℕ) (n e : ℕ) (g : Goes) (args : List ℕ) (w : World) (o : Outcome)
    → g ≡ goes.Enter e → o ≡ chain_at s at next exit kept n g args w → o ≡ chain_at s at next exit kept n (goes.Enter e) args w
before_entry s at next exit kept n e g args w o is so_far = so_far ∙ ap (λ (q : Goes). chain_at s at next exit kept n q args w) is

pub chain_stops : (s : Setup) (at : Place) (next : World → Outcome) (exit : ℕ) (kept : List ℕ) (n e : ℕ) (g : Goes) (args : List ℕ) (w : World) (o : Outcome)
    → g ≡ goes.Enter e → n ≡ 0 → o ≡ chain_at s at next exit kept n g args w → o ≡ Over end.Spent w
chain_stops s at next exit kept n e g args w o is none so_far =
    before_entry s at next exit kept n e g args w o is so_far
    ∙ ap (λ (k : ℕ). chain_at s at next exit kept k (goes.Enter e) args w) none
    ∙ chain_spent s at next exit kept e args w

pub chain_fills : (s : Setup) (at : Place) (next : World → Outcome) (exit : ℕ) (kept : List ℕ) (n e : ℕ) (g : Goes) (args : List ℕ) (w : World) (o : Outcome)
    → g ≡ goes.Enter e → s.turns ≤ w.entries → o ≡ chain_at s at next exit kept n g args w → o ≡ Over end.Spent w
chain_fills s at next exit kept n e g args w o is full so_far =
    before_entry s at next exit kept n e g args w o is so_far ∙ chain_full s at next exit kept n e args w full

over_by : (h : Halt) (v : World) (o p : Outcome) → o ≡ p → IsOver h v p → IsOver h v o
over_by h v o p same over = subst (λ (q : Outcome). IsOver h v q) (sym same) over

pub chain_over : (s : Setup) (at : Place) (next : World → Outcome) (exit : ℕ) (kept : List ℕ) (n e : ℕ) (g : Goes) (args : List ℕ) (w v : World) (h : Halt) (o : Outcome)
    → g ≡ goes.Enter e → 0 < n → w.entries < s.turns → ((go : ℕ → World → Outcome) → IsOver h v (entry_at s at go e args exit kept w))
    → o ≡ chain_at s at next exit kept n g args w → IsOver h v o
chain_over s at next exit kept n e g args w v h o is some bound over so_far =
    over_by h v o _
    (before_entry s at next exit kept n e g args w o is so_far ∙ chain_on s at next exit kept n e args w _ some bound refl)
    (over (λ r u. chain_at s at next exit kept (n - 1) (goes_of (enters s) exit) (in_four (r ∷ [])) u))

pub chain_steps : (s : Setup) (at : Place) (next : World → Outcome) (exit : ℕ) (kept : List ℕ) (n e r : ℕ) (g to : Goes) (args : List ℕ) (w v : World) (o : Outcome)
    → g ≡ goes.Enter e → 0 < n → w.entries < s.turns → ((go : ℕ → World → Outcome) → entry_at s at go e args exit kept w ≡ go r v)
    → to ≡ goes_of (enters s) exit → o ≡ chain_at s at next exit kept n g args w → o ≡ chain_at s at next exit kept (n - 1) to (r ∷ 0 ∷ 0 ∷ 0 ∷ []) v
chain_steps s at next exit kept n e r g to args w v o is some bound gives goes so_far =
    before_entry s at next exit kept n e g args w o is so_far
    ∙ chain_on s at next exit kept n e args w _ some bound refl
    ∙ gives (λ x u. chain_at s at next exit kept (n - 1) (goes_of (enters s) exit) (in_four (x ∷ [])) u)
    ∙ ap (λ (q : Goes). chain_at s at next exit kept (n - 1) q (r ∷ 0 ∷ 0 ∷ 0 ∷ []) v) (sym goes)

arrives_at : (s : Setup) (at : Place) (next : World → Outcome) (exit : ℕ) (kept : List ℕ) (n : ℕ) (g : Goes) (args : List ℕ) (w : World)
    → ((x : ℕ) → g ≡ goes.Enter x → ⊥) → chain_at s at next exit kept n g args w ≡ arrived next g (slice_index args 0) w
arrives_at s at next exit kept n (goes.Enter e) args w none = absurd (none e refl)
arrives_at s at next exit kept n goes.Return args w none = chain_returns s at next exit kept n args w
arrives_at s at next exit kept n goes.Turn args w none = chain_turns s at next exit kept n args w
arrives_at s at next exit kept n goes.EntryPoint args w none = chain_at_secure s at next exit kept n args w
arrives_at s at next exit kept n goes.Astray args w none = chain_astray s at next exit kept n args w

pub chain_arrives : (s : Setup) (at : Place) (next : World → Outcome) (exit : ℕ) (kept : List ℕ) (n : ℕ) (g : Goes) (args : List ℕ) (w v : World) (r : Result (Option ℕ) Halt) (o : Outcome)
    → ((x : ℕ) → g ≡ goes.Enter x → ⊥) → o ≡ chain_at s at next exit kept n g args w → Chained r next v (arrived next g (slice_index args 0) w) → Chained r next v o
chain_arrives s at next exit kept n g args w v r o none so_far chained =
    subst (λ (q : Outcome). Chained r next v q) (sym (so_far ∙ arrives_at s at next exit kept n g args w none)) chained

-- ---- turns of a phase

pub phase_over : (s : Setup) (at : Place) (fuel n : ℕ) (w v : World) (t : Turn) (rest : List Turn) (h : Halt) (o : Outcome)
    → 0 < fuel → w.turns ≡ t ∷ rest → n ≡ s.turns * fuel → ((next : World → Outcome) → IsOver h v (crossing s at next t rest n w))
    → o ≡ phase_at s at fuel w → IsOver h v o
phase_over s at fuel n w v t rest h o some turns many over so_far =
    over_by h v o _ (so_far ∙ phase_on s at fuel n w t rest _ some turns many refl) (over (phase_at s at (fuel - 1)))

pub phase_gives : (s : Setup) (at : Place) (fuel n x : ℕ) (w v : World) (t : Turn) (rest : List Turn) (crossed : Option ℕ) (o : Outcome)
    → 0 < fuel → w.turns ≡ t ∷ rest → n ≡ s.turns * fuel → crossed ≡ Some x
    → ((next : World → Outcome) → Chained (Ok crossed) next v (crossing s at next t rest n w)) → o ≡ phase_at s at fuel w → o ≡ Gave x v
phase_gives s at fuel n x w v t rest crossed o some turns many is chained so_far =
    so_far ∙ phase_on s at fuel n w t rest _ some turns many
    (subst (λ (q : Option ℕ). Chained (Ok q) (phase_at s at (fuel - 1)) v (crossing s at (phase_at s at (fuel - 1)) t rest n w)) is (chained (phase_at s at (fuel - 1))))

pub phase_goes : (s : Setup) (at : Place) (fuel n : ℕ) (w v : World) (t : Turn) (rest : List Turn) (crossed : Option ℕ) (o : Outcome)
    → 0 < fuel → w.turns ≡ t ∷ rest → n ≡ s.turns * fuel → crossed ≡ None
    → ((next : World → Outcome) → Chained (Ok crossed) next v (crossing s at next t rest n w)) → o ≡ phase_at s at fuel w → o ≡ phase_at s at (fuel - 1) v
phase_goes s at fuel n w v t rest crossed o some turns many is chained so_far =
    so_far ∙ phase_on s at fuel n w t rest _ some turns many
    (subst (λ (q : Option ℕ). Chained (Ok q) (phase_at s at (fuel - 1)) v (crossing s at (phase_at s at (fuel - 1)) t rest n w)) is (chained (phase_at s at (fuel - 1))))

-- ---- functions by their numbers

pub plan_is : (o : Option TFunction) (f : TFunction) (plan : Plan) → Some f ≡ o → Some plan ≡ option_map plan_of o → plan ≡ plan_of f
plan_is o f plan there planned =
    let is : Some plan ≡ Some (plan_of f) = planned ∙ ap (λ (q : Option TFunction). option_map plan_of q) (sym there) in cc

-- ---- switches

at_most : (b : Bool) (k d many : ℕ) → k ≤ many → d ≤ many → unwrap_or (cond b (Some k) None) d ≤ many
at_most true k d many low lower = low
at_most false k d many low lower = lower

skip_at_most : (x : ℕ) (arms : List Arm) → skipped x arms ≤ length arms
skip_at_most x arms =
    at_most (nat_lt (position_or_len (λ (a : Arm). a.is_case x) arms) (length arms)) _ _ (length arms) (prefix_len-le-length (λ (a : Arm). not (a.is_case x)) arms) (prefix_len-le-length (λ (a : Arm). not a.is_default) arms)

pub skipped_within : (x k : ℕ) (parts : List SwitchPart) → k ≡ skipped x (map arm parts) → k ≤ length parts
skipped_within x k parts is =
    let low : skipped x (map arm parts) ≤ length (map arm parts) = skip_at_most x (map arm parts) in
    let same : length (map arm parts) ≡ length parts = length-map parts arm in
    omega (arith, low, same, is)

whole : (k : ℕ) (parts : List SwitchPart) → take (length parts - k) (drop k parts) ≡ drop k parts
whole k parts = grind (arith, common_steps)

pub entered_are : (x k : ℕ) (parts : List SwitchPart) → k ≡ skipped x (map arm parts) → map arm (take (length parts - k) (drop k parts)) ≡ drop (skipped x (map arm parts)) (map arm parts)
entered_are x k parts is = ap (λ (ps : List SwitchPart). map arm ps) (whole k parts) ∙ sym (drop-map arm k parts) ∙ ap (λ (n : ℕ). drop n (map arm parts)) is

-- a switch does its parts from the one on where control enters
switch_does : (s : Setup) (plan : Plan) (at : Place) (v : Expr) (parts entered : List SwitchPart) (x : ℕ) (l m : List ℕ) (w u : World) → value_at s plan at v l w ≡ Has x m u
    → map arm entered ≡ drop (skipped x (map arm parts)) (map arm parts) → stmt_at s plan at (stmt.Switch v (map arm parts)) l w ≡ then_with (parts_at s plan at entered m u) after_switch
switch_does s plan at v parts entered x l m w u valued from =
    ap (λ (o : Out ℕ). then_with o (λ y. arms_from (skipped y (map arm parts)) (map arm parts) (here s plan at))) valued
    ∙ ap (λ (arms : List Arm). then_with (in_order (map (λ (a : Arm). a.does (here s plan at)) arms) m u) after_switch) (sym from)

pub switch_goes : (s : Setup) (plan : Plan) (at : Place) (v : Expr) (parts entered : List SwitchPart) (x : ℕ) (l m n : List ℕ) (w u q : World) (flow done : Flow) → value_at s plan at v l w ≡ Has x m u
    → map arm entered ≡ drop (skipped x (map arm parts)) (map arm parts) → parts_at s plan at entered m u ≡ Has flow n q → after_switch flow n q ≡ Has done n q
    → stmt_at s plan at (stmt.Switch v (map arm parts)) l w ≡ Has done n q
switch_goes s plan at v parts entered x l m n w u q flow done valued from did ends =
    switch_does s plan at v parts entered x l m w u valued from ∙ ap (λ (o : Out Flow). then_with o after_switch) did ∙ ends

stops_too : (h : Halt) (q : World) (o : Out Flow) → Stops h q o → Stops h q (then_with o after_switch)
stops_too halts.NoMemory q o stops = tt
stops_too (halts.Over e) q o stops = ap (λ (p : Out Flow). then_with p after_switch) stops

pub switch_halts : (s : Setup) (plan : Plan) (at : Place) (v : Expr) (parts entered : List SwitchPart) (x : ℕ) (l m : List ℕ) (w u q : World) (h : Halt) → value_at s plan at v l w ≡ Has x m u
    → map arm entered ≡ drop (skipped x (map arm parts)) (map arm parts) → Stops h q (parts_at s plan at entered m u) → Stops h q (stmt_at s plan at (stmt.Switch v (map arm parts)) l w)
switch_halts s plan at v parts entered x l m w u q h valued from stops =
    subst (λ (o : Out Flow). Stops h q o) (sym (switch_does s plan at v parts entered x l m w u valued from)) (stops_too h q (parts_at s plan at entered m u) stops)

pub ruleset steps = (chosen_on, sense_ctype)
