-- Non-secure RAM at each hand-over is what the start, the turns and the events before make of it.
use Rattle.std.proofs.Common.{◌≡◌, ℕ, zero, suc, ◌+◌, ◌-◌, Bool, true, false, cond, map, List, [], ◌∷◌, ◌++◌, refl, sym, ap, ◌∙◌, subst, arith, Option, Some, None}
use Rattle.std.specs.Prelude.{not, eqb, ◌&&◌}
use Rattle.std.proofs.lemmas.Bool.Decides.{nat_tests}
use Rattle.cm_base.specs.declared.stop.Stop.{Stop}
use Rattle.cm_base.specs.declared.stop.Stop.TheVariants as stop
use Rattle.ns_types.specs.declared.goes.Goes.{Goes}
use Rattle.ns_types.specs.declared.goes.Goes.TheVariants as goes
use Rattle.ns_types.specs.declared.event.Event.{Event}
use Rattle.ns_types.specs.declared.event.Event.TheVariants as event
use Rattle.ns_types.specs.declared.event.End.TheVariants as end
use Rattle.ns_types.specs.declared.event.Events.{Events}
use Rattle.ns_types.specs.declared.state.Side.{Side}
use Rattle.ns_types.specs.declared.state.Side.TheVariants.{Secure, NonSecure, Stopped}
use Rattle.ns_types.specs.declared.turn.Item.{Item}
use Rattle.ns_types.specs.Turns.{Turn}
use Rattle.ns_types.specs.declared.turn.Start.{Start}
use Rattle.ns_types.specs.State.{Device, State}
use Rattle.ns_types.specs.Platform.{row, lies_in, aligned}
use Rattle.ns_types.specs.Memory.{put_number, load}
use Rattle.ns_types.specs.Boundary.{Acted, acted, acted_or, item_stop, with_item}
use Rattle.ns_types.specs.Ram.{is_turn, crosses, with_items, Moved, moved_past, ram_at, AreSecure}
use Rattle.ns_types.proofs.Crossings.{ram_same}
use Rattle.v8m_core.specs.declared.stepped.Stepped.{Stepped}
use Rattle.v8m_core.specs.declared.stepped.Stepped.TheVariants as what
use Rattle.ns_types.specs.Gateway.{fetched, is_gateway, gateway_at}
use Rattle.v8m_core.specs.Step.{Done, went, stopped, or_stopped, goes_in, handed, entered, returned, return_stop, return_to, arrived, with_turn, step_of, turn_of}
use Rattle.v8m_core.specs.Reset.{reset_of}
use Rattle.v8m_core.proofs.Runs.{stays}
use Rattle.ns_turns.specs.Run.{event_of, ends, after, next_of, run_of, machine_run}
use Rattle.ns_turns.specs.Moments.{Moment, moments_of, moments, events_in, given_ram, KnowsRam}
use Rattle.ns_turns.specs.Tells.{is_write, Tells, AllTell}
use Rattle.ns_turns.proofs.RunLaws.{run_step, run_turn, run_waits, run_is_over}
use Rattle.ns_turns.proofs.Tell.{Leads, told}

-- How both go on, by who runs

pub moments_step : (device : Device) (n : ℕ) (ts : List Turn) (s : State) → s.cpu.side ≡ Secure → moments device (suc n) ts s ≡ moments_of (step_of device s) ++ moments device n ts (step_of device s).state
unfolding moments
moments_step device n ts s side =
    ap (λ x. next_of (λ e. []) (λ t rest. moments_of (turn_of device t s) ++ moments device n rest (turn_of device t s).state) (moments_of (step_of device s) ++ moments device n ts (step_of device s).state) x ts) side

pub moments_turn : (device : Device) (n : ℕ) (t : Turn) (ts : List Turn) (s : State) → s.cpu.side ≡ NonSecure → moments device (suc n) (t ∷ ts) s ≡ moments_of (turn_of device t s) ++ moments device n ts (turn_of device t s).state
unfolding moments
moments_turn device n t ts s side =
    ap (λ x. next_of (λ e. []) (λ t rest. moments_of (turn_of device t s) ++ moments device n rest (turn_of device t s).state) (moments_of (step_of device s) ++ moments device n (t ∷ ts) (step_of device s).state) x (t ∷ ts)) side

pub moments_waits : (device : Device) (n : ℕ) (s : State) → s.cpu.side ≡ NonSecure → moments device n [] s ≡ []
unfolding moments
moments_waits device zero s side = refl
moments_waits device (suc n) s side =
    ap (λ x. next_of (λ e. []) (λ t rest. moments_of (turn_of device t s) ++ moments device n rest (turn_of device t s).state) (moments_of (step_of device s) ++ moments device n [] (step_of device s).state) x []) side

pub moments_stopped : (device : Device) (n : ℕ) (ts : List Turn) (s : State) (x : Stop) → s.cpu.side ≡ Stopped x → moments device n ts s ≡ []
unfolding moments
moments_stopped device zero ts s x side = refl
moments_stopped device (suc n) ts s x side =
    ap (λ y. next_of (λ e. []) (λ t rest. moments_of (turn_of device t s) ++ moments device n rest (turn_of device t s).state) (moments_of (step_of device s) ++ moments device n ts (step_of device s).state) y ts) side

no_event : (device : Device) (ts : List Turn) (s : State) → (run_of device zero ts s).list ≡ []
unfolding run_of
no_event device ts s = by s.cpu.side ts
  where
    by : (x : Side) (ts : List Turn) → (next_of ends (λ t rest. ends end.Spent) (ends end.Spent) x ts).list ≡ []
    by Secure ts = refl
    by NonSecure [] = refl
    by NonSecure (t ∷ ts) = refl
    by (Stopped x) ts = refl

pub no_moment : (device : Device) (ts : List Turn) (s : State) → moments device zero ts s ≡ []
unfolding moments
no_moment device ts s = refl

pub tell_step : (device : Device) (n : ℕ) (ts : List Turn) (s : State) → s.cpu.side ≡ Secure → AllTell device (suc n) ts s → Tells device s × AllTell device n ts (step_of device s).state
unfolding AllTell
tell_step device n ts s side h =
    subst (λ x. next_of (λ e. Unit {0}) (λ t rest. AllTell device n rest (turn_of device t s).state) (Tells device s × AllTell device n ts (step_of device s).state) x ts) side h

pub tell_turn : (device : Device) (n : ℕ) (t : Turn) (ts : List Turn) (s : State) → s.cpu.side ≡ NonSecure → AllTell device (suc n) (t ∷ ts) s → AllTell device n ts (turn_of device t s).state
unfolding AllTell
tell_turn device n t ts s side h =
    subst (λ x. next_of (λ e. Unit {0}) (λ t rest. AllTell device n rest (turn_of device t s).state) (Tells device s × AllTell device n (t ∷ ts) (step_of device s).state) x (t ∷ ts)) side h

-- The events of the moments

events_of_step : (d : Done) (ms : List Moment) (es : List Event) → events_in ms ≡ es → events_in (moments_of d ++ ms) ≡ event_of d.what ++ es
events_of_step d ms es e = by d.what
  where
    by : (w : Stepped) → events_in (map (λ e. record { event = e; state = d.state }) (event_of w) ++ ms) ≡ event_of w ++ es
    by what.Went = e
    by (what.Wrote a n v) = ap (λ l. event.Wrote a n v ∷ l) e
    by (what.Given view) = ap (λ l. event.Given view ∷ l) e
    by (what.Stopped x) = ap (λ l. event.Stopped x ∷ l) e

pub moments_events : (device : Device) (n : ℕ) (ts : List Turn) (s : State) → events_in (moments device n ts s) ≡ (run_of device n ts s).list
moments_events device zero ts s = ap events_in (no_moment device ts s) ∙ sym (no_event device ts s)
moments_events device (suc n) ts s = by (moments_events device n) s.cpu.side refl ts refl
  where
    by : ((us : List Turn) (t : State) → events_in (moments device n us t) ≡ (run_of device n us t).list) → (x : Side) → s.cpu.side ≡ x → (us : List Turn) → ts ≡ us → events_in (moments device (suc n) ts s) ≡ (run_of device (suc n) ts s).list
    by rest Secure side us e =
        ap events_in (moments_step device n ts s side)
        ∙ events_of_step (step_of device s) _ _ (rest ts (step_of device s).state)
        ∙ sym (ap (λ (x : Events). x.list) (run_step device n ts s (step_of device s) side refl))
    by rest NonSecure side [] e =
        ap (λ l. events_in (moments device (suc n) l s)) e
        ∙ ap events_in (moments_waits device (suc n) s side)
        ∙ sym (ap (λ (x : Events). x.list) (run_waits device (suc n) s side))
        ∙ sym (ap (λ l. (run_of device (suc n) l s).list) e)
    by rest NonSecure side (t ∷ us) e =
        ap (λ l. events_in (moments device (suc n) l s)) e
        ∙ ap events_in (moments_turn device n t us s side)
        ∙ events_of_step (turn_of device t s) _ _ (rest us (turn_of device t s).state)
        ∙ sym (ap (λ (x : Events). x.list) (run_turn device n t us s (turn_of device t s) side refl))
        ∙ sym (ap (λ l. (run_of device (suc n) l s).list) e)
    by rest (Stopped x) side us e =
        ap events_in (moments_stopped device (suc n) ts s x side) ∙ sym (ap (λ (x : Events). x.list) (run_is_over device (suc n) ts s x side))

-- The items of a turn that isn't stopped

acted_cases : (o : Option Stop) (ram : List ℕ) (rest : Acted) → (acted_or o ram rest).stop ≡ None → (acted_or o ram rest).ram ≡ rest.ram
acted_cases None ram rest e = refl
acted_cases (Some x) ram rest e = cc

acted_more : (o : Option Stop) (ram : List ℕ) (rest : Acted) → (acted_or o ram rest).stop ≡ None → rest.stop ≡ None
acted_more None ram rest e = e
acted_more (Some x) ram rest e = cc

acted_all : (items : List Item) (ram : List ℕ) → (acted items ram).stop ≡ None → (acted items ram).ram ≡ with_items items ram
acted_all [] ram e = refl
acted_all (i ∷ items) ram e =
    let rest = acted items (with_item i ram) in
    acted_cases (item_stop i) ram rest e ∙ acted_all items (with_item i ram) (acted_more (item_stop i) ram rest e)

-- Non-secure RAM

-- the turns and the memory from which the hand-overs are counted: for Non-secure code those after its next crossing
abbrev from : Device → Side → List Turn → List ℕ → Moved
from device Secure ts ram = record { turns = ts; ram = ram }
from device NonSecure ts ram = moved_past (gateway_at device) ts ram
from device (Stopped x) ts ram = record { turns = ts; ram = ram }

module _ (device : Device) (n : ℕ) (ts : List Turn) where
  -- what the rest of a run from t gives at its k-th hand-over, counted from these turns and this memory
  abbrev Counts : State → ℕ → Moved → Type 0
  Counts t k m = given_ram (moments device n ts t) k ≡ ram_at (gateway_at device) (run_of device n ts t).list k m.turns m.ram

  counts_from : (t : State) (k : ℕ) (x : Side) → t.cpu.side ≡ x → (ram : List ℕ) → t.memory.ns_ram ≡ ram → Counts t k (from device t.cpu.side ts t.memory.ns_ram) → Counts t k (from device x ts ram)
  counts_from t k x side ram same h =
      subst (λ r. Counts t k (from device x ts r)) same (subst (λ y. Counts t k (from device y ts t.memory.ns_ram)) side h)

  -- the same where a step has led to t
  abbrev CountsAfter : Done → ℕ → Moved → Type 0
  CountsAfter d k m = given_ram (moments_of d ++ moments device n ts d.state) k ≡ ram_at (gateway_at device) (event_of d.what ++ (run_of device n ts d.state).list) k m.turns m.ram

  counts_over : (x : Stop) (t : State) (k : ℕ) (m : Moved) → CountsAfter (stopped x t) k m
  counts_over x t k m =
      ap (λ l. given_ram l k) (moments_stopped device n ts (stopped x t).state x refl)
      ∙ sym (ap (λ (l : Events). ram_at (gateway_at device) l.list k m.turns m.ram) (run_is_over device n ts (stopped x t).state x refl))

  counts_step : (s t : State) (w : Stepped) → Leads w s t → (is_write w ≡ false → t.memory.ns_ram ≡ s.memory.ns_ram) → (w ≡ what.Went → t.cpu.side ≡ Secure) → ((k : ℕ) → Counts t k (from device t.cpu.side ts t.memory.ns_ram)) → (k : ℕ) → CountsAfter (record { state = t; what = w }) k (record { turns = ts; ram = s.memory.ns_ram })
  counts_step s t what.Went leads same side h k = counts_from t k Secure (side refl) s.memory.ns_ram (same refl) (h k)
  counts_step s t (what.Wrote a size v) leads same side h k = counts_from t k Secure leads.0 (put_number size s.memory.ns_ram (a - (row 1).from) v) leads.1 (h k)
  counts_step s t (what.Given view) leads same side h zero = ap Some (same refl)
  counts_step s t (what.Given view) leads same side h (suc k) = counts_from t k NonSecure leads s.memory.ns_ram (same refl) (h k)
  counts_step s t (what.Stopped x) leads same side h k =
      ap (λ l. given_ram l k) (moments_stopped device n ts t x leads)
      ∙ sym (ap (λ (l : Events). ram_at (gateway_at device) l.list k ts s.memory.ns_ram) (run_is_over device n ts t x leads))

  -- a turn's branch, where its items have left u
  counts_branch : (t : Turn) (ram : List ℕ) (u : State) → u.memory.ns_ram ≡ with_items t.items ram → (g : Goes) → goes_in device t.target ≡ g → ((v : State) → AllTell device n ts v → (k : ℕ) → Counts v k (from device v.cpu.side ts v.memory.ns_ram)) → (k : ℕ) → AllTell device n ts (arrived device g (aligned 2 t.target) what.Went u).state → CountsAfter (arrived device g (aligned 2 t.target) what.Went u) k (moved_past (gateway_at device) (t ∷ ts) ram)
  unfolding goes_in return_to
  counts_branch t ram u same g e h k tell = by g (ap (λ x. not (is_turn x)) e) tell
    where
      next : List ℕ
      next = with_items t.items ram

      moved : Bool → Moved
      moved b = cond b (record { turns = ts; ram = next }) (moved_past (gateway_at device) ts next)

      is_moved : (b : Bool) → crosses (gateway_at device) t ≡ b → moved_past (gateway_at device) (t ∷ ts) ram ≡ moved b
      is_moved b q = ap moved q

      back : (o : Option Stop) (a : ℕ) → AllTell device n ts (or_stopped o u (went (returned a u))).state → CountsAfter (or_stopped o u (went (returned a u))) k (moved true)
      back None a tells = counts_from (returned a u) k Secure refl next same (h (returned a u) tells k)
      back (Some x) a tells = counts_over x u k (moved true)

      at_moved : (x : Goes) → AllTell device n ts (arrived device x (aligned 2 t.target) what.Went u).state → CountsAfter (arrived device x (aligned 2 t.target) what.Went u) k (moved (not (is_turn x)))
      at_moved goes.Turn tells = counts_from (handed (aligned 2 t.target) u) k NonSecure refl next same (h (handed (aligned 2 t.target) u) tells k)
      at_moved (goes.Enter a) tells = counts_from (entered a u) k Secure refl next same (h (entered a u) tells k)
      at_moved goes.Return tells = back (return_stop device u) (aligned 2 (load 4 u.cpu.regs.sp device u.memory)) tells
      at_moved goes.EntryPoint tells = counts_over stop.EntryPoint u k (moved true)
      at_moved goes.Astray tells = counts_over stop.Astray u k (moved true)

      by : (x : Goes) → crosses (gateway_at device) t ≡ not (is_turn x) → AllTell device n ts (arrived device x (aligned 2 t.target) what.Went u).state → CountsAfter (arrived device x (aligned 2 t.target) what.Went u) k (moved_past (gateway_at device) (t ∷ ts) ram)
      by x q tells = subst (λ m. CountsAfter (arrived device x (aligned 2 t.target) what.Went u) k m) (sym (is_moved (not (is_turn x)) q)) (at_moved x tells)

  -- a turn
  counts_turn : (t : Turn) (s : State) → ((v : State) → AllTell device n ts v → (k : ℕ) → Counts v k (from device v.cpu.side ts v.memory.ns_ram)) → (k : ℕ) → AllTell device n ts (turn_of device t s).state → CountsAfter (turn_of device t s) k (moved_past (gateway_at device) (t ∷ ts) s.memory.ns_ram)
  unfolding turn_of
  counts_turn t s h k tell = by (acted t.items s.memory.ns_ram).stop refl tell
    where
      u : State
      u = with_turn t (acted t.items s.memory.ns_ram).ram s

      by : (o : Option Stop) → (acted t.items s.memory.ns_ram).stop ≡ o → AllTell device n ts (or_stopped o u (arrived device (goes_in device t.target) (aligned 2 t.target) what.Went u)).state → CountsAfter (or_stopped o u (arrived device (goes_in device t.target) (aligned 2 t.target) what.Went u)) k (moved_past (gateway_at device) (t ∷ ts) s.memory.ns_ram)
      by None e tells = counts_branch t s.memory.ns_ram u (acted_all t.items s.memory.ns_ram e) (goes_in device t.target) refl h k tells
      by (Some x) e tells = counts_over x u k (moved_past (gateway_at device) (t ∷ ts) s.memory.ns_ram)

-- at most n steps from a state
counts : (device : Device) (n : ℕ) (ts : List Turn) (s : State) → AllTell device n ts s → (k : ℕ) → given_ram (moments device n ts s) k ≡ (let m = from device s.cpu.side ts s.memory.ns_ram in ram_at (gateway_at device) (run_of device n ts s).list k m.turns m.ram)
counts device zero ts s tell k =
    let m = from device s.cpu.side ts s.memory.ns_ram in
    ap (λ l. given_ram l k) (no_moment device ts s) ∙ sym (ap (λ l. ram_at (gateway_at device) l k m.turns m.ram) (no_event device ts s))
counts device (suc n) ts s tell k = by (counts device n) s.cpu.side refl ts tell
  where
    by : ((us : List Turn) (t : State) → AllTell device n us t → (k : ℕ) → Counts device n us t k (from device t.cpu.side us t.memory.ns_ram)) → (x : Side) → s.cpu.side ≡ x → (us : List Turn) → AllTell device (suc n) us s → Counts device (suc n) us s k (from device x us s.memory.ns_ram)
    by rest Secure side us t =
        let two = tell_step device n us s side t in
        let d = step_of device s in
        ap (λ l. given_ram l k) (moments_step device n us s side)
        ∙ counts_step device n us s d.state d.what (told device s side).leads two.0 (λ e. stays device s d.state side (ap (λ w. record { state = d.state; what = w }) e)) (rest us d.state two.1) k
        ∙ sym (ap (λ (x : Events). ram_at (gateway_at device) x.list k us s.memory.ns_ram) (run_step device n us s d side refl))
    by rest NonSecure side [] t =
        ap (λ l. given_ram l k) (moments_waits device (suc n) s side)
        ∙ sym (ap (λ (x : Events). ram_at (gateway_at device) x.list k [] s.memory.ns_ram) (run_waits device (suc n) s side))
    by rest NonSecure side (u ∷ us) t =
        let m = moved_past (gateway_at device) (u ∷ us) s.memory.ns_ram in
        ap (λ l. given_ram l k) (moments_turn device n u us s side)
        ∙ counts_turn device n us u s (rest us) k (tell_turn device n u us s side t)
        ∙ sym (ap (λ (x : Events). ram_at (gateway_at device) x.list k m.turns m.ram) (run_turn device n u us s (turn_of device u s) side refl))
    by rest (Stopped x) side us t =
        ap (λ l. given_ram l k) (moments_stopped device (suc n) us s x side)
        ∙ sym (ap (λ (y : Events). ram_at (gateway_at device) y.list k us s.memory.ns_ram) (run_is_over device (suc n) us s x side))

-- no gateway stands in Non-secure memory
gateways_secure : (device : Device) → AreSecure (gateway_at device)
unfolding is_gateway
gateways_secure device = record { by = λ a h. let out : lies_in 3 a 4 ≡ false = grind (arith, nat_tests) in ap (λ b. cond (b && (eqb (fetched device a) 59775 && eqb (fetched device (a + 2)) 59775)) (Some a) None) out }

pub knows_ram : (device : Device) (enters : ℕ → Option ℕ) → AreSecure enters → (start : Start) (ts : List Turn) (n : ℕ) → AllTell device n ts (reset_of device start) → KnowsRam device enters start ts n
knows_ram device enters h start ts n tell = record {
  events = moments_events device n ts (reset_of device start);
  ram = λ k. counts device n ts (reset_of device start) tell k ∙ ram_same (gateway_at device) enters (gateways_secure device) h (machine_run device start ts n).list k ts start.ns_ram;
}
