-- Secure code never stops: each stop of a run is one that Non-secure code makes.
use Rattle.std.proofs.Common.{◌≡◌, ℕ, zero, suc, ◌<◌, ◌≤◌, Bool, true, false, List, [], ◌∷◌, ◌++◌, refl, ap, ◌∙◌, ⊎_elim, arith, Option, Some, None}
use Rattle.std.specs.Prelude.{◌&&◌}
use Rattle.ns_types.specs.declared.goes.Goes.{Goes}
use Rattle.ns_types.specs.declared.goes.Goes.TheVariants as goes
use Rattle.ns_types.specs.declared.event.Bound.{Bound}
use Rattle.ns_types.specs.declared.event.Event.{Event}
use Rattle.ns_types.specs.declared.event.CEvent.{CEvent}
use Rattle.ns_types.specs.declared.event.CEvent.TheVariants as c
use Rattle.ns_types.specs.declared.event.Mark.{Mark}
use Rattle.ns_types.specs.declared.event.Marked.{Marked}
use Rattle.ns_types.specs.declared.turn.Start.{Start}
use Rattle.ns_types.specs.declared.turn.View.{View}
use Rattle.ns_types.specs.Turns.{Turn}
use Rattle.ns_types.specs.State.{Device}
use Rattle.ns_types.specs.Memory.{memory_of}
use Rattle.ns_types.specs.Boundary.{goes_of, view_of}
use Rattle.ns_types.specs.CRun.{World, Run}
use Rattle.ns_types.specs.Bounds.{world_of}
use Rattle.ns_types.specs.Every.{EveryEvent, Passes, Keep}
use Rattle.ns_types.specs.Show.{show, shown_of, given_if, events_shown}
use Rattle.ns_types.proofs.ShowLaws.{events_append}
use Rattle.ns_types.proofs.EveryLaws.{run_holds}
use Rattle.ns_turns.specs.Refines.{Only, seen_of}
use Rattle.ns_turns.specs.Unseen.{HasRoom}
use Rattle.constant_entry.specs.Meaning.{gives, constant_run}
use Rattle.constant_entry.specs.Shows.{is_callers_stop, is_callers_event, all_callers, NeverStops}

-- the same test of an event of the program
abbrev is_callers : CEvent → Bool
is_callers c.Started = true
is_callers (c.Result entry r0) = true
is_callers (c.Called target args) = true
is_callers (c.Wrote at size value) = true
is_callers (c.Stopped x) = is_callers_stop x

keeps : (n deep : ℕ) → Keep (Passes is_callers) (gives n deep)
keeps n deep = record { by = by deep }
  where
    by : (deep e : ℕ) (args : List ℕ) (w : World) → EveryEvent (Passes is_callers) w.events → EveryEvent (Passes is_callers) (world_of (gives n deep e args w)).events
    by zero e args w h = h
    by (suc deep) e args w h = h

and_more : (x y z : Bool) → (x && y) ≡ true → (y ≡ true → z ≡ true) → (x && z) ≡ true
and_more true y z p f = f p
and_more false y z p f = p

callers_append : (a b : List Event) → all_callers a ≡ true → all_callers b ≡ true → all_callers (a ++ b) ≡ true
callers_append [] b p q = q
callers_append (e ∷ a) b p q = and_more (is_callers_event e) (all_callers a) (all_callers (a ++ b)) p (λ h. callers_append a b h q)

callers_front : (a b : List Event) → all_callers (a ++ b) ≡ true → all_callers a ≡ true
callers_front [] b p = refl
callers_front (e ∷ a) b p = and_more (is_callers_event e) (all_callers (a ++ b)) (all_callers a) p (λ h. callers_front a b h)

given_callers : (g : Goes) (e : CEvent) (v : Option View) → all_callers (events_shown (given_if g e v)) ≡ true
given_callers goes.Turn e (Some v) = refl
given_callers goes.Turn e None = refl
given_callers (goes.Enter x) e v = refl
given_callers goes.Return e v = refl
given_callers goes.EntryPoint e v = refl
given_callers goes.Astray e v = refl

event_callers : (enters : ℕ → Option ℕ) (e : CEvent) (m : Mark) → is_callers e ≡ true → all_callers (events_shown (shown_of enters e m)) ≡ true
event_callers enters c.Started m h = given_callers (goes_of enters m.exit) c.Started (view_of c.Started m)
event_callers enters (c.Result e x) m h = given_callers (goes_of enters m.exit) (c.Result e x) (view_of (c.Result e x) m)
event_callers enters (c.Called t args) m h = refl
event_callers enters (c.Wrote at size value) m h = refl
event_callers enters (c.Stopped x) m h = ap (λ b. b && true) h

shown_callers : (enters : ℕ → Option ℕ) (ms : List Marked) → EveryEvent (Passes is_callers) ms → all_callers (events_shown (show enters ms)) ≡ true
shown_callers enters [] h = refl
shown_callers enters (m ∷ ms) h =
    let first = shown_of enters m.event m.mark in
    ap all_callers (events_append first (show enters ms)) ∙ callers_append (events_shown first) (events_shown (show enters ms)) (event_callers enters m.event m.mark h.0) (shown_callers enters ms h.1)

-- what the program shows
program_callers : (enters : ℕ → Option ℕ) (n : ℕ) (start : Start) (ts : List Turn) (b : Bound) → all_callers (seen_of enters (constant_run enters n start ts b)) ≡ true
program_callers enters n start ts b =
    shown_callers enters (constant_run enters n start ts b).list
    (run_holds (Passes is_callers) (record { started = refl; result = λ e x. refl; entry_point = refl; access = refl; return_fault = refl; astray = refl }) enters (gives n b.deep) (keeps n b.deep) b.turns start (memory_of start) ts)

not_both : (a b : ℕ) → a < b → b ≤ a → ⊥
not_both a b lt le = omega arith

-- so does the machine, where it does only what the program does and has room for it
pub never_stops : (device : Device) (enters : ℕ → Option ℕ) (n : ℕ) → Only device enters (constant_run enters n) → HasRoom (constant_run enters n) → NeverStops device
never_stops device enters n only fits start whole ts are k =
    let o = only start whole ts are k in
    let shows : all_callers o.1.before ≡ true = callers_front o.1.before o.1.front.0 (ap all_callers o.1.front.1 ∙ program_callers enters n start ts o.0) in
    ⊎_elim (λ same. ap all_callers same ∙ shows) (λ full. absurd (not_both _ _ full.1 (fits start whole ts are o.0))) o.1.list
