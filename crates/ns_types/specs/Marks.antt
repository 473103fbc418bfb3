-- What the caller sees of a program's events follows from the events, the turns and where the start says that
-- Non-secure code begins. For any meaning of entry bodies that keeps to this.
use Rattle.std.specs.Prelude.{◌≡◌, ℕ, map, List, [], ◌∷◌, Option}
use Rattle.ns_types.specs.declared.goes.Goes.{Goes}
use Rattle.ns_types.specs.declared.goes.Goes.TheVariants as goes
use Rattle.ns_types.specs.declared.event.CEvent.{CEvent}
use Rattle.ns_types.specs.declared.event.CEvent.TheVariants as c
use Rattle.ns_types.specs.Turns.{Turn}
use Rattle.ns_types.specs.declared.turn.Start.{Start}
use Rattle.ns_types.specs.Platform.{aligned}
use Rattle.ns_types.specs.declared.event.Mark.{Mark}
use Rattle.ns_types.specs.Boundary.{goes_of, eight_zeros, kept_of, start_mark}
use Rattle.ns_types.specs.declared.event.Marked.{Marked}
use Rattle.ns_types.specs.CRun.{World, Outcome, Gave, Over}
use Rattle.ns_types.specs.Show.{Shown, shown_of}

-- of an active entry: where its result goes, and the caller's r4 to r11
pub record Frame : Type 0 where
  pub exit : ℕ
  pub kept : List ℕ

-- the turns that are left, the active entries, the newest first, and the Non-secure stack pointers as last set
pub record Tracker : Type 0 where
  pub turns : List Turn
  pub active : List Frame
  pub msp_ns : ℕ
  pub psp_ns : ℕ

abbrev pub newest : List Frame → Frame
newest [] = record { exit = 0; kept = eight_zeros }
newest (f ∷ fs) = f

abbrev pub older : List Frame → List Frame
older [] = []
older (f ∷ fs) = fs

-- a branch to Non-secure code or from it, for which a frame stands; onward is what the next turns make of it
abbrev pub led : Goes → Frame → Tracker → Tracker → Tracker
led (goes.Enter e) f t onward = record t { active = f ∷ t.active }
led goes.Turn f t onward = onward
led goes.Return f t onward = t
led goes.EntryPoint f t onward = t
led goes.Astray f t onward = t

-- the turns up to the next one that leaves Non-secure code
abbrev pub tracker_past : (ℕ → Option ℕ) → List Frame → List Turn → ℕ → ℕ → Tracker
tracker_past enters active [] msp psp = record { turns = []; active = active; msp_ns = msp; psp_ns = psp }
tracker_past enters active (t ∷ ts) msp psp =
    let m = aligned 4 t.msp_ns in
    let p = aligned 4 t.psp_ns in
    led (goes_of enters t.target) (record { exit = aligned 2 t.lr; kept = kept_of t }) (record { turns = ts; active = active; msp_ns = m; psp_ns = p }) (tracker_past enters active ts m p)

abbrev pub tracker_onward : (ℕ → Option ℕ) → Tracker → Tracker
tracker_onward enters t = tracker_past enters t.active t.turns t.msp_ns t.psp_ns

-- going to a place
abbrev pub going : (ℕ → Option ℕ) → Goes → Frame → Tracker → Tracker
going enters g f t = led g f t (tracker_onward enters t)

-- the newest entry has its result
abbrev pub leaving : (ℕ → Option ℕ) → Tracker → Tracker
leaving enters t = let f = newest t.active in going enters (goes_of enters f.exit) f (record t { active = older t.active })

-- after an event
abbrev pub tracker_after : (ℕ → Option ℕ) → CEvent → Tracker → Tracker
tracker_after enters c.Started t = leaving enters t
tracker_after enters (c.Result entry r0) t = leaving enters t
tracker_after enters (c.Called target args) t = tracker_onward enters t
tracker_after enters (c.Wrote at size value) t = t
tracker_after enters (c.Stopped stop) t = t

-- the mark of an event now
abbrev pub mark_by : Tracker → Mark
mark_by t = let f = newest t.active in record { exit = f.exit; kept = f.kept; msp_ns = t.msp_ns; psp_ns = t.psp_ns }

-- events with their marks, and the tracker behind them
abbrev pub tracked : (ℕ → Option ℕ) → List CEvent → Tracker → List Marked
tracked enters [] t = []
tracked enters (e ∷ es) t = record { event = e; mark = mark_by t } ∷ tracked enters es (tracker_after enters e t)

abbrev pub tracker_behind : (ℕ → Option ℕ) → List CEvent → Tracker → Tracker
tracker_behind enters [] t = t
tracker_behind enters (e ∷ es) t = tracker_behind enters es (tracker_after enters e t)

-- the start code is like an entry whose result goes to where Non-secure code begins
abbrev pub first_tracker : Start → List Turn → Tracker
first_tracker start ts =
    let m = start_mark start in
    record { turns = ts; active = record { exit = m.exit; kept = m.kept } ∷ []; msp_ns = m.msp_ns; psp_ns = m.psp_ns }

abbrev pub events_of : List Marked → List CEvent
events_of ms = map (λ m. m.event) ms

-- what the caller sees, event by event
abbrev pub shown_each : (ℕ → Option ℕ) → List Marked → List (List Shown)
shown_each enters ms = map (λ m. shown_of enters m.event m.mark) ms

-- it follows from the events
pub record IsTold (enters : ℕ → Option ℕ) (first : Tracker) (ms : List Marked) : Type 0 where
  pub shown : shown_each enters ms ≡ shown_each enters (tracked enters (events_of ms) first)

-- The world of a run: the tracker behind its events is now, and the world's own turns and stack pointers are those of
-- here. In Secure code both are one; in Non-secure code now is behind the crossing that follows here.
pub record Follows (enters : ℕ → Option ℕ) (first now here : Tracker) (w : World) : Type 0 where
  pub told : IsTold enters first w.events
  pub behind : tracker_behind enters (events_of w.events) first ≡ now
  pub turns : w.turns ≡ here.turns
  pub msp_ns : w.msp_ns ≡ here.msp_ns
  pub psp_ns : w.psp_ns ≡ here.psp_ns

-- Code that ran to its end has left the active entries as they were before it.
pub record Left (enters : ℕ → Option ℕ) (first : Tracker) (active : List Frame) (w : World) : Type 0 where
  pub now : Tracker
  pub same : now.active ≡ active
  pub follows : Follows enters first now now w

abbrev pub Keeps : (ℕ → Option ℕ) → Tracker → List Frame → Outcome → Type 0
Keeps enters first active (Gave x w) = Left enters first active w
Keeps enters first active (Over e w) = IsTold enters first w.events

pub record Tracks (enters : ℕ → Option ℕ) (first : Tracker) (active : List Frame) (o : Outcome) : Type 0 where
  pub by : Keeps enters first active o

-- bodies of entries keep to it, wherever they begin
pub record AreTracked (enters : ℕ → Option ℕ) (enter : ℕ → List ℕ → World → Outcome) : Type 0 where
  pub by : (first now : Tracker) (e : ℕ) (args : List ℕ) (w : World) → Follows enters first now now w → Tracks enters first now.active (enter e args w)
