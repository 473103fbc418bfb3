-- What the caller sees of a run of the program, and when two runs look the same to it.
use Rattle.std.specs.Prelude.{ℕ, List, [], ◌∷◌, ◌++◌, Option, Some, None}
use Rattle.ns_types.specs.declared.goes.Goes.{Goes}
use Rattle.ns_types.specs.declared.goes.Goes.TheVariants as goes
use Rattle.ns_types.specs.declared.event.Event.{Event}
use Rattle.ns_types.specs.declared.event.Event.TheVariants as event
use Rattle.ns_types.specs.declared.event.CEvent.{CEvent}
use Rattle.ns_types.specs.declared.event.CEvent.TheVariants as c
use Rattle.ns_types.specs.declared.turn.View.{View}
use Rattle.ns_types.specs.declared.event.Mark.{Mark}
use Rattle.ns_types.specs.Boundary.{goes_of, view_of}
use Rattle.ns_types.specs.declared.event.Marked.{Marked}

-- an event that the caller sees, and the event of the program that it is made of
pub record Shown : Type 0 where
  pub event : Event
  pub from : CEvent

abbrev pub given_if : Goes → CEvent → Option View → List Shown
given_if goes.Turn e (Some v) = record { event = event.Given v; from = e } ∷ []
given_if goes.Turn e None = []
given_if (goes.Enter _) e v = []
given_if goes.Return e v = []
given_if goes.EntryPoint e v = []
given_if goes.Astray e v = []

-- A start or a result whose exit lies in Non-secure memory is a hand-over, and so is each call; writes and stops are seen.
abbrev pub shown_of : (ℕ → Option ℕ) → CEvent → Mark → List Shown
shown_of enters c.Started m = given_if (goes_of enters m.exit) c.Started (view_of c.Started m)
shown_of enters (c.Result e x) m = given_if (goes_of enters m.exit) (c.Result e x) (view_of (c.Result e x) m)
shown_of enters (c.Called t args) m = given_if goes.Turn (c.Called t args) (view_of (c.Called t args) m)
shown_of enters (c.Wrote at size value) m = record { event = event.Wrote at size value; from = c.Wrote at size value } ∷ []
shown_of enters (c.Stopped stop) m = record { event = event.Stopped stop; from = c.Stopped stop } ∷ []

abbrev pub show : (ℕ → Option ℕ) → List Marked → List Shown
show enters [] = []
show enters (m ∷ ms) = shown_of enters m.event m.mark ++ show enters ms

abbrev pub events_shown : List Shown → List Event
events_shown [] = []
events_shown (s ∷ ss) = s.event ∷ events_shown ss
