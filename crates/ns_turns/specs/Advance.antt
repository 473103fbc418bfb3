-- A run by its steps.
use Rattle.std.specs.Prelude.{◌≡◌, ℕ, suc, ◌++◌, List, Result, Ok, Err}
use Rattle.ns_types.specs.declared.event.Event.{Event}
use Rattle.ns_types.specs.declared.event.End.{End}
use Rattle.ns_types.specs.declared.event.Events.{Events}
use Rattle.ns_types.specs.Turns.{Turn}
use Rattle.ns_types.specs.State.{Device, State}
use Rattle.v8m_core.specs.declared.stepped.Stepped.{Stepped}
use Rattle.ns_turns.specs.Run.{ends, event_of, run_of}

-- events, and then those of the rest
abbrev pub behind : List Event → Events → Events
behind list rest = record { list = list ++ rest.list; end = rest.end }

-- what a step, or the end before it, makes of the events of the rest
abbrev pub then_rest : Result Stepped End → Events → Events
then_rest (Ok what) rest = behind (event_of what) rest
then_rest (Err e) rest = ends e

-- a step leads from a state with turns to another one, or the run ends before it
abbrev pub Advances : Device → List Turn → State → Result Stepped End → List Turn → State → Type 0
Advances device ts s r ts' s' = (n : ℕ) → run_of device (suc n) ts s ≡ then_rest r (run_of device n ts' s')
