-- A run of the machine: turns of Non-secure code and instructions of Secure code, each one step.
use Rattle.std.specs.Prelude.{ℕ, zero, suc, List, [], ◌∷◌, ◌++◌}
use Rattle.ns_types.specs.declared.event.Event.{Event}
use Rattle.ns_types.specs.declared.event.Event.TheVariants as event
use Rattle.ns_types.specs.declared.event.End.{End}
use Rattle.ns_types.specs.declared.event.End.TheVariants as end
use Rattle.ns_types.specs.declared.event.Events.{Events}
use Rattle.ns_types.specs.declared.state.Side.{Side}
use Rattle.ns_types.specs.declared.state.Side.TheVariants.{Secure, NonSecure, Stopped}
use Rattle.ns_types.specs.Turns.{Turn}
use Rattle.ns_types.specs.declared.turn.Start.{Start}
use Rattle.ns_types.specs.State.{Device, State}
use Rattle.v8m_core.specs.declared.stepped.Stepped.{Stepped}
use Rattle.v8m_core.specs.declared.stepped.Stepped.TheVariants as what
use Rattle.v8m_core.specs.Step.{Done, step_of, turn_of}
use Rattle.v8m_core.specs.Reset.{reset_of}

-- the event of a step
abbrev pub event_of : Stepped → List Event
event_of what.Went = []
event_of (what.Wrote at size value) = event.Wrote at size value ∷ []
event_of (what.Given view) = event.Given view ∷ []
event_of (what.Stopped stop) = event.Stopped stop ∷ []

abbrev pub ends : End → Events
ends e = record { list = []; end = e }

-- the events of a step, and then those of the rest
abbrev pub after : Done → Events → Events
after d rest = record { list = event_of d.what ++ rest.list; end = rest.end }

-- The tests before a step, in their order: a stopped machine, no turn left for Non-secure code, no step left.
-- play takes a turn, step an instruction, and spent is what no step left makes of them.
abbrev pub next_of {ℓ} : {R : Type ℓ} → (End → R) → (Turn → List Turn → R) → R → Side → List Turn → R
next_of over play step (Stopped x) ts = over end.Stopped
next_of over play step NonSecure [] = over end.Waiting
next_of over play step NonSecure (t ∷ ts) = play t ts
next_of over play step Secure ts = step

-- at most n steps from a state
unfoldable pub run_of : Device → ℕ → List Turn → State → Events
run_of device zero ts s = next_of ends (λ t rest. ends end.Spent) (ends end.Spent) s.cpu.side ts
run_of device (suc n) ts s =
    next_of ends (λ t rest. after (turn_of device t s) (run_of device n rest (turn_of device t s).state))
    (after (step_of device s) (run_of device n ts (step_of device s).state))
    s.cpu.side
    ts

-- the machine's run: at most n steps from reset
abbrev pub machine_run : Device → Start → List Turn → ℕ → Events
machine_run device start ts n = run_of device n ts (reset_of device start)
