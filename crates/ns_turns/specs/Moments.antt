-- The machine's state at the hand-overs of a run, and its Non-secure RAM there.
use Rattle.std.specs.Prelude.{◌≡◌, ℕ, zero, suc, map, List, [], ◌∷◌, ◌++◌, Option, Some, None, option_map}
use Rattle.ns_types.specs.declared.event.Event.{Event}
use Rattle.ns_types.specs.declared.event.Event.TheVariants as event
use Rattle.ns_types.specs.Turns.{Turn}
use Rattle.ns_types.specs.declared.turn.Start.{Start}
use Rattle.ns_types.specs.State.{Device, State}
use Rattle.ns_types.specs.Ram.{ram_at}
use Rattle.ns_types.specs.Memory.{IsStart}
use Rattle.v8m_core.specs.Step.{Done, step_of, turn_of}
use Rattle.v8m_core.specs.Reset.{reset_of}
use Rattle.ns_turns.specs.Run.{event_of, next_of, machine_run}

-- an event, and the state right after the step that it belongs to
pub record Moment : Type 0 where
  pub event : Event
  pub state : State

abbrev pub moments_of : Done → List Moment
moments_of d = map (λ e. record { event = e; state = d.state }) (event_of d.what)

-- those of at most n steps from a state
unfoldable pub moments : Device → ℕ → List Turn → State → List Moment
moments device zero ts s = []
moments device (suc n) ts s =
    next_of (λ e. []) (λ t rest. moments_of (turn_of device t s) ++ moments device n rest (turn_of device t s).state)
    (moments_of (step_of device s) ++ moments device n ts (step_of device s).state)
    s.cpu.side
    ts

abbrev pub machine_moments : Device → Start → List Turn → ℕ → List Moment
machine_moments device start ts n = moments device n ts (reset_of device start)

abbrev pub events_in : List Moment → List Event
events_in ms = map (λ m. m.event) ms

abbrev pub given_or : Event → State → (ℕ → Option State) → ℕ → Option State
given_or (event.Given view) s rest zero = Some s
given_or (event.Given view) s rest (suc k) = rest k
given_or (event.Wrote at size value) s rest k = rest k
given_or (event.Stopped stop) s rest k = rest k

-- the state at the k-th hand-over, counted from 0, if there is one
abbrev pub given_state : List Moment → ℕ → Option State
given_state [] k = None
given_state (m ∷ ms) k = given_or m.event m.state (given_state ms) k

-- Non-secure RAM there
abbrev pub given_ram : List Moment → ℕ → Option (List ℕ)
given_ram ms k = option_map (λ s. s.memory.ns_ram) (given_state ms k)

-- The machine's Non-secure RAM at each hand-over of a run is what the start, the turns and the events before make of it.
pub record KnowsRam (device : Device) (enters : ℕ → Option ℕ) (start : Start) (ts : List Turn) (n : ℕ) : Type 0 where
  pub events : events_in (machine_moments device start ts n) ≡ (machine_run device start ts n).list
  pub ram : (k : ℕ) → given_ram (machine_moments device start ts n) k ≡ ram_at enters (machine_run device start ts n).list k ts start.ns_ram

-- so it is in every run
abbrev pub AlwaysKnowsRam : Device → (ℕ → Option ℕ) → Type 0
AlwaysKnowsRam device enters = (start : Start) → IsStart start → (ts : List Turn) (n : ℕ) → KnowsRam device enters start ts n
