-- Runs piece by piece: the events of some steps, and then those of the rest.
use Rattle.std.specs.Prelude.{◌≡◌, ℕ, ◌+◌, ◌++◌, List, [], ◌∷◌}
use Rattle.cm_base.specs.declared.stop.Stop.{Stop}
use Rattle.ns_types.specs.declared.event.Event.{Event}
use Rattle.ns_types.specs.declared.event.Event.TheVariants as event
use Rattle.ns_types.specs.declared.event.End.TheVariants as end
use Rattle.ns_types.specs.Turns.{Turn}
use Rattle.ns_types.specs.State.{Device, State}
use Rattle.ns_turns.specs.Run.{run_of}
use Rattle.ns_turns.specs.Advance.{behind}

-- k steps from state s with turns ts have the events es, and leave state t with turns us
abbrev pub RunsIn : Device → ℕ → List Turn → State → List Event → List Turn → State → Type 0
RunsIn device k ts s es us t = (n : ℕ) → run_of device (k + n) ts s ≡ behind es (run_of device n us t)

-- some number of steps does
pub record RunsTo (device : Device) (ts : List Turn) (s : State) (es : List Event) (us : List Turn) (t : State) : Type 0 where
  pub steps : ℕ
  pub by : RunsIn device steps ts s es us t

-- After so many steps from state s with turns ts, or more, the events are es and then this stop.
pub record RunsToStop (device : Device) (ts : List Turn) (s : State) (es : List Event) (x : Stop) : Type 0 where
  pub steps : ℕ
  pub by : (n : ℕ) → run_of device (steps + n) ts s ≡ record { list = es ++ event.Stopped x ∷ []; end = end.Stopped }
