-- What the machine shows of a program whose one entry gives a number.
use Rattle.std.specs.Prelude.{◌≡◌, ℕ, ◌+◌, ◌%◌, eqb, ◌⊎◌, Bool, true, false, ◌&&◌, List, [], ◌∷◌}
use Rattle.cm_base.specs.declared.stop.Stop.{Stop}
use Rattle.cm_base.specs.declared.stop.Stop.TheVariants.{EntryPoint, Access, ReturnFault, Astray}
use Rattle.ns_types.specs.declared.event.Event.{Event}
use Rattle.ns_types.specs.declared.event.Event.TheVariants as event
use Rattle.ns_types.specs.declared.event.End.TheVariants as end
use Rattle.ns_types.specs.Turns.{Turn, AreTurns}
use Rattle.ns_types.specs.declared.turn.Start.{Start}
use Rattle.ns_types.specs.declared.turn.View.{View}
use Rattle.ns_types.specs.State.{Device}
use Rattle.ns_types.specs.Platform.{is_nonsecure}
use Rattle.ns_types.specs.SecureRam.{main_seal}
use Rattle.ns_types.specs.Memory.{word_at, IsStart}
use Rattle.ns_types.specs.Boundary.{view, in_four, start_mark, turn_mark}
use Rattle.ns_types.specs.Gateway.{is_gateway}
use Rattle.v8m_core.specs.Code.{HasCode}
use Rattle.ns_turns.specs.Run.{machine_run}
use Rattle.ns_types.specs.Prefix.{IsFront}
use Rattle.constant_entry.specs.Code.{start_code, entry_code, gateway_code, start_place, entry_place, first_veneer}

-- Secure ROM holds the program
pub record GivesConstant (device : Device) (n : ℕ) : Type 0 where
  pub stack : word_at device.rom 0 ≡ main_seal
  pub reset : word_at device.rom 4 ≡ start_place + 1
  pub start : HasCode device start_place start_code
  pub gateway : HasCode device first_veneer gateway_code
  pub entry : HasCode device entry_place (entry_code n)
  pub alone : (a : ℕ) → a % 2 ≡ 0 → is_gateway device a ≡ eqb a first_veneer

-- a turn without items that calls the first entry and gives it a place in Non-secure memory to go back to
pub record CallsFirst (t : Turn) : Type 0 where
  pub items : t.items ≡ []
  pub target : (t.target ≡ first_veneer) ⊎ (t.target ≡ first_veneer + 1)
  pub back : is_nonsecure t.lr ≡ true

-- the views of the start and of a result
abbrev pub started_view : Start → View
started_view start = let m = start_mark start in view (in_four []) m.kept 0 m.exit m.exit m

abbrev pub result_view : Turn → ℕ → View
result_view t n = let m = turn_mark t in view (in_four (n ∷ [])) m.kept 0 m.exit m.exit m

abbrev pub two_views : Start → Turn → ℕ → List Event
two_views start t n = event.Given (started_view start) ∷ event.Given (result_view t n) ∷ []

-- For every start that begins in Non-secure memory, every such turn and every number of steps the events are a front
-- of the two views, and for some number they are both, and the machine waits for the next turn.
pub record ShowsConstant (device : Device) (n : ℕ) : Type 0 where
  pub front : (start : Start) (t : Turn) (k : ℕ) → is_nonsecure (word_at start.ns_rom 4) ≡ true → CallsFirst t → IsFront (machine_run device start (t ∷ []) k).list (two_views start t n)
  pub both : (start : Start) (t : Turn) → is_nonsecure (word_at start.ns_rom 4) ≡ true → CallsFirst t → (k : ℕ) × (machine_run device start (t ∷ []) k ≡ record { list = two_views start t n; end = end.Waiting })

-- the stops that Non-secure code makes: by where it branches, and by what its items touch
abbrev pub is_callers_stop : Stop → Bool
is_callers_stop EntryPoint = true
is_callers_stop Access = true
is_callers_stop ReturnFault = true
is_callers_stop Astray = true
is_callers_stop _ = false

abbrev pub is_callers_event : Event → Bool
is_callers_event (event.Given view) = true
is_callers_event (event.Wrote at size value) = true
is_callers_event (event.Stopped x) = is_callers_stop x

abbrev pub all_callers : List Event → Bool
all_callers [] = true
all_callers (e ∷ es) = is_callers_event e && all_callers es

-- Secure code never stops: each stop of a run of the machine is one that Non-secure code makes.
abbrev pub NeverStops : Device → Type 0
NeverStops device =
    (start : Start) → IsStart start → (ts : List Turn) → AreTurns ts → (k : ℕ)
    → all_callers (machine_run device start ts k).list ≡ true
