-- Two starts of which a program declares the same look the same to the caller.
use Rattle.std.specs.Prelude.{◌≡◌, ℕ, take, List, Option}
use Rattle.ns_types.specs.declared.event.Bound.{Bound}
use Rattle.ns_types.specs.Turns.{Turn, AreTurns}
use Rattle.ns_types.specs.declared.turn.Start.{Start}
use Rattle.ns_types.specs.CRun.{Run}
use Rattle.ns_types.specs.Show.{show, events_shown}
use Rattle.ns_types.specs.Sight.{Played, given_count, SameSight}
use Rattle.ns_types.specs.Marks.{events_of, first_tracker, IsTold}
use Rattle.ns_types.specs.Memory.{IsStart}
use Rattle.ns_turns.specs.Run.{machine_run}
use Rattle.ns_types.specs.State.{Device}

-- equal Non-secure memory; Secure memory may differ
pub record SameOutside (a b : Start) : Type 0 where
  pub ns_rom : a.ns_rom ≡ b.ns_rom
  pub ns_ram : a.ns_ram ≡ b.ns_ram

-- what the machine does
abbrev pub machine_plays : Device → Start → List Turn → ℕ → Played
machine_plays device start ts n = record { start = start; turns = ts; events = (machine_run device start ts n).list }

-- how many hand-overs the first m events of a run become
abbrev pub hand_overs : (ℕ → Option ℕ) → ℕ → Run → ℕ
hand_overs enters m run = given_count (events_shown (show enters (take m run.list)))

-- Two starts with equal Non-secure memory, one list of turns, and two bounds under which the first m events of the
-- program are equal: the machine's runs have the same sight up to the hand-overs among these events, for any two
-- numbers of steps.
abbrev pub TwoWorlds : Device → (ℕ → Option ℕ) → (Start → List Turn → Bound → Run) → Type 0
TwoWorlds device enters run =
    (a b : Start) → IsStart a → IsStart b → SameOutside a b → (ts : List Turn) → AreTurns ts → (c d : Bound) (m : ℕ) → take m (events_of (run a ts c).list) ≡ take m (events_of (run b ts d).list) → (i j : ℕ)
    → SameSight enters (machine_plays device a ts i) (machine_plays device b ts j) (hand_overs enters m (run a ts c))

-- what the caller sees of a run follows from its events
abbrev pub AlwaysTold : (ℕ → Option ℕ) → (Start → List Turn → Bound → Run) → Type 0
AlwaysTold enters run = (start : Start) (ts : List Turn) (b : Bound) → IsTold enters (first_tracker start ts) (run start ts b).list
