-- The machine does what a program does, and shows the caller exactly what the program shows.
use Rattle.std.specs.Prelude.{◌≡◌, ◌≢◌, ℕ, ◌<◌, ◌≤◌, ◌⊎◌, min, true, List, [], ◌∷◌, ◌++◌, Option}
use Rattle.cm_base.specs.declared.stop.Stop.TheVariants.{StackLimit}
use Rattle.ns_types.specs.declared.event.Event.{Event}
use Rattle.ns_types.specs.declared.event.Event.TheVariants as event
use Rattle.ns_types.specs.declared.event.End.TheVariants as end
use Rattle.ns_types.specs.declared.event.Events.{Events}
use Rattle.ns_types.specs.declared.event.Bound.{Bound}
use Rattle.ns_types.specs.Turns.{Turn, AreTurns}
use Rattle.ns_types.specs.declared.turn.Start.{Start}
use Rattle.ns_types.specs.CRun.{Run}
use Rattle.ns_types.specs.Show.{Shown, show, events_shown}
use Rattle.ns_types.specs.Declares.{Declares, AllHaveFewArguments, DeclaresFront}
use Rattle.ns_types.specs.Memory.{IsStart}
use Rattle.ns_turns.specs.Run.{machine_run}
use Rattle.ns_types.specs.Prefix.{IsFront}
use Rattle.ns_types.specs.State.{Device}
use Rattle.ns_types.specs.SecureRam.{room}
use Rattle.ns_types.specs.Stops.{is_clean}

-- what the caller sees of a run
abbrev pub seen_of : (ℕ → Option ℕ) → Run → List Event
seen_of enters run = events_shown (show enters run.list)

-- The machine's events are exactly what the run shows, and it ends as the run does. Where the bound of the run is
-- used up the machine has done at least so many steps.
pub record Same (m : Events) (seen : List Event) (run : Run) (least n : ℕ) : Type 0 where
  pub list : m.list ≡ seen
  pub ended : run.end ≢ end.Spent → m.end ≡ run.end
  pub spent : run.end ≡ end.Spent → (m.end ≡ end.Spent) × (least ≤ n)

-- The machine has no room left on its stack, after a front of what the run shows, and the run needs more than there is.
pub record OutOfRoom (m : Events) (seen : List Event) (run : Run) (room : ℕ) : Type 0 where
  pub before : List Event
  pub list : m.list ≡ before ++ event.Stopped StackLimit ∷ []
  pub front : IsFront before seen
  pub end : m.end ≡ end.Stopped
  pub need : room < run.peak

-- For every start, list of turns and bound there is a number of steps after which the machine has shown what the run
-- shows, or is out of room.
abbrev pub Refines : Device → (ℕ → Option ℕ) → (Start → List Turn → Bound → Run) → Type 0
Refines device enters run =
    (start : Start) → IsStart start → (ts : List Turn) → AreTurns ts → (b : Bound) → (n : ℕ) × (Same (machine_run device start ts n) (seen_of enters (run start ts b)) (run start ts b) (min b.turns b.deep) n ⊎ OutOfRoom (machine_run device start ts n) (seen_of enters (run start ts b)) (run start ts b) room)

-- What the machine has shown after some steps is a front of what the run shows, without a stop of its own but a last
-- one for want of stack, where the run needs more than there is. Where the machine waits, so does the run.
pub record OnlyShows (m : Events) (seen : List Event) (run : Run) : Type 0 where
  pub before : List Event
  pub list : (m.list ≡ before) ⊎ ((m.list ≡ before ++ event.Stopped StackLimit ∷ []) × (room < run.peak))
  pub front : IsFront before seen
  pub clean : is_clean before ≡ true
  pub waits : m.end ≡ end.Waiting → (run.end ≡ end.Waiting) × (m.list ≡ seen)

-- For every start, list of turns and number of steps there is such a bound.
abbrev pub Only : Device → (ℕ → Option ℕ) → (Start → List Turn → Bound → Run) → Type 0
Only device enters run =
    (start : Start) → IsStart start → (ts : List Turn) → AreTurns ts → (n : ℕ) → (b : Bound) × OnlyShows (machine_run device start ts n) (seen_of enters (run start ts b)) (run start ts b)

-- The same where the events only declare what the program declares: places, results, arguments, writes and stops.
pub record OnlyDeclares (m : Events) (shown : List Shown) (run : Run) : Type 0 where
  pub before : List Event
  pub list : (m.list ≡ before) ⊎ ((m.list ≡ before ++ event.Stopped StackLimit ∷ []) × (room < run.peak))
  pub front : DeclaresFront before shown
  pub clean : is_clean before ≡ true
  pub waits : m.end ≡ end.Waiting → (run.end ≡ end.Waiting) × Declares m.list shown

abbrev pub OnlyDeclared : Device → (ℕ → Option ℕ) → (Start → List Turn → Bound → Run) → Type 0
OnlyDeclared device enters run =
    (start : Start) → IsStart start → (ts : List Turn) → AreTurns ts → (n : ℕ) → (b : Bound) × OnlyDeclares (machine_run device start ts n) (show enters (run start ts b).list) (run start ts b)

-- each call of the program has at most four arguments
abbrev pub CallsFew : (Start → List Turn → Bound → Run) → Type 0
CallsFew run = (start : Start) (ts : List Turn) (b : Bound) → AllHaveFewArguments (run start ts b).list

-- no run of the program has a stop that only a machine has
abbrev pub StopsAsProgram : (ℕ → Option ℕ) → (Start → List Turn → Bound → Run) → Type 0
StopsAsProgram enters run =
    (start : Start) → IsStart start → (ts : List Turn) → AreTurns ts → (b : Bound) → is_clean (seen_of enters (run start ts b)) ≡ true
