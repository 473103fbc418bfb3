-- No event depends on what Secure memory holds when the device is reset.
use Rattle.std.specs.Prelude.{◌≡◌, ◌≢◌, ℕ, ◌≤◌, ◌⊎◌, List}
use Rattle.ns_types.specs.declared.event.End.TheVariants as end
use Rattle.ns_types.specs.declared.event.Events.{Events}
use Rattle.ns_types.specs.declared.event.Bound.{Bound}
use Rattle.ns_types.specs.Turns.{Turn, AreTurns}
use Rattle.ns_types.specs.declared.turn.Start.{Start}
use Rattle.ns_types.specs.State.{Device}
use Rattle.ns_types.specs.CRun.{Run}
use Rattle.ns_types.specs.Prefix.{IsFront}
use Rattle.ns_types.specs.Memory.{IsStart}
use Rattle.ns_types.specs.SecureRam.{room}
use Rattle.ns_turns.specs.Run.{machine_run}
use Rattle.ns_turns.specs.TwoWorlds.{SameOutside}

-- The events of one run begin with those of the other, and runs that both are over are equal.
pub record SameSoFar (a b : Events) : Type 0 where
  pub front : IsFront a.list b.list ⊎ IsFront b.list a.list
  pub over : a.end ≢ end.Spent → b.end ≢ end.Spent → a ≡ b

-- So are the machine's runs, for any two numbers of steps, over two starts with equal Non-secure memory.
abbrev pub Unseen : Device → Type 0
Unseen device =
    (a b : Start) → IsStart a → IsStart b → SameOutside a b → (ts : List Turn) → AreTurns ts → (i j : ℕ) → SameSoFar (machine_run device a ts i) (machine_run device b ts j)

-- the program does the same over two such starts
abbrev pub IgnoresSecure : (Start → List Turn → Bound → Run) → Type 0
IgnoresSecure run =
    (a b : Start) → IsStart a → IsStart b → SameOutside a b → (ts : List Turn) → AreTurns ts → (c : Bound) → run a ts c ≡ run b ts c

-- the program never needs more stack than there is
abbrev pub HasRoom : (Start → List Turn → Bound → Run) → Type 0
HasRoom run = (start : Start) → IsStart start → (ts : List Turn) → AreTurns ts → (b : Bound) → (run start ts b).peak ≤ room
