-- What a larger bound changes of a run behind the boundary.
use Rattle.std.specs.Prelude.{◌≡◌, ◌≢◌, ℕ, ◌≤◌, Bool, true, false, List}
use Rattle.ns_types.specs.declared.event.Bound.{Bound}
use Rattle.ns_types.specs.declared.event.End.TheVariants as end
use Rattle.ns_types.specs.CRun.{World, Outcome, Gave, Over, Run}
use Rattle.ns_types.specs.Prefix.{IsFront}

abbrev pub world_of : Outcome → World
world_of (Gave x w) = w
world_of (Over e w) = w

abbrev pub is_spent : Outcome → Bool
is_spent (Gave x w) = false
is_spent (Over end.Spent w) = true
is_spent (Over end.Stopped w) = false
is_spent (Over end.Waiting w) = false

-- only events are added
pub record Adds (w : World) (o : Outcome) : Type 0 where
  pub front : IsFront w.events (world_of o).events

-- the events of a are a front of those of b, and where the bound wasn't used up both are one
pub record Reaches (a b : Outcome) : Type 0 where
  pub front : IsFront (world_of a).events (world_of b).events
  pub same : is_spent a ≡ false → b ≡ a

-- the bodies of entries under each bound
abbrev pub Meaning : Type 0
Meaning = Bound → ℕ → List ℕ → World → Outcome

abbrev pub IsWithin : Bound → Bound → Type 0
IsWithin a b = (a.turns ≤ b.turns) × (a.deep ≤ b.deep)

-- bodies only add events, and a larger bound only lets them go further
pub record GoesFurther (meaning : Meaning) : Type 0 where
  pub adds : (b : Bound) (e : ℕ) (args : List ℕ) (w : World) → Adds w (meaning b e args w)
  pub more : (a b : Bound) → IsWithin a b → (e : ℕ) (args : List ℕ) (w : World) → Reaches (meaning a e args w) (meaning b e args w)

-- the same of whole runs
pub record Extends (a b : Run) : Type 0 where
  pub front : IsFront a.list b.list
  pub same : a.end ≢ end.Spent → b ≡ a
