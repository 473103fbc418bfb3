-- What the evaluator's functions answer, in the words of the meaning.
use Rattle.std.specs.Prelude.{◌≡◌, ℕ, Bool, List, drop, Option, Some, None, Result, Ok, Err}
use Rattle.cm_base.specs.declared.stop.Stop.{Stop}
use Rattle.ns_types.specs.declared.event.CEvent.TheVariants as c
use Rattle.ns_types.specs.declared.event.End.{End}
use Rattle.ns_types.specs.declared.event.End.TheVariants as end
use Rattle.ns_types.specs.CRun.{World, Outcome, Gave, Over, emit_plain, stop_or, turned}
use Rattle.ns_types.specs.Boundary.{acted}
use Rattle.ns_types.specs.Turns.{Turn}
use Rattle.c_mean.specs.Parts.{Out, Has, Ends}
use Rattle.c_world.specs.declared.halt.Halt.{Halt}
use Rattle.c_world.specs.declared.halt.Halt.TheVariants as halts
use Rattle.c_world.specs.declared.live.Live.{Live}
use Rattle.c_world.specs.declared.spot.Spot.{Spot}
use Rattle.c_world.specs.declared.spot.Spot.TheVariants as spots
use Rattle.c_mean.specs.Values as values

-- the world that the evaluator keeps, where the script has these turns
unfoldable pub seen : List Turn → Live → World
seen script x = record {
  turns = drop x.next script;
  entries = x.entries;
  events = x.events;
  peak = x.peak;
  memory = x.memory;
  msp_ns = x.msp_ns;
  psp_ns = x.psp_ns;
}

abbrev pub Stops : {A : Type 0} → Halt → World → Out A → Type 0
Stops halts.NoMemory w out = Unit {0}
Stops (halts.Over e) w out = out ≡ Ends e w

-- what a part gives with the locals and the world that it leaves, unless there is no memory
abbrev pub Leaves : {A : Type 0} → Result A Halt → List ℕ → World → Out A → Type 0
Leaves (Ok x) l w out = out ≡ Has x l w
Leaves (Err h) l w out = Stops h w out

abbrev pub IsOver : Halt → World → Outcome → Type 0
IsOver halts.NoMemory w out = Unit {0}
IsOver (halts.Over e) w out = out ≡ Over e w

-- the same of a call
abbrev pub Gives : Result ℕ Halt → World → Outcome → Type 0
Gives (Ok x) w out = out ≡ Gave x w
Gives (Err h) w out = IsOver h w out

-- the run stops, and the world has its event
abbrev pub IsStop : Halt → Stop → World → World → Type 0
IsStop halts.NoMemory why old new = Unit {0}
IsStop (halts.Over e) why old new = (e ≡ end.Stopped) × (new ≡ emit_plain (c.Stopped why) old)

-- a place, as the meaning has it
abbrev pub spot_of : Spot → values.Spot
spot_of (spots.Unplaced n) = values.Unplaced n
spot_of (spots.At a) = values.At a

-- what a part gives that is a place
abbrev pub Places : Result Spot Halt → List ℕ → World → Out values.Spot → Type 0
Places (Ok x) l w out = out ≡ Has (spot_of x) l w
Places (Err h) l w out = Stops h w out

abbrev pub IsSpot : Result Spot Halt → values.Spot → Type 0
IsSpot (Ok x) y = spot_of x ≡ y
IsSpot (Err halts.NoMemory) y = Unit {0}
IsSpot (Err (halts.Over e)) y = ⊥

-- where there was memory
abbrev pub IfGiven : {A : Type 0} → Result A Halt → A → Type 0
IfGiven (Ok x) y = x ≡ y
IfGiven (Err halts.NoMemory) y = Unit {0}
IfGiven (Err (halts.Over e)) y = ⊥

-- a world is this one now
abbrev pub Becomes : {A : Type 0} → Result A Halt → World → World → Type 0
Becomes (Ok x) new w = new ≡ w
Becomes (Err halts.NoMemory) new w = Unit {0}
Becomes (Err (halts.Over e)) new w = ⊥

-- a turn is taken from a world: its items have acted, or one of them stops
abbrev pub Turned : {A : Type 0} → Result A Halt → Turn → List Turn → World → World → Type 0
Turned (Ok x) t rest old new = (new ≡ turned t rest (acted t.items old.memory.ns_ram).ram old) × ((acted t.items old.memory.ns_ram).stop ≡ None)
Turned (Err halts.NoMemory) t rest old new = Unit {0}
Turned (Err (halts.Over e)) t rest old new =
    (o : Outcome) → stop_or (acted t.items old.memory.ns_ram).stop (turned t rest (acted t.items old.memory.ns_ram).ram old) o ≡ Over e new
