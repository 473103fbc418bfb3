-- Runs of two programs behind the boundary that differ in their need of stack alone, where the second one needs no more.
use Rattle.std.specs.Prelude.{◌≡◌, ℕ, ◌≤◌, List}
use Rattle.ns_types.specs.CRun.{World, Outcome, Gave, Over, Run}

-- with another need
abbrev pub low : ℕ → World → World
low p w = record w { peak = p }

-- an outcome, and the same one with a need that is no greater
abbrev pub IsLow : Outcome → Outcome → Type 0
IsLow (Gave x w) o = (p : ℕ) × (p ≤ w.peak) × (o ≡ Gave x (low p w))
IsLow (Over e w) o = (p : ℕ) × (p ≤ w.peak) × (o ≡ Over e (low p w))

pub record Alike (a b : Outcome) : Type 0 where
  pub by : IsLow a b

-- bodies of entries, and what follows a hand-over, begun with a need that is no greater
abbrev pub AlikeBodies : (f g : ℕ → List ℕ → World → Outcome) → Type 0
AlikeBodies f g = (e : ℕ) (args : List ℕ) (w : World) (p : ℕ) → p ≤ w.peak → Alike (f e args w) (g e args (low p w))

abbrev pub AlikePhases : (f g : World → Outcome) → Type 0
AlikePhases f g = (w : World) (p : ℕ) → p ≤ w.peak → Alike (f w) (g (low p w))

-- whole runs: equal events with their marks, the same end, and a need that is no greater
pub record AlikeRuns (a b : Run) : Type 0 where
  pub list : b.list ≡ a.list
  pub end : b.end ≡ a.end
  pub peak : b.peak ≤ a.peak
