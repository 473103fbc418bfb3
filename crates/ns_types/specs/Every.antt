-- What holds of each event of a run.
use Rattle.std.specs.Prelude.{◌≡◌, ℕ, Bool, true, List, [], ◌∷◌}
use Rattle.cm_base.specs.declared.stop.Stop.TheVariants.{EntryPoint, Access, ReturnFault, Astray}
use Rattle.ns_types.specs.declared.event.CEvent.{CEvent}
use Rattle.ns_types.specs.declared.event.CEvent.TheVariants as c
use Rattle.ns_types.specs.declared.event.Marked.{Marked}
use Rattle.ns_types.specs.CRun.{World, Outcome}
use Rattle.ns_types.specs.Bounds.{world_of}

-- it holds of the events of a list
abbrev pub EveryEvent : (CEvent → Type 0) → List Marked → Type 0
EveryEvent P [] = Unit {0}
EveryEvent P (m ∷ ms) = P m.event × EveryEvent P ms

-- an event passes a test
abbrev pub Passes : (CEvent → Bool) → CEvent → Type 0
Passes p e = p e ≡ true

-- it holds of the events that the boundary itself makes: the start, each result, and the stops of branches and items
pub record HoldsAtBoundary (P : CEvent → Type 0) : Type 0 where
  pub started : P c.Started
  pub result : (e r0 : ℕ) → P (c.Result e r0)
  pub entry_point : P (c.Stopped EntryPoint)
  pub access : P (c.Stopped Access)
  pub return_fault : P (c.Stopped ReturnFault)
  pub astray : P (c.Stopped Astray)

-- bodies of entries keep to it
pub record Keep (P : CEvent → Type 0) (enter : ℕ → List ℕ → World → Outcome) : Type 0 where
  pub by : (e : ℕ) (args : List ℕ) (w : World) → EveryEvent P w.events → EveryEvent P (world_of (enter e args w)).events
