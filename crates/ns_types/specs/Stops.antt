-- The stops that a program has, and those that only a machine has.
use Rattle.std.specs.Prelude.{◌≡◌, ℕ, Bool, true, false, not, ◌&&◌, List, [], ◌∷◌}
use Rattle.cm_base.specs.declared.stop.Stop.{Stop}
use Rattle.cm_base.specs.declared.stop.Stop.TheVariants.{Divide, Outside, Misaligned, DataStack, CallTarget, EntryPoint, Access, ReturnFault, Astray, StackLimit, Undefined, Unaligned, Unmapped, BadState}
use Rattle.ns_types.specs.declared.event.Event.{Event}
use Rattle.ns_types.specs.declared.event.Event.TheVariants as event
use Rattle.ns_types.specs.declared.event.CEvent.{CEvent}
use Rattle.ns_types.specs.declared.event.CEvent.TheVariants as c
use Rattle.ns_types.specs.declared.event.Marked.{Marked}
use Rattle.ns_types.specs.CRun.{World, Outcome}
use Rattle.ns_types.specs.Every.{EveryEvent, Keep}

-- the stops that only a machine has
abbrev pub is_machine_stop : Stop → Bool
is_machine_stop StackLimit = true
is_machine_stop Undefined = true
is_machine_stop Unaligned = true
is_machine_stop Unmapped = true
is_machine_stop BadState = true
is_machine_stop Divide = false
is_machine_stop Outside = false
is_machine_stop Misaligned = false
is_machine_stop DataStack = false
is_machine_stop CallTarget = false
is_machine_stop EntryPoint = false
is_machine_stop Access = false
is_machine_stop ReturnFault = false
is_machine_stop Astray = false

abbrev pub is_clean_event : Event → Bool
is_clean_event (event.Given v) = true
is_clean_event (event.Wrote at size value) = true
is_clean_event (event.Stopped x) = not (is_machine_stop x)

-- no stop that only a machine has
abbrev pub is_clean : List Event → Bool
is_clean [] = true
is_clean (e ∷ es) = is_clean_event e && is_clean es

-- an event of a program, which has none
abbrev pub HasNoMachineStop : CEvent → Type 0
HasNoMachineStop c.Started = Unit {0}
HasNoMachineStop (c.Wrote at size value) = Unit {0}
HasNoMachineStop (c.Result entry r0) = Unit {0}
HasNoMachineStop (c.Called target args) = Unit {0}
HasNoMachineStop (c.Stopped x) = is_machine_stop x ≡ false

abbrev pub AllHaveNoMachineStop : List Marked → Type 0
AllHaveNoMachineStop ms = EveryEvent HasNoMachineStop ms

-- bodies of entries keep to that
abbrev pub KeepClean : (ℕ → List ℕ → World → Outcome) → Type 0
KeepClean enter = Keep HasNoMachineStop enter
