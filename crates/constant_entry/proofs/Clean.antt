-- No run of the program has a stop that only a machine has.
use Rattle.std.proofs.Common.{ℕ, zero, suc, List, refl, Option}
use Rattle.ns_types.specs.CRun.{World}
use Rattle.ns_types.specs.Bounds.{world_of}
use Rattle.ns_types.specs.Memory.{memory_of}
use Rattle.ns_types.specs.Stops.{HasNoMachineStop, AllHaveNoMachineStop, KeepClean}
use Rattle.ns_types.proofs.EveryLaws.{run_holds}
use Rattle.ns_turns.specs.Refines.{StopsAsProgram}
use Rattle.ns_turns.proofs.OnlyLaws as only_laws
use Rattle.constant_entry.specs.Meaning.{gives, constant_run}

keeps_clean : (n deep : ℕ) → KeepClean (gives n deep)
keeps_clean n deep = record { by = by deep }
  where
    by : (deep e : ℕ) (args : List ℕ) (w : World) → AllHaveNoMachineStop w.events → AllHaveNoMachineStop (world_of (gives n deep e args w)).events
    by zero e args w h = h
    by (suc deep) e args w h = h

pub stops_as_program : (enters : ℕ → Option ℕ) (n : ℕ) → StopsAsProgram enters (constant_run enters n)
stops_as_program enters n =
    only_laws.stops_as_program enters (constant_run enters n)
    (λ start ts b. run_holds HasNoMachineStop (record { started = tt; result = λ e x. tt; entry_point = refl; access = refl; return_fault = refl; astray = refl }) enters (gives n b.deep) (keeps_clean n b.deep) b.turns start (memory_of start) ts)
