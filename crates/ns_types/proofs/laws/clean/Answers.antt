use Rattle.std.proofs.Common.{refl}
use Rattle.ns_types.specs.Stops.{HasNoMachineStop}
use Rattle.ns_types.proofs.StopLaws.{shown_clean}
use Rattle.ns_types.proofs.EveryLaws.{run_holds}
use Rattle.ns_types.proofs.laws.clean.Goals as goal

pub returns-clause-events : goal.returns-clause-events
returns-clause-events c enters ms none = shown_clean enters ms none

pub returns-clause-runs : goal.returns-clause-runs
returns-clause-runs c enters enter keep turns start memory ts =
    run_holds HasNoMachineStop (record { started = tt; result = λ e x. tt; entry_point = refl; access = refl; return_fault = refl; astray = refl }) enters enter keep turns start memory ts
