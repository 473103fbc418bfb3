use Rattle.ns_types.specs.Every.{Passes}
use Rattle.ns_types.proofs.EveryLaws.{holds_phase, run_holds}
use Rattle.ns_types.proofs.laws.every_event.Goals as goal

pub returns-clause-runs : goal.returns-clause-runs
returns-clause-runs c p at enters enter keep turns start memory ts = run_holds (Passes p) at enters enter keep turns start memory ts

pub returns-clause-phases : goal.returns-clause-phases
returns-clause-phases c p at enters enter keep turns fuel w h = (holds_phase (Passes p) at enters enter keep turns fuel w h).by
