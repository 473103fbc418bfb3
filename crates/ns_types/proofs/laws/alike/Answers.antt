use Rattle.ns_types.proofs.AlikeLaws.{alike_phase, runs_alike}
use Rattle.ns_types.proofs.laws.alike.Goals as goal

pub returns-clause-phases : goal.returns-clause-phases
returns-clause-phases c enters one two same turns fuel = alike_phase enters one two same turns fuel

pub returns-clause-runs : goal.returns-clause-runs
returns-clause-runs c enters one two same turns start memory ts = runs_alike enters one two same turns start memory ts
