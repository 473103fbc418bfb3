use Rattle.ns_types.proofs.MarkLaws.{run_told, same_shown}
use Rattle.ns_types.proofs.laws.marks_follow.Goals as goal

pub returns-clause-told : goal.returns-clause-told
returns-clause-told c enters enter body turns start memory ts = run_told enters enter body turns start memory ts

pub returns-clause-same : goal.returns-clause-same
returns-clause-same c enters first a b n p q e = same_shown enters first a b n p q e
