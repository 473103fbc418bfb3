use Rattle.join_laws.proofs.Kept.{function_nodes_kept, placed_kept, slots_kept}
use Rattle.join_laws.proofs.laws.kept_law.Goals as goal

pub returns-clause-nodes : goal.returns-clause-nodes
returns-clause-nodes c numbers f = function_nodes_kept numbers f

pub returns-clause-slots : goal.returns-clause-slots
returns-clause-slots c numbers f = slots_kept numbers f

pub returns-clause-placed : goal.returns-clause-placed
returns-clause-placed c numbers f = placed_kept numbers f
