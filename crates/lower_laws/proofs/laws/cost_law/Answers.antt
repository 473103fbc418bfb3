use Rattle.lower_laws.proofs.StmtCosts.{function_few}
use Rattle.lower_laws.proofs.laws.cost_law.Goals as goal

pub returns : goal.returns
returns c globals f = function_few globals f
