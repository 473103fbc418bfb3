use Rattle.unit_laws.proofs.FunctionLaws.{function_at_end}
use Rattle.unit_laws.proofs.laws.function_law.Goals as goal

pub returns : goal.returns
returns c f s t h many within = function_at_end f s t h many within
