use Rattle.join_laws.proofs.FaultLaws.{all_found}
use Rattle.join_laws.proofs.laws.undefined_law.Goals as goal

pub returns : goal.returns
returns c us none n u at = all_found us none n u at
