use Rattle.veneer_laws.proofs.Kept.{keep}
use Rattle.veneer_laws.proofs.laws.keep_law.Goals as goal

pub returns : goal.returns
returns c = keep
