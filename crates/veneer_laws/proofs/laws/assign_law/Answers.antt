use Rattle.veneer_laws.proofs.Assigned.{assigned}
use Rattle.veneer_laws.proofs.laws.assign_law.Goals as goal

pub returns : goal.returns
returns c = assigned
