use Rattle.later_laws.proofs.LaterLaws.{later_set}
use Rattle.later_laws.proofs.laws.set_law.Goals as goal

pub returns : goal.returns
returns c s n k y is f = later_set s n k y is f
