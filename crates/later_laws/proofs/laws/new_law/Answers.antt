use Rattle.later_laws.proofs.LaterLaws.{later_new}
use Rattle.later_laws.proofs.laws.new_law.Goals as goal

pub returns : goal.returns
returns c s k new free = later_new s k new free
