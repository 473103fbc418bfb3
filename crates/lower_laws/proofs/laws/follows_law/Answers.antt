use Rattle.lower_laws.proofs.Calls.{follows}
use Rattle.lower_laws.proofs.laws.follows_law.Goals as goal

pub returns : goal.returns
returns c p good = follows p good
