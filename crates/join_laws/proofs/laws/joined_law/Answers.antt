use Rattle.join_laws.proofs.JoinedLaws.{joined_holds}
use Rattle.join_laws.proofs.laws.joined_law.Goals as goal

pub returns : goal.returns
returns c us p all numbered is = joined_holds us p all numbered is
