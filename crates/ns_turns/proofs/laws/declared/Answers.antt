use Rattle.ns_turns.proofs.DeclareLaws.{declares}
use Rattle.ns_turns.proofs.laws.declared.Goals as goal

pub returns : goal.returns
returns c device enters run only few = declares device enters run only few
