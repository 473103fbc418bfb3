use Rattle.join_laws.proofs.FaultLaws.{no_dispute}
use Rattle.join_laws.proofs.laws.disputed_law.Goals as goal

pub returns : goal.returns
returns c us none i j lt u v to at m x is static = no_dispute us none i j lt u v to at m x is static
