use Rattle.link_laws.proofs.RomLaws.{placed}
use Rattle.link_laws.proofs.laws.placed_law.Goals as goal

pub returns : goal.returns
returns c = placed
