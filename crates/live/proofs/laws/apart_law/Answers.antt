use Rattle.live.proofs.Rising.{no_clash}
use Rattle.live.proofs.laws.apart_law.Goals as goal

pub returns : goal.returns
returns c f places a = no_clash f places a
