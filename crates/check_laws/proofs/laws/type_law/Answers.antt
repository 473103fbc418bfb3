use Rattle.check_laws.proofs.Layers.{type_name_walk}
use Rattle.check_laws.proofs.laws.type_law.Goals as goal

pub returns : goal.returns
returns c n around s fit = (type_name_walk n).goes around s fit
