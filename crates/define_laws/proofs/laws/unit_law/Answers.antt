use Rattle.define_laws.proofs.PartLaws.{parts_make}
use Rattle.define_laws.proofs.laws.unit_law.Goals as goal

pub returns : goal.returns
returns c ps all t is = parts_make ps all t is
