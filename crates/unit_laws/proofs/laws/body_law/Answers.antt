use Rattle.unit_laws.proofs.BodyLaws.{body_keeps}
use Rattle.unit_laws.proofs.laws.body_law.Goals as goal

pub returns : goal.returns
returns c b gives around s fit = body_keeps b gives around s fit
