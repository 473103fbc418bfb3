use Rattle.later_laws.proofs.LaterLaws.{kept_later, kept_trans, later_trans}
use Rattle.later_laws.proofs.laws.then_law.Goals as goal

pub returns-clause-laters : goal.returns-clause-laters
returns-clause-laters c s t u f g = later_trans s t u f g

pub returns-clause-kept : goal.returns-clause-kept
returns-clause-kept c s t u f g = kept_trans s t u f g

pub returns-clause-files : goal.returns-clause-files
returns-clause-files c s t h = kept_later s t h
