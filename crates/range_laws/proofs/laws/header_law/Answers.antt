use Rattle.range_laws.proofs.HeaderLaws.{include_law, nothing_fits, nothing_sound}
use Rattle.range_laws.proofs.laws.header_law.Goals as goal

pub returns-clause-start : goal.returns-clause-start
returns-clause-start c = (nothing_fits, nothing_sound)

pub returns-clause-headers : goal.returns-clause-headers
returns-clause-headers c h place s fit = include_law h place s fit
