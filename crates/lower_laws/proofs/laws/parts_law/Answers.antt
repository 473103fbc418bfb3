use Rattle.std.proofs.Common.{refl}
use Rattle.c_mean.specs.Homes.{homes}
use Rattle.lower_laws.proofs.ProgramLaws.{units_same, contents_few}
use Rattle.lower_laws.proofs.laws.parts_law.Goals as goal

pub returns-clause-units : goal.returns-clause-units
returns-clause-units c p = units_same (homes p.globals) p.functions

pub returns-clause-entries : goal.returns-clause-entries
returns-clause-entries c p = refl

pub returns-clause-init : goal.returns-clause-init
returns-clause-init c p good = contents_few p good
