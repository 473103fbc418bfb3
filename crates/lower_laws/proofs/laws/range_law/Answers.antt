use Rattle.std.proofs.Common.{arith}
use Rattle.lower_laws.proofs.ProgramLaws.{all_ranged}
use Rattle.lower_laws.proofs.laws.range_law.Goals as goal

pub returns-clause-vars : goal.returns-clause-vars
returns-clause-vars c globals f = omega arith

pub returns-clause-numbers : goal.returns-clause-numbers
returns-clause-numbers c p good = all_ranged p good
