use Rattle.join_laws.proofs.ProgramLaws.{program_holds}
use Rattle.join_laws.proofs.laws.program_law.Goals as goal

pub returns : goal.returns
returns c us all numbered e61 e62 e60 = program_holds us all numbered e61 e62 e60
