use Rattle.link_laws.proofs.CodeLaws.{code_law}
use Rattle.link_laws.proofs.laws.code_law.Goals as goal

pub returns : goal.returns
returns c = code_law
