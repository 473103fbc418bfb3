use Rattle.grammar_laws.proofs.UnitLaws.{refused}
use Rattle.grammar_laws.proofs.laws.refused_law.Goals as goal

pub returns : goal.returns
returns c = λ n ts all left e d. refused n ts all left e d
