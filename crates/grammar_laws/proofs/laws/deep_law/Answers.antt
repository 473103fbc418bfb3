use Rattle.grammar_laws.proofs.UnitLaws.{too_deep_at}
use Rattle.grammar_laws.proofs.laws.deep_law.Goals as goal

pub returns : goal.returns
returns c = λ n ts all d left h. too_deep_at n ts all d left h
