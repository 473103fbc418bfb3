use Rattle.grammar_laws.proofs.UnitLaws.{complete}
use Rattle.grammar_laws.proofs.laws.complete_law.Goals as goal

pub returns : goal.returns
returns c = λ n ts all d h. complete n ts all d h
