use Rattle.grammar_laws.proofs.Whole.{whole}
use Rattle.grammar_laws.proofs.laws.whole_law.Goals as goal

pub returns : goal.returns
returns c = λ n ts u rest e. whole n ts u rest e
