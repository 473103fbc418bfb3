use Rattle.grammar_laws.proofs.OnlyOne.{one_unit}
use Rattle.grammar_laws.proofs.laws.only_one.Goals as goal

pub returns : goal.returns
returns c = λ ts a b d e. one_unit ts a b d e
