use Rattle.c_front.proofs.OneLaws.{one_front}
use Rattle.c_front.proofs.laws.one_front.Goals as goal

pub returns : goal.returns
returns c = λ sources a b p q. one_front sources a b p q
