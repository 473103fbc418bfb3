use Rattle.check_laws.proofs.Layers.{typed_walk, value_walk}
use Rattle.check_laws.proofs.laws.expr_law.Goals as goal

pub returns-clause-operands : goal.returns-clause-operands
returns-clause-operands c e around s fit = (typed_walk e).goes around s fit

pub returns-clause-values : goal.returns-clause-values
returns-clause-values c e around s fit = value_walk e around s fit
