use Rattle.v8m_laws.proofs.Flags.{condition_compares}
use Rattle.v8m_laws.proofs.laws.conditions.Goals as goal

pub returns : goal.returns
returns c = condition_compares
