use Rattle.v8m_laws.proofs.Accesses.{load_same, load_apart, load_lt}
use Rattle.v8m_laws.proofs.laws.numbers.Goals as goal

pub returns-clause-same : goal.returns-clause-same
returns-clause-same c = load_same

pub returns-clause-apart : goal.returns-clause-apart
returns-clause-apart c = load_apart

pub returns-clause-word : goal.returns-clause-word
returns-clause-word c = load_lt
