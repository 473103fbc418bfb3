use Rattle.v8m_laws.proofs.Stack.{push_limit, lower_limit, call_limit}
use Rattle.v8m_laws.proofs.laws.stack_limit.Goals as goal

pub returns-clause-push : goal.returns-clause-push
returns-clause-push c = push_limit

pub returns-clause-lower : goal.returns-clause-lower
returns-clause-lower c = lower_limit

pub returns-clause-call : goal.returns-clause-call
returns-clause-call c = call_limit
