use Rattle.v8m_laws.proofs.Operators.{shift_left_is, shift_right_is, signed_shift_right_is}
use Rattle.v8m_laws.proofs.laws.shifts.Goals as goal

pub returns-clause-left : goal.returns-clause-left
returns-clause-left c = shift_left_is

pub returns-clause-right : goal.returns-clause-right
returns-clause-right c = shift_right_is

pub returns-clause-signed_right : goal.returns-clause-signed_right
returns-clause-signed_right c = signed_shift_right_is
