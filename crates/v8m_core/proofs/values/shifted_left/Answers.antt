use Rattle.std.proofs.Common.{sym}
use Rattle.v8m_core.proofs.Shifts.{shifted_left_out}
use Rattle.v8m_core.proofs.values.shifted_left.Goals as goal

pub returns-else-k-lt32 : goal.returns-else-k-lt32
returns-else-k-lt32 c = sym (shifted_left_out c.args.a c.args.k c.if-k-lt32.false)
