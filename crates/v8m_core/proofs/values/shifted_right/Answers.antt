use Rattle.std.proofs.Common.{sym, arith}
use Rattle.v8m_core.proofs.Shifts.{shifted_right_out}
use Rattle.v8m_core.proofs.values.shifted_right.Goals as goal

pub returns-else-k-lt32 : goal.returns-else-k-lt32
returns-else-k-lt32 c = sym (shifted_right_out c.args.a c.args.k (omega arith) c.if-k-lt32.false)
