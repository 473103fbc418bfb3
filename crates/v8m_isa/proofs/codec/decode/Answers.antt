use Rattle.std.proofs.Common.{arith}
use Rattle.v8m_isa.proofs.DecodingLaws.{back, no_instr}
use Rattle.v8m_isa.proofs.codec.decode.Goals as goal

pub returns-clause-back : goal.returns-clause-back
returns-clause-back c = back c.args.first c.args.second c.found.result c.found.ensures (omega arith)

pub returns-clause-none : goal.returns-clause-none
returns-clause-none c = no_instr c.args.first c.args.second c.found.result c.found.ensures (omega arith)
