use Rattle.std.proofs.Common.{sym, ◌∙◌, arith}
use Rattle.v8m_isa.proofs.DecodingLaws.{chosen_none, chosen_some}
use Rattle.v8m_isa.proofs.codec.found.Goals as goal

pub returns-in_err-opcode : goal.returns-in_err-opcode
returns-in_err-opcode c =
    c.from_residual.ensures ∙ sym (chosen_none c.args.first c.args.second (omega arith) (sym c.opcode_for.ensures ∙ c.in_err-opcode.was))

pub returns : goal.returns
returns c =
    c.read.ensures ∙ sym (chosen_some c.args.first c.args.second c.in_ok-opcode.opcode (omega arith) (sym c.opcode_for.ensures ∙ c.in_ok-opcode.was))
