use Rattle.std.proofs.Common.{ap, ◌∙◌}
use Rattle.v8m_isa.specs.Form.{row_takes}
use Rattle.v8m_isa.specs.Rows.{row_of, opcode_of}
use Rattle.v8m_isa.proofs.TableLaws.{taken_of}
use Rattle.v8m_isa.proofs.Encodings.{taken_is}
use Rattle.v8m_isa.proofs.codec.in_range.Goals as goal

pub returns : goal.returns
unfolding taken_of
returns c =
    let i = c.args.i.now in
    let numbers = c.parts_of-opcode.result.1 in
    c.takes.ensures
    ∙ ap (λ r. row_takes r numbers) c.form_of.ensures
    ∙ ap (λ o. row_takes (row_of o) numbers) c.parts_of-opcode.ensures.row
    ∙ ap (row_takes (row_of (opcode_of i))) c.parts_of-opcode.ensures.numbers
    ∙ taken_is i
