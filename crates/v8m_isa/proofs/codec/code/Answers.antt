use Rattle.std.proofs.Common.{ap, ◌∙◌}
use Rattle.v8m_isa.specs.Form.{row_code}
use Rattle.v8m_isa.specs.Rows.{row_of, opcode_of}
use Rattle.v8m_isa.proofs.TableLaws.{row_code_of}
use Rattle.v8m_isa.proofs.Encodings.{code_is}
use Rattle.v8m_isa.proofs.codec.code.Goals as goal

pub returns : goal.returns
unfolding row_code_of
returns c =
    let i = c.args.i.now in
    let numbers = c.parts_of-opcode.result.1 in
    c.code.ensures
    ∙ ap (λ r. row_code r numbers) c.form_of.ensures
    ∙ ap (λ o. row_code (row_of o) numbers) c.parts_of-opcode.ensures.row
    ∙ ap (row_code (row_of (opcode_of i))) c.parts_of-opcode.ensures.numbers
    ∙ code_is i c.requires
