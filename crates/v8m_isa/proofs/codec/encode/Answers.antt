use Rattle.std.proofs.Common.{◌≡◌, sym, ap, ◌∙◌, subst, Some}
use Rattle.v8m_isa.specs.declared.instr.Code.{Code}
use Rattle.v8m_isa.specs.Decoding.{decode_of}
use Rattle.v8m_isa.proofs.DecodingLaws.{decode_of-code_of, size-code_of, second-code_of_narrow}
use Rattle.v8m_isa.proofs.codec.encode.Goals as goal

pub returns-clause-back : goal.returns-clause-back
returns-clause-back c =
    let i = c.args.i.now in
    subst (λ (r : Code). decode_of r.first r.second ≡ Some (record { instr = c.args.i.now; size = r.size })) (sym c.code.ensures)
    (decode_of-code_of i c.requires ∙ ap (λ n. Some (record { instr = c.args.i.now; size = n })) (sym (size-code_of i)))

pub returns-clause-narrow : goal.returns-clause-narrow
returns-clause-narrow c =
    let i = c.args.i.now in
    λ e. ap (λ (r : Code). r.second) c.code.ensures ∙ second-code_of_narrow i c.requires (sym (size-code_of i) ∙ ap (λ (r : Code). r.size) (sym c.code.ensures) ∙ e)
