use Rattle.std.proofs.Common.{◌≡◌, ◌≢◌, ◌++◌, sym, ap, ◌∙◌, append_assoc}
use Rattle.v8m_isa.specs.declared.instr.Code.{Code}
use Rattle.cm_base.specs.LittleEndian.{le16}
use Rattle.asm_fix.proofs.Joins.{wide_instr, narrow_instr}
use Rattle.asm_fix.proofs.fixing.put_instr.Goals as goal

pub returns-in_ok-put_half-2 : goal.returns-in_ok-put_half-2
returns-in_ok-put_half-2 c =
    let i = c.args.instr.now in
    let is = c.encode-code.ensures.is in
    let four : c.encode-code.result.size ≡ 4 = c.if-code-eq4.true in
    let bytes = wide_instr i c.encode-code.result.size (sym (ap (λ (k : Code). k.size) is)) four in
    c.in_ok-put_half-2.ensures ∙ ap (λ l. l ++ le16 c.encode-code.result.second) c.in_ok-put_half.ensures ∙ append_assoc c.args.bytes.now (le16 c.encode-code.result.first) (le16 c.encode-code.result.second)
    ∙ ap (λ (k : Code). c.args.bytes.now ++ (le16 k.first ++ le16 k.second)) is ∙ ap (λ l. c.args.bytes.now ++ l) (sym bytes)

pub returns-else-code-eq4 : goal.returns-else-code-eq4
returns-else-code-eq4 c =
    let i = c.args.instr.now in
    let is = c.encode-code.ensures.is in
    let ne : c.encode-code.result.size ≢ 4 = c.if-code-eq4.false in
    let bytes = narrow_instr i c.encode-code.result.size (sym (ap (λ (k : Code). k.size) is)) ne in
    c.in_ok-put_half.ensures ∙ ap (λ (k : Code). c.args.bytes.now ++ le16 k.first) is ∙ ap (λ l. c.args.bytes.now ++ l) (sym bytes)
