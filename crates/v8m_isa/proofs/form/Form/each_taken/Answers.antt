use Rattle.std.proofs.Common.{◌≡◌, ◌+◌, ◌&&◌, true, false, sym, ap, ◌∙◌, arith, drop}
use Rattle.v8m_isa.specs.Form.{fields_of, all_taken}
use Rattle.v8m_isa.proofs.RowLaws.{all_taken_more, all_taken_end}
use Rattle.v8m_isa.proofs.form.Form.each_taken.Goals as goal

pub returns-then-not-takes : goal.returns-then-not-takes
returns-then-not-takes g c =
    let step = all_taken_more c.args.self.now.operands c.args.numbers.now c.loop-k.k c.takes.result c.field.result _ _ (omega arith) (omega arith) c.field.ensures.is c.takes.ensures in
    let no : c.takes.result ≡ false = grind arith in
    ap (λ t. t && all_taken (drop (c.loop-k.k + 1) (fields_of c.args.self.now.operands)) (drop (c.loop-k.k + 1) c.args.numbers.now)) (sym no) ∙ sym step ∙ c.loop-k.invariant

pub loop-k-preserved : goal.loop-k-preserved
loop-k-preserved g c =
    let step = all_taken_more c.args.self.now.operands c.args.numbers.now c.loop-k.k c.takes.result c.field.result _ _ (omega arith) (omega arith) c.field.ensures.is c.takes.ensures in
    let yes : c.takes.result ≡ true = grind arith in
    ap (λ t. t && all_taken (drop (c.loop-k.k + 1) (fields_of c.args.self.now.operands)) (drop (c.loop-k.k + 1) c.args.numbers.now)) (sym yes) ∙ sym step ∙ c.loop-k.invariant

pub returns : goal.returns
returns g c = sym (all_taken_end c.args.self.now.operands c.args.numbers.now c.loop-k.k (omega arith) (omega arith)) ∙ c.loop-k.invariant
