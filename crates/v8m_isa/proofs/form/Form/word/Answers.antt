use Rattle.std.proofs.Common.{refl, sym, ◌∙◌, arith}
use Rattle.v8m_isa.specs.Form.{word_of}
use Rattle.v8m_isa.proofs.RowLaws.{fields_put_more, fields_put_end}
use Rattle.v8m_isa.proofs.form.Form.word.Goals as goal

pub loop-k-init : goal.loop-k-init
unfolding word_of
loop-k-init g c = refl

pub loop-k-preserved : goal.loop-k-preserved
loop-k-preserved g c =
    fields_put_more c.args.self.now.operands c.args.numbers.now c.loop-k.k c.loop-k.word c.put-word.result c.field.result _ _ (omega arith) (omega arith) c.field.ensures.is c.put-word.ensures
    ∙ c.loop-k.invariant

pub returns : goal.returns
returns g c = sym (fields_put_end c.args.self.now.operands c.args.numbers.now c.loop-k.k c.loop-k.word (omega arith)) ∙ c.loop-k.invariant
