use Rattle.std.proofs.Common.{◌∙◌, arith}
use Rattle.std.proofs.lemmas.List.{length-set}
use Rattle.v8m_isa.proofs.RowLaws.{fields_got_more}
use Rattle.v8m_isa.proofs.form.Form.numbers.Goals as goal

pub loop-k-preserved : goal.loop-k-preserved
loop-k-preserved g c =
    record {
      all = length-set c.loop-k.numbers c.loop-k.k c.got.result ∙ c.loop-k.invariant.all;
      done = fields_got_more c.args.self.now.operands c.loop-k.numbers c.args.word c.loop-k.k c.got.result c.field.result _ (omega arith) c.loop-k.invariant.all c.field.ensures.is c.got.ensures c.loop-k.invariant.done;
    }
