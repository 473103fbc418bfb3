use Rattle.std.proofs.Common.{sym, ap, ◌∙◌, arith}
use Rattle.v8m_isa.specs.Form.{put_all}
use Rattle.v8m_isa.proofs.PieceLaws.{put_all_more, put_all_end}
use Rattle.v8m_isa.proofs.form.Field.put.Goals as goal

pub loop-piece-preserved : goal.loop-piece-preserved
loop-piece-preserved c =
    put_all_more c.args.self.now.pieces c.loop-piece.piece-index c.bits_of-bits.result c.loop-piece.word c.put-word.result _ (omega arith) c.put-word.ensures
    ∙ c.loop-piece.invariant

pub returns : goal.returns
returns c =
    let ps = c.args.self.now.pieces in
    sym (put_all_end ps c.loop-piece.piece-index c.bits_of-bits.result c.loop-piece.word (omega arith)) ∙ c.loop-piece.invariant ∙ ap (put_all ps) c.bits_of-bits.ensures
