use Rattle.std.proofs.Common.{sym, ap, ◌∙◌, arith}
use Rattle.v8m_isa.specs.Form.{number_of}
use Rattle.v8m_isa.proofs.PieceLaws.{got_all_more, got_all_end}
use Rattle.v8m_isa.proofs.form.Field.got.Goals as goal

pub loop-piece-preserved : goal.loop-piece-preserved
loop-piece-preserved c =
    got_all_more c.args.self.now.pieces c.loop-piece.piece-index c.args.word c.loop-piece.bits c.got-bits.result _ (omega arith) c.got-bits.ensures
    ∙ c.loop-piece.invariant

pub returns : goal.returns
returns c =
    let ps = c.args.self.now.pieces in
    c.number_of.ensures
    ∙ ap (number_of c.args.self.now.kind) (sym (got_all_end ps c.loop-piece.piece-index c.args.word c.loop-piece.bits (omega arith)) ∙ c.loop-piece.invariant)
