use Rattle.v8m_isa.proofs.PieceLaws.{got_is}
use Rattle.v8m_isa.proofs.form.Piece.got.Goals as goal

pub returns : goal.returns
returns c = got_is c.args.self.now c.args.word c.requires
