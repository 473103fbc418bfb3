use Rattle.v8m_isa.proofs.PieceLaws.{put_is}
use Rattle.v8m_isa.proofs.form.Piece.put.Goals as goal

pub returns : goal.returns
returns c = put_is c.args.self.now c.args.bits c.requires
