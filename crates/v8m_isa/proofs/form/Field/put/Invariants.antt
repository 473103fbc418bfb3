use Rattle.std.proofs.Common.{◌≡◌, drop, bit_or}
use Rattle.v8m_isa.specs.Form.{put_all}
use Rattle.v8m_isa.proofs.form.Field.put.Given as goal

abbrev pub invariant-loop-piece : goal.invariant-loop-piece
invariant-loop-piece l = bit_or l.word (put_all (drop l.piece-index l.self.pieces) l.bits) ≡ put_all l.self.pieces l.bits
