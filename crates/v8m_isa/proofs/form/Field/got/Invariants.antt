use Rattle.std.proofs.Common.{◌≡◌, drop, bit_or}
use Rattle.v8m_isa.specs.Form.{got_all}
use Rattle.v8m_isa.proofs.form.Field.got.Given as goal

abbrev pub invariant-loop-piece : goal.invariant-loop-piece
invariant-loop-piece l = bit_or l.bits (got_all (drop l.piece-index l.self.pieces) l.word) ≡ got_all l.self.pieces l.word
