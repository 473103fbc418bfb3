use Rattle.std.proofs.Common.{◌≡◌, drop, bit_or}
use Rattle.v8m_isa.specs.Form.{fields_of, fields_put, word_of, row}
use Rattle.v8m_isa.proofs.form.Form.word.Given as goal

abbrev pub invariant-loop-k : goal.invariant-loop-k
invariant-loop-k g l = bit_or l.word (fields_put (drop l.k (fields_of l.self.operands)) (drop l.k l.numbers)) ≡ word_of (row l.self) l.numbers
