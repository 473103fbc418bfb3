use Rattle.std.proofs.Common.{◌≡◌, take, length}
use Rattle.v8m_isa.specs.Form.{fields_of, fields_got}
use Rattle.v8m_isa.proofs.form.Form.numbers.Given as goal

abbrev pub invariant-loop-k : goal.invariant-loop-k
invariant-loop-k g l = record { all : length l.numbers ≡ length l.self.operands; done : take l.k l.numbers ≡ take l.k (fields_got (fields_of l.self.operands) l.word) }
