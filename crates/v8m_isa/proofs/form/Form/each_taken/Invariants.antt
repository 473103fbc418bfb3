use Rattle.std.proofs.Common.{◌≡◌, drop}
use Rattle.v8m_isa.specs.Form.{fields_of, all_taken}
use Rattle.v8m_isa.proofs.form.Form.each_taken.Given as goal

abbrev pub invariant-loop-k : goal.invariant-loop-k
invariant-loop-k g l = all_taken (drop l.k (fields_of l.self.operands)) (drop l.k l.numbers) ≡ all_taken (fields_of l.self.operands) l.numbers
