use Rattle.std.proofs.Common.{◌≡◌, drop}
use Rattle.v8m_core.specs.Lists.{all_writable}
use Rattle.v8m_core.proofs.lists.all_writable.Given as goal

abbrev pub invariant-loop-n : goal.invariant-loop-n
invariant-loop-n l = all_writable l.list (drop l.n-index l.registers) l.a ≡ all_writable l.list l.registers l.at
