use Rattle.std.proofs.Common.{◌≡◌, drop}
use Rattle.v8m_core.specs.Lists.{all_readable}
use Rattle.v8m_core.proofs.lists.all_readable.Given as goal

abbrev pub invariant-loop-n : goal.invariant-loop-n
invariant-loop-n l = all_readable l.list (drop l.n-index l.registers) l.a ≡ all_readable l.list l.registers l.at
