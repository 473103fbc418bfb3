use Rattle.std.proofs.Common.{◌≡◌, drop}
use Rattle.std.specs.Prelude.{IsTrue}
use Rattle.v8m_core.specs.Lists.{all_loaded, all_readable}
use Rattle.v8m_core.proofs.lists.load_all.Given as goal

abbrev pub invariant-loop-n : goal.invariant-loop-n
invariant-loop-n l = record {
  loaded : all_loaded l.list (drop l.n-index l.registers) l.memory.device l.memory.memory l.a l.regs ≡ all_loaded l.list l.registers l.memory.device l.memory.memory l.at l.fn.regs;
  readable : IsTrue (all_readable l.list (drop l.n-index l.registers) l.a);
}
