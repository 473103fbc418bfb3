use Rattle.std.proofs.Common.{◌≡◌, drop}
use Rattle.std.specs.Prelude.{IsTrue}
use Rattle.v8m_core.specs.Lists.{all_stored, all_writable}
use Rattle.v8m_core.proofs.lists.store_all.Given as goal

abbrev pub invariant-loop-n : goal.invariant-loop-n
invariant-loop-n l = record {
  stored : all_stored l.list (drop l.n-index l.registers) l.regs l.a l.memory.memory ≡ all_stored l.list l.registers l.regs l.at l.fn.memory.memory;
  writable : IsTrue (all_writable l.list (drop l.n-index l.registers) l.a);
  rest : l.memory ≡ record l.fn.memory { memory = l.memory.memory };
}
