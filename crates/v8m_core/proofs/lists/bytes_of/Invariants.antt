use Rattle.std.proofs.Common.{◌≡◌, ◌+◌, ◌*◌, ◌≤◌, drop}
use Rattle.v8m_core.specs.Lists.{bytes_of}
use Rattle.v8m_core.proofs.lists.bytes_of.Given as goal

abbrev pub invariant-loop-n : goal.invariant-loop-n
invariant-loop-n l = record {
  so_far : l.bytes + bytes_of l.list (drop l.n-index l.registers) ≡ bytes_of l.list l.registers;
  most : l.bytes ≤ 4 * l.n-index;
}
