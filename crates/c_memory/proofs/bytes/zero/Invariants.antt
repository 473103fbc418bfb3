use Rattle.std.proofs.Common.{◌≡◌, ◌+◌}
use Rattle.c_memory.specs.Zeros.{zeroed}
use Rattle.c_memory.proofs.bytes.zero.Given as goal

abbrev pub invariant-loop-left : goal.invariant-loop-left
invariant-loop-left l = record {
  counted : l.i + l.left ≡ l.at + l.n;
  so_far : zeroed l.i l.left l.bytes ≡ zeroed l.at l.n l.fn.bytes;
}

abbrev pub decreases-loop-left : goal.decreases-loop-left
decreases-loop-left l = l.left
