use Rattle.std.proofs.Common.{◌≡◌}
use Rattle.live.specs.Sets.{with_first}
use Rattle.live.proofs.sets.put_first.Given as goal

abbrev pub invariant-loop-i : goal.invariant-loop-i
invariant-loop-i l = l.xs ≡ with_first l.i l.fn.xs
