use Rattle.std.proofs.Common.{◌≡◌, false, replicate}
use Rattle.live.proofs.sets.nothing.Given as goal

abbrev pub invariant-loop-i : goal.invariant-loop-i
invariant-loop-i l = l.xs ≡ replicate l._i false
