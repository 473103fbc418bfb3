use Rattle.std.proofs.Common.{◌≡◌, drop}
use Rattle.live.specs.Sets.{either, members_from, with_all}
use Rattle.live.proofs.sets.join.Given as goal

abbrev pub invariant-loop-i : goal.invariant-loop-i
invariant-loop-i l = either l.fn.xs l.more ≡ with_all l.xs (members_from l.i (drop l.i l.more))
