use Rattle.std.proofs.Common.{◌≡◌, ◌++◌, drop}
use Rattle.live.specs.Sets.{members_from}
use Rattle.live.proofs.sets.members.Given as goal

abbrev pub invariant-loop-i : goal.invariant-loop-i
invariant-loop-i l = members_from 0 l.xs ≡ l.vs ++ members_from l.i (drop l.i l.xs)
