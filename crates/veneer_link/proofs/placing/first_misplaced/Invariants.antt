use Rattle.std.proofs.Common.{◌≡◌, take, drop}
use Rattle.veneer_link.specs.Assign.{first_misplaced, misplaced_after}
use Rattle.veneer_link.proofs.placing.first_misplaced.Given as goal

abbrev pub invariant-loop-i : goal.invariant-loop-i
invariant-loop-i l = first_misplaced l.old ≡ misplaced_after (take l.i l.old) (drop l.i l.old)
