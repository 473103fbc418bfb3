use Rattle.std.proofs.Common.{◌≡◌, drop}
use Rattle.join_laws.specs.Joined.{first_disputed}
use Rattle.c_join.proofs.disputed.first_disputed.Given as goal

abbrev pub invariant-loop-x : goal.invariant-loop-x
invariant-loop-x l = first_disputed l.before (drop l.x-index l.externs) ≡ first_disputed l.before l.externs
