use Rattle.std.proofs.Common.{◌≡◌, take}
use Rattle.c_join.proofs.build.copy_locals.Given as goal

abbrev pub invariant-loop-x : goal.invariant-loop-x
invariant-loop-x l = l.done ≡ take l.x-index l.locals
