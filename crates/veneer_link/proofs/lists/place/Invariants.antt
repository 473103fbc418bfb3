use Rattle.std.proofs.Common.{◌≡◌, ◌++◌, drop}
use Rattle.veneer_link.specs.Assign.{placed}
use Rattle.veneer_link.proofs.lists.place.Given as goal

abbrev pub invariant-loop-i : goal.invariant-loop-i
invariant-loop-i l = l.to ++ placed (drop l.i l.names) (drop l.i l.places) ≡ l.initial.to ++ placed l.names l.places
