use Rattle.std.proofs.Common.{◌≡◌, [], drop, take}
use Rattle.join_laws.specs.Joined.{disputed}
use Rattle.c_join.proofs.disputed.disputed.Given as goal

abbrev pub invariant-loop-i : goal.invariant-loop-i
invariant-loop-i l = disputed (take l.i l.units) (drop l.i l.units) ≡ disputed [] l.units
