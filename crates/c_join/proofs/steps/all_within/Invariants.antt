use Rattle.std.proofs.Common.{All, take}
use Rattle.c_tree.specs.Conditions.{IsUnit}
use Rattle.c_join.proofs.steps.all_within.Given as goal

abbrev pub invariant-loop-u : goal.invariant-loop-u
invariant-loop-u l = All IsUnit (take l.u-index l.units)
