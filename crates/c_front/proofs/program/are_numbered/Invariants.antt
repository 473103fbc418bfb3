use Rattle.std.proofs.Common.{◌≡◌, drop}
use Rattle.c_front.specs.Numbers.{all_numbered}
use Rattle.c_front.proofs.program.are_numbered.Given as goal

abbrev pub invariant-loop-i : goal.invariant-loop-i
invariant-loop-i l = all_numbered l.i (drop l.i l.units) ≡ all_numbered 0 l.units
