use Rattle.c_front.proofs.SaidLaws.{Reads}
use Rattle.c_front.proofs.units.units_of.Given as goal

abbrev pub invariant-loop-i : goal.invariant-loop-i
invariant-loop-i l = Reads l.sources l.i l.units
