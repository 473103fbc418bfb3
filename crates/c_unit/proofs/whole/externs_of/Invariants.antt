use Rattle.std.proofs.Common.{◌≡◌, take}
use Rattle.c_define.specs.Units as spec
use Rattle.c_unit.proofs.whole.externs_of.Given as goal

abbrev pub invariant-loop-one : goal.invariant-loop-one
invariant-loop-one l = l.all ≡ spec.externs_of (take l.one-index l.known)
