use Rattle.std.proofs.Common.{◌≡◌, ◌++◌, drop}
use Rattle.join_laws.specs.Keys.{per_unit}
use Rattle.join_laws.specs.Joined.{unit_functions}
use Rattle.c_join.proofs.build.all_functions.Given as goal

abbrev pub invariant-loop-i : goal.invariant-loop-i
invariant-loop-i l = l.done ++ per_unit (unit_functions l.defined.functions l.defined.globals) l.i (drop l.i l.units) ≡ per_unit (unit_functions l.defined.functions l.defined.globals) 0 l.units
