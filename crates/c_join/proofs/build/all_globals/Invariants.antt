use Rattle.std.proofs.Common.{◌≡◌, ◌++◌, drop}
use Rattle.join_laws.specs.Keys.{per_unit}
use Rattle.join_laws.specs.Joined.{unit_globals}
use Rattle.c_join.proofs.build.all_globals.Given as goal

abbrev pub invariant-loop-u : goal.invariant-loop-u
invariant-loop-u l = l.done ++ per_unit unit_globals l.u-index (drop l.u-index l.units) ≡ per_unit unit_globals 0 l.units
