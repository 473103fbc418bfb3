use Rattle.std.proofs.Common.{◌≡◌, take}
use Rattle.join_laws.specs.Keys.{unit_names}
use Rattle.c_join.proofs.steps.unit_names.Given as goal

abbrev pub invariant-loop-u : goal.invariant-loop-u
invariant-loop-u l = l.names.items ≡ unit_names (take l.u-index l.units)
