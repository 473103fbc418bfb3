use Rattle.std.proofs.Common.{◌≡◌, take}
use Rattle.c_tree.specs.Limits.{capped}
use Rattle.join_laws.specs.Joined.{units_nodes}
use Rattle.c_join.proofs.build.units_nodes.Given as goal

abbrev pub invariant-loop-u : goal.invariant-loop-u
invariant-loop-u l = l.n ≡ capped (units_nodes (take l.u-index l.units))
