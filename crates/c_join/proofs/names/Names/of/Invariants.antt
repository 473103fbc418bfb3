use Rattle.std.proofs.Common.{◌≡◌, take}
use Rattle.c_tree.specs.Conditions.{extern_names}
use Rattle.c_join.proofs.names.Names.of.Given as goal

abbrev pub invariant-loop-x : goal.invariant-loop-x
invariant-loop-x l = l.names ≡ extern_names (take l.x-index l.externs)
