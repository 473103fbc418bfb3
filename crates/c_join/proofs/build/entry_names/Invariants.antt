use Rattle.std.proofs.Common.{◌≡◌, take}
use Rattle.join_laws.specs.Joined.{entry_names}
use Rattle.c_join.proofs.build.entry_names.Given as goal

abbrev pub invariant-loop-f : goal.invariant-loop-f
invariant-loop-f l = l.names ≡ entry_names (take l.f-index l.functions)
