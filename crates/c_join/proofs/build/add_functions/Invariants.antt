use Rattle.std.proofs.Common.{◌≡◌, ◌++◌, map, take}
use Rattle.join_laws.specs.Renumber.{renumbered_function}
use Rattle.c_join.proofs.build.add_functions.Given as goal

abbrev pub invariant-loop-f : goal.invariant-loop-f
invariant-loop-f l = l.done ≡ l.fn.done ++ map (renumbered_function l.numbers) (take l.f-index l.functions)
