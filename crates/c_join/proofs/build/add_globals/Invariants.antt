use Rattle.std.proofs.Common.{◌≡◌, ◌++◌, take}
use Rattle.c_join.proofs.build.add_globals.Given as goal

abbrev pub invariant-loop-g : goal.invariant-loop-g
invariant-loop-g l = l.done ≡ l.fn.done ++ take l.g-index l.globals
