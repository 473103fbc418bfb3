use Rattle.std.proofs.Common.{◌≡◌, take}
use Rattle.c_scope.specs.Refresh.{all_refreshed}
use Rattle.c_scope.proofs.refresh.+refresh.Given as goal

abbrev pub invariant-all_refreshed-loop-t : goal.invariant-all_refreshed-loop-t
invariant-all_refreshed-loop-t l = l.done ≡ all_refreshed l.structs (take l.t-index l.ts)
