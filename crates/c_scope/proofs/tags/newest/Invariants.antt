use Rattle.std.proofs.Common.{◌≡◌, drop}
use Rattle.c_scope.specs.Tags.{newest_from}
use Rattle.c_scope.proofs.tags.newest.Given as goal

abbrev pub invariant-loop-bound : goal.invariant-loop-bound
invariant-loop-bound l = newest_from l.fn.so_far l.tags l.text ≡ newest_from l.found (drop l.bound-index l.tags) l.text
