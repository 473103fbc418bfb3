use Rattle.std.proofs.Common.{◌≡◌, drop, None}
use Rattle.c_scope.specs.Lookup.{newest_from}
use Rattle.c_scope.proofs.lookup.newest.Given as goal

abbrev pub invariant-loop-bound : goal.invariant-loop-bound
invariant-loop-bound l = newest_from None l.names l.text ≡ newest_from l.found (drop l.bound-index l.names) l.text
