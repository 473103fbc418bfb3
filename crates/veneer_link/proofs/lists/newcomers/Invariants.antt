use Rattle.std.proofs.Common.{◌≡◌, ◌++◌, drop}
use Rattle.veneer_link.specs.Assign.{newcomers}
use Rattle.veneer_link.proofs.lists.newcomers.Given as goal

abbrev pub invariant-loop-name : goal.invariant-loop-name
invariant-loop-name l = l.names ++ newcomers (drop l.name-index l.entries) l.old ≡ newcomers l.entries l.old
