use Rattle.std.proofs.Common.{◌≡◌, drop}
use Rattle.link_check.specs.Checks.{names_differ}
use Rattle.link_check.proofs.checked.names_differ.Given as goal

abbrev pub invariant-loop-i : goal.invariant-loop-i
invariant-loop-i l = names_differ l.names ≡ names_differ (drop l.i l.names)
