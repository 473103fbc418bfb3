use Rattle.std.proofs.Common.{◌≡◌, drop}
use Rattle.link_check.specs.Checks.{veneers_differ}
use Rattle.link_check.proofs.checked.veneers_differ.Given as goal

abbrev pub invariant-loop-i : goal.invariant-loop-i
invariant-loop-i l = veneers_differ l.veneers ≡ veneers_differ (drop l.i l.veneers)
