use Rattle.std.proofs.Common.{◌≡◌, drop}
use Rattle.link_check.specs.Checks.{are_apart}
use Rattle.link_check.proofs.objects.are_apart.Given as goal

abbrev pub invariant-loop-r : goal.invariant-loop-r
invariant-loop-r l = are_apart 0 l.relocs ≡ are_apart l.end (drop l.r-index l.relocs)
