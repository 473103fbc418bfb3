use Rattle.std.proofs.Common.{◌≡◌, drop}
use Rattle.live.specs.Clash as spec
use Rattle.live.proofs.clashes.least_from.Given as goal

abbrev pub invariant-loop-p : goal.invariant-loop-p
invariant-loop-p l = spec.least_from l.places l.fn.found l.points ≡ spec.least_from l.places l.least (drop l.p-index l.points)
