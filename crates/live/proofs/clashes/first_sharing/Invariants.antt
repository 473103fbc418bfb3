use Rattle.std.proofs.Common.{◌≡◌, drop}
use Rattle.live.specs.Clash as spec
use Rattle.live.proofs.clashes.first_sharing.Given as goal

abbrev pub invariant-loop-w : goal.invariant-loop-w
invariant-loop-w l = spec.first_sharing l.places l.v l.vs ≡ spec.first_sharing l.places l.v (drop l.w-index l.vs)
