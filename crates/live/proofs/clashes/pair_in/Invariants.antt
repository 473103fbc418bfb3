use Rattle.std.proofs.Common.{◌≡◌, drop}
use Rattle.live.specs.Clash as spec
use Rattle.live.proofs.clashes.pair_in.Given as goal

abbrev pub invariant-loop-i : goal.invariant-loop-i
invariant-loop-i l = spec.pair_in l.places l.vs ≡ spec.pair_in l.places (drop l.i l.vs)
