use Rattle.std.proofs.Common.{◌≡◌, [], drop}
use Rattle.c_derive.specs.Derivations.{pointer_parts}
use Rattle.c_derive.proofs.derivations.pointers.Given as goal

abbrev pub invariant-loop-star : goal.invariant-loop-star
invariant-loop-star l = pointer_parts [] l.stars ≡ pointer_parts l.done (drop l.star-index l.stars)
