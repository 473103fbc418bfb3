use Rattle.std.proofs.Common.{◌≡◌, drop}
use Rattle.c_check.specs.Formed.{star_attributes}
use Rattle.c_check.proofs.formed.star_attributes.Given as goal

-- what is left to read answers as the whole
abbrev pub invariant-loop-star : goal.invariant-loop-star
invariant-loop-star l = star_attributes l.stars l.fn.so_far ≡ star_attributes (drop l.star-index l.stars) l.all
