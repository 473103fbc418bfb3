use Rattle.std.proofs.Common.{◌≡◌, drop}
use Rattle.veneer_link.specs.Assign.{is_among}
use Rattle.veneer_link.proofs.lists.is_among.Given as goal

abbrev pub invariant-loop-n : goal.invariant-loop-n
invariant-loop-n l = is_among l.names l.name ≡ is_among (drop l.n-index l.names) l.name
