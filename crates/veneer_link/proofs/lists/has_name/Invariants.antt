use Rattle.std.proofs.Common.{◌≡◌, drop}
use Rattle.veneer_link.specs.Assign.{has_name}
use Rattle.veneer_link.proofs.lists.has_name.Given as goal

abbrev pub invariant-loop-v : goal.invariant-loop-v
invariant-loop-v l = has_name l.veneers l.name ≡ has_name (drop l.v-index l.veneers) l.name
