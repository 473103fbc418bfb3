use Rattle.std.proofs.Common.{◌≡◌, drop}
use Rattle.veneer_link.specs.Assign.{is_taken}
use Rattle.veneer_link.proofs.lists.is_taken.Given as goal

abbrev pub invariant-loop-v : goal.invariant-loop-v
invariant-loop-v l = is_taken l.veneers l.address ≡ is_taken (drop l.v-index l.veneers) l.address
