use Rattle.std.proofs.Common.{◌≡◌, take}
use Rattle.veneer_link.proofs.lists.copies.Given as goal

abbrev pub invariant-loop-v : goal.invariant-loop-v
invariant-loop-v l = l.list ≡ take l.v-index l.veneers
