use Rattle.std.proofs.Common.{◌≡◌, drop}
use Rattle.veneer_link.specs.Assign.{first_gone}
use Rattle.veneer_link.proofs.placing.first_gone.Given as goal

abbrev pub invariant-loop-v : goal.invariant-loop-v
invariant-loop-v l = first_gone l.entries l.old ≡ first_gone l.entries (drop l.v-index l.old)
