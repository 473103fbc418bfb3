use Rattle.std.proofs.Common.{◌≡◌, drop}
use Rattle.link_laws.specs.Rom.{veneer_at}
use Rattle.linker.proofs.gates.veneer_at.Given as goal

abbrev pub invariant-loop-v : goal.invariant-loop-v
invariant-loop-v l = veneer_at l.veneers l.at ≡ veneer_at (drop l.v-index l.veneers) l.at
