use Rattle.std.proofs.Common.{◌≡◌, take}
use Rattle.linker.specs.Table.{veneer_names}
use Rattle.linker.proofs.define.veneer_names.Given as goal

abbrev pub invariant-loop-v : goal.invariant-loop-v
invariant-loop-v l = l.names ≡ veneer_names (take l.v-index l.veneers)
