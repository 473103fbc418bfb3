use Rattle.std.proofs.Common.{◌≡◌, flat_map, take}
use Rattle.linker.specs.Passes.{symbols_of_veneer}
use Rattle.linker.proofs.gates.symbols_of.Given as goal

abbrev pub invariant-loop-v : goal.invariant-loop-v
invariant-loop-v l = l.symbols ≡ flat_map (symbols_of_veneer l.names) (take l.v-index l.veneers)
