use Rattle.std.proofs.Common.{◌≡◌, take, map}
use Rattle.linker.specs.Table.{symbol_place}
use Rattle.linker.proofs.define.places_of.Given as goal

abbrev pub invariant-loop-symbol : goal.invariant-loop-symbol
invariant-loop-symbol l = l.places ≡ map (symbol_place l.entries l.names l.s) (take l.symbol-index l.s.object.symbols)
