use Rattle.std.proofs.Common.{◌≡◌, take, fold}
use Rattle.linker.specs.Table.{with_symbol}
use Rattle.linker.proofs.define.add_object.Given as goal

abbrev pub invariant-loop-symbol : goal.invariant-loop-symbol
invariant-loop-symbol l = l.names ≡ fold (with_symbol l.entries l.s) l.initial.names (take l.symbol-index l.s.object.symbols)
