use Rattle.std.proofs.Common.{◌≡◌, take}
use Rattle.linker.specs.Table.{defined}
use Rattle.linker.proofs.define.defined.Given as goal

abbrev pub invariant-loop-s : goal.invariant-loop-s
invariant-loop-s l = l.names ≡ defined l.entries (take l.s-index l.all)
