use Rattle.std.proofs.Common.{◌≡◌, ◌++◌, flat_map, take}
use Rattle.linker.specs.Passes.{text_part}
use Rattle.linker.proofs.parts.put_texts.Given as goal

abbrev pub invariant-loop-s : goal.invariant-loop-s
invariant-loop-s l = l.to ≡ l.initial.to ++ flat_map (text_part l.entries l.names) (take l.s-index l.all)
