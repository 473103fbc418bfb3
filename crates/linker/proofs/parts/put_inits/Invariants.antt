use Rattle.std.proofs.Common.{◌≡◌, ◌++◌, flat_map, take}
use Rattle.link_laws.specs.Rom.{init_part}
use Rattle.linker.proofs.parts.put_inits.Given as goal

abbrev pub invariant-loop-s : goal.invariant-loop-s
invariant-loop-s l = l.to ≡ l.initial.to ++ flat_map init_part (take l.s-index l.all)
