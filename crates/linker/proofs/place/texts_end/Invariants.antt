use Rattle.std.proofs.Common.{◌≡◌, take}
use Rattle.link_laws.specs.Sites.{texts_end}
use Rattle.linker.proofs.place.texts_end.Given as goal

abbrev pub invariant-loop-s : goal.invariant-loop-s
invariant-loop-s l = l.end ≡ texts_end (take l.s-index l.all)
