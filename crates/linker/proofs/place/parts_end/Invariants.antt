use Rattle.std.proofs.Common.{◌≡◌, take, fold}
use Rattle.link_laws.specs.Sites.{texts_end, end_of}
use Rattle.linker.proofs.place.parts_end.Given as goal

abbrev pub invariant-loop-s : goal.invariant-loop-s
invariant-loop-s l = l.end ≡ fold (λ e s. end_of e s.init_at s.object.init) (texts_end l.all) (take l.s-index l.all)
