use Rattle.std.proofs.Common.{◌≡◌, drop}
use Rattle.link_laws.specs.Sites.{behind_texts}
use Rattle.linker.proofs.place.behind_texts.Given as goal

abbrev pub invariant-loop-object : goal.invariant-loop-object
invariant-loop-object l = behind_texts l.end (drop l.object-index l.objects) ≡ behind_texts l.at l.objects
