use Rattle.std.proofs.Common.{◌≡◌, ◌++◌}
use Rattle.std.specs.Vec.Iter.{into_iter_items}
use Rattle.link_laws.specs.Sites.{behind_texts, behind_inits, sited_from}
use Rattle.linker.proofs.place.sited_from.Given as goal

abbrev pub invariant-loop-object : goal.invariant-loop-object
invariant-loop-object l = record {
  all : l.all ++ sited_from l.text_at l.init_at (into_iter_items l.object-iterator) ≡ sited_from l.first_text l.first_init l.fn.objects;
  texts : behind_texts l.text_at (into_iter_items l.object-iterator) ≡ behind_texts l.first_text l.fn.objects;
  inits : behind_inits l.init_at (into_iter_items l.object-iterator) ≡ behind_inits l.first_init l.fn.objects;
}
