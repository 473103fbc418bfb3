use Rattle.std.proofs.Common.{◌≡◌, length, take}
use Rattle.link_laws.specs.Resolve.{linked_by}
use Rattle.linker.proofs.text.linked_text.Given as goal

abbrev pub invariant-loop-r : goal.invariant-loop-r
invariant-loop-r l = record {
  linked : l.linked.items ≡ linked_by l.text_at l.places l.text (take l.r-index l.relocs);
  size : length l.linked.items ≡ length l.text;
}
