use Rattle.std.proofs.Common.{◌≡◌, drop}
use Rattle.join_laws.specs.Uses.{items_uses, noted}
use Rattle.c_join.proofs.uses.note_items.Given as goal

abbrev pub invariant-loop-item : goal.invariant-loop-item
invariant-loop-item l = noted l.numbers l.externs l.first (items_uses (drop l.item-index l.items)) ≡ noted l.numbers l.externs l.fn.first (items_uses l.items)
