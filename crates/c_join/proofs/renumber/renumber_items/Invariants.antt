use Rattle.std.proofs.Common.{◌≡◌, take}
use Rattle.join_laws.specs.Renumber.{renumbered_items}
use Rattle.c_join.proofs.renumber.renumber_items.Given as goal

abbrev pub invariant-loop-item : goal.invariant-loop-item
invariant-loop-item l = l.done ≡ renumbered_items l.numbers (take l.item-index l.items)
