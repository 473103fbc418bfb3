use Rattle.std.proofs.Common.{◌≡◌, drop}
use Rattle.c_tree.specs.Placed.{items_taken, marked}
use Rattle.c_homes.proofs.marks.mark_items.Given as goal

abbrev pub invariant-loop-item : goal.invariant-loop-item
invariant-loop-item l = marked l.marks.set (items_taken (drop l.item-index l.items)) ≡ marked l.fn.marks.set (items_taken l.items)
