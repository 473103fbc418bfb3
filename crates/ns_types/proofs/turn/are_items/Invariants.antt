use Rattle.std.specs.Prelude.{take}
use Rattle.ns_types.specs.Turns.{AreItems}
use Rattle.ns_types.proofs.turn.are_items.Given as goal

abbrev pub invariant-loop-item : goal.invariant-loop-item
invariant-loop-item l = AreItems (take l.item-index l.items)
