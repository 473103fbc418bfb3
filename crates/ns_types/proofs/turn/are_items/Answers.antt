use Rattle.ns_types.proofs.TurnLaws.{more_items}
use Rattle.ns_types.proofs.turn.are_items.Goals as goal

pub loop-item-preserved : goal.loop-item-preserved
loop-item-preserved c = more_items c.args.items.now c.loop-item.item-index _ c.loop-item-test.true c.loop-item.invariant c.is_item.ensures
