use Rattle.std.proofs.Common.{subst}
use Rattle.ns_types.specs.Turns.{IsTurn}
use Rattle.ns_types.proofs.TurnLaws.{more_turns}
use Rattle.ns_types.proofs.turn.Turn.all_within.Goals as goal

pub loop-turn-preserved : goal.loop-turn-preserved
loop-turn-preserved c = more_turns c.args.turns.now c.loop-turn.turn-index _ c.loop-turn-test.true c.loop-turn.invariant (subst (λ t. IsTurn t) c.turn-item.is c.within.ensures)
