use Rattle.std.specs.Prelude.{take}
use Rattle.ns_types.specs.Turns.{AreTurns}
use Rattle.ns_types.proofs.turn.Turn.all_within.Given as goal

abbrev pub invariant-loop-turn : goal.invariant-loop-turn
invariant-loop-turn l = AreTurns (take l.turn-index l.turns)
