use Rattle.std.proofs.Common.{◌<◌, arith, drop, length, length-drop, sym, ◌∙◌}
use Rattle.ns_turns.proofs.Runs.{spent_turn}
use Rattle.ns_turns.proofs.running.end_of.Goals as goal

pub returns-else-next-turns : goal.returns-else-next-turns
returns-else-next-turns c =
    let left : 0 < length (drop c.args.next c.args.turns.now) = omega (arith, length-drop c.args.next c.args.turns.now) in
    spent_turn _ _ _ (sym c.side.ensures ∙ c.in-NonSecure.is) left
