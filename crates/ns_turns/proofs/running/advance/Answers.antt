use Rattle.std.proofs.Common.{suc, ◌+◌, ◌∷◌, ap, drop, sym, ◌∙◌}
use Rattle.std.proofs.lemmas.List.{drop_more, drop_all}
use Rattle.ns_turns.proofs.RunLaws.{run_step, run_is_over}
use Rattle.ns_turns.proofs.Runs.{with_turn, without_turns}
use Rattle.ns_turns.proofs.running.advance.Goals as goal

pub returns-then-next-turns-clause-step : goal.returns-then-next-turns-clause-step
returns-then-next-turns-clause-step c = λ n. without_turns _ n _ _ (sym c.side.ensures ∙ c.in-NonSecure.is) (drop_all _ _ c.if-next-turns.true)

pub returns-in-Stopped-clause-step : goal.returns-in-Stopped-clause-step
returns-in-Stopped-clause-step c = λ n. run_is_over _ (suc n) _ _ c.in-Stopped.field-0 (sym c.side.ensures ∙ c.in-Stopped.is)

pub returns-in-Secure-clause-step : goal.returns-in-Secure-clause-step
returns-in-Secure-clause-step c = λ n. run_step _ n _ _ _ (sym c.side.ensures ∙ c.in-Secure.is) c.step.ensures.step

pub returns-else-next-turns-clause-step : goal.returns-else-next-turns-clause-step
returns-else-next-turns-clause-step c = λ n.
    let turn = c.index-turns-next.result in
    let more = drop_more c.args.turns.now c.args.next.now turn c.if-next-turns.false in
    let next = more ∙ ap (λ t. t ∷ drop (c.args.next.now + 1) c.args.turns.now) (sym c.index-turns-next.is) in
    with_turn _ n _ _ turn _ _ (sym c.side.ensures ∙ c.in-NonSecure.is) next c.play_turn-what.ensures.turn
