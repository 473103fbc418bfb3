use Rattle.std.proofs.Common.{List, ℕ, Option, Bor, option_copied, sym, ap, ◌∙◌}
use Rattle.ns_script.specs.Text.{words_left}
use Rattle.ns_script.specs.Turns.{settings}
use Rattle.ns_script.proofs.TurnLaws.{said_bad}
use Rattle.ns_script.proofs.turn.settings.Goals as goal

pub returns-in-None : goal.returns-in-None
returns-in-None c =
    said_bad c.loop-rest.found c.next_word.result.0.now (words_left (option_copied c.loop-rest.rest)) (words_left (option_copied c.next_word.result.1)) (settings (words_left (option_copied c.args.words)))
    (ap (λ (o : Option (Bor (List ℕ))). words_left (option_copied o)) c.in-Some.is ∙ c.next_word.ensures.words)
    (sym c.in-None.ensures)
    c.loop-rest.invariant
