use Rattle.std.proofs.Common.{◌∷◌, option_copied, sym, ap, ◌∙◌}
use Rattle.ns_script.specs.Text.{words_left}
use Rattle.ns_script.proofs.TextLaws.{words_front}
use Rattle.ns_script.proofs.text.next_word.Goals as goal

pub returns-clause-words : goal.returns-clause-words
returns-clause-words c =
    words_front c.args.text.now (option_copied c.cut.result.1) (sym c.cut.ensures.back)
    ∙ ap (λ w. w ∷ words_left (option_copied c.cut.result.1)) (sym c.cut.ensures.front)
