use Rattle.std.proofs.Common.{◌≡◌, ◌∷◌, Some, None, option_copied, sym, ap, ◌∙◌}
use Rattle.ns_script.specs.Text.{behind, without_return, lines}
use Rattle.ns_script.proofs.TextLaws.{lines_more, lines_last}
use Rattle.ns_script.proofs.text.next_line.Goals as goal

pub returns-in-Some-clause-lines : goal.returns-in-Some-clause-lines
returns-in-Some-clause-lines c =
    let h : behind 10 c.args.text.now ≡ Some c.in-Some.rest.now = sym c.cut.ensures.back ∙ ap option_copied c.in-Some.is in
    lines_more c.args.text.now c.in-Some.rest.now h
    ∙ ap (λ w. w ∷ lines c.in-Some.rest.now) (sym (c.without_return.ensures ∙ ap without_return c.cut.ensures.front))

pub returns-in-None-clause-lines : goal.returns-in-None-clause-lines
returns-in-None-clause-lines c =
    let h : behind 10 c.args.text.now ≡ None = sym c.cut.ensures.back ∙ ap option_copied c.in-None.is in
    rw (c.split_at.ensures.front, c.split_at.ensures.back) (lines_last c.args.text.now h c.requires)
