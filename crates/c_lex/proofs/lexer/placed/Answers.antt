use Rattle.std.proofs.Common.{◌≡◌, ◌-◌, length, take, ap, ◌∙◌}
use Rattle.c_lex.specs.declared.spot.Spot.{Spot}
use Rattle.c_lex.specs.Spot.{start, after, place_of}
use Rattle.c_lex.proofs.AnswerLaws.{fault_is}
use Rattle.c_lex.proofs.lexer.placed.Goals as goal

pub returns : goal.returns
returns c =
    let text = c.args.text.now in
    let from_start = ap (λ (p : Spot). after p (take (length text - c.args.fault.left) text)) c.start.ensures in
    let here : c.after.result ≡ after start (take (length text - c.args.fault.left) text) = c.after.ensures ∙ from_start in
    fault_is c.args.unit text c.args.fault _ c.requires.short c.requires.ends (c.place.ensures ∙ ap (place_of c.args.unit) here)
