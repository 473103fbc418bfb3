use Rattle.std.proofs.Common.{Some, drop, ap, sym, ◌∙◌, List, ℕ}
use Rattle.std.proofs.lemmas.List.{take_rest}
use Rattle.c_lex.specs.Reading.{closes_here}
use Rattle.c_lex.proofs.Closing.{close_found, close_next}
use Rattle.c_lex.proofs.comments.close_at.Goals as goal

pub returns-in-Some : goal.returns-in-Some
returns-in-Some c =
    let e = take_rest c.args.text.now c.loop-i.i in
    close_found c.args.text.now c.loop-i.i _ c.loop-i-test.true (ap closes_here (sym e) ∙ c.in-Some.ensures.0) c.loop-i.invariant
    ∙ ap (λ (t : List ℕ). Some (drop 2 t)) (sym e) ∙ ap (λ (t : List ℕ). Some t) (sym c.in-Some.ensures.1)

pub loop-i-preserved : goal.loop-i-preserved
loop-i-preserved c =
    let e = take_rest c.args.text.now c.loop-i.i in
    close_next c.args.text.now c.loop-i.i _ c.loop-i-test.true (ap closes_here (sym e) ∙ c.in_default.ensures) c.loop-i.invariant
