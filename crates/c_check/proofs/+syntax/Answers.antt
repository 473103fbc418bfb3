use Rattle.std.proofs.Common.{◌≡◌, ◌+◌, ◌∷◌, ◌∙◌, ap, drop, arith}
use Rattle.std.proofs.lemmas.Grind.{common_steps}
use Rattle.c_check.specs.Typed.{declarators}
use Rattle.c_check.proofs.Parts.{declarators_next}
use Rattle.c_check.proofs.+syntax.Goals as goal

pub types::declarators-loop-d-preserved : goal.types::declarators-loop-d-preserved
types::declarators-loop-d-preserved t c =
    let dropped : drop c.loop-d.d-index c.args.list.now ≡ c.d-item.result ∷ drop (c.loop-d.d-index + 1) c.args.list.now = grind (arith, common_steps, c.d-item.is, c.loop-d-test.true) in
    c.loop-d.invariant
    ∙ (ap (λ ds. declarators c.args.around c.args.head.now c.loop-d.layout ds c.loop-d.tables) dropped
    ∙ declarators_next c.args.around c.args.head.now c.loop-d.layout c.in_ok-layout.layout c.d-item.result (drop (c.loop-d.d-index + 1) c.args.list.now) c.in_ok-formed.formed c.loop-d.tables c.form.new.tables c.in_ok-formed.ensures c.in_ok-layout.ensures)
