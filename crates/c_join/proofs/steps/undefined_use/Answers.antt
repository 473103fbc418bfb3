use Rattle.std.proofs.Common.{◌≡◌, ◌∙◌, ap}
use Rattle.c_join.proofs.SeeLaws.{undefined_more}
use Rattle.c_join.proofs.steps.undefined_use.Goals as goal

pub loop-i-preserved : goal.loop-i-preserved
loop-i-preserved c =
    let unit = c.unit.view_is ∙ c.get-unit.ensures in
    undefined_more c.args.defined.now.functions c.args.defined.now.globals c.args.units.now c.loop-i.i c.index-units-i.result c.loop-i.first c.note_functions.new.first _
    c.as_slice-in-loop-i.result.now c.as_slice-externs.result.now c.as_slice.result.now c.loop-i-test.true c.index-units-i.is
    (c.as_slice-externs.ensures ∙ ap (λ u. u.externs) unit) (c.as_slice.ensures ∙ ap (λ u. u.functions) unit)
    (c.as_slice-in-loop-i.ensures ∙ c.in_ok-numbers.ensures) c.note_functions.ensures c.loop-i.invariant
