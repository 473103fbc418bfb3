use Rattle.std.proofs.Common.{◌≡◌, ◌∙◌, IsTrue, map, ap, ap₂, subst, sym}
use Rattle.join_laws.specs.Joined.{unit_functions}
use Rattle.join_laws.specs.Keys.{numbers_of}
use Rattle.join_laws.specs.Renumber.{all_small, renumbered_function}
use Rattle.c_join.proofs.JoinLaws.{numbers_small}
use Rattle.c_join.proofs.SeeLaws.{units_more}
use Rattle.c_join.proofs.build.all_functions.Goals as goal

pub narrowed-requires : goal.narrowed-requires
narrowed-requires c =
    subst (λ l. IsTrue (all_small l)) (sym (c.as_slice-in-loop-i.ensures ∙ c.in_ok-numbers.ensures))
    (numbers_small c.args.defined.now.functions c.args.defined.now.globals c.loop-i.i c.as_slice.result.now c.requires.functions c.requires.globals)

pub loop-i-preserved : goal.loop-i-preserved
loop-i-preserved c =
    let fk = c.args.defined.now.functions in
    let gk = c.args.defined.now.globals in
    let unit = c.unit.view_is ∙ c.get-unit.ensures in
    let externs = c.as_slice.ensures ∙ ap (λ u. u.externs) unit in
    let numbers = c.as_slice-in-loop-i-3.ensures ∙ (c.in_ok-numbers-2.ensures ∙ (c.as_slice-in-loop-i.ensures ∙ (c.in_ok-numbers.ensures ∙ ap (numbers_of fk gk c.loop-i.i) externs))) in
    units_more (unit_functions fk gk) c.args.units.now c.loop-i.i c.index-units-i.result c.loop-i.done c.add_functions.new.done
    (map (renumbered_function c.as_slice-in-loop-i-3.result.now) c.as_slice-in-loop-i-2.result.now) _ c.loop-i-test.true c.index-units-i.is c.in_ok-add_functions.ensures
    (ap₂ (λ ns fs. map (renumbered_function ns) fs) numbers (c.as_slice-in-loop-i-2.ensures ∙ ap (λ u. u.functions) unit)) c.loop-i.invariant
