use Rattle.std.proofs.Common.{subst, ◌∙◌, All}
use Rattle.std.proofs.lemmas.List.{take_all}
use Rattle.std.proofs.lemmas.List.Elements.{All-more}
use Rattle.c_tree.specs.Conditions.{IsUnit}
use Rattle.c_join.proofs.steps.all_within.Goals as goal

pub loop-u-preserved : goal.loop-u-preserved
loop-u-preserved c = All-more IsUnit c.args.units.now c.loop-u.u-index _ c.loop-u-test.true c.loop-u.invariant (subst IsUnit (c.get.ensures ∙ c.u-item.is) c.within.ensures)

pub returns : goal.returns
returns c = subst (All IsUnit) (take_all c.loop-u.u-index c.args.units.now c.loop-u-test.false) c.loop-u.invariant
