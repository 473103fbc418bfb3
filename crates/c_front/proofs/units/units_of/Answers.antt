use Rattle.c_front.proofs.SaidLaws.{told_refusal, told_unit}
use Rattle.c_front.proofs.units.units_of.Goals as goal

pub returns-in-Err : goal.returns-in-Err
returns-in-Err c = told_refusal _ _ _ c.index-sources-i.result c.in-Err.fault _ c.as_slice.result.now c.loop-i-test.true c.index-sources-i.is c.as_slice.ensures c.in-Err.ensures c.refused.ensures c.loop-i.invariant

pub loop-i-preserved : goal.loop-i-preserved
loop-i-preserved c = told_unit _ _ _ _ c.index-sources-i.result c.in-Ok.unit c.as_slice.result.now c.loop-i-test.true c.index-sources-i.is c.as_slice.ensures c.in-Ok.ensures c.in_ok-push-in-Ok.ensures.ok c.loop-i.invariant
