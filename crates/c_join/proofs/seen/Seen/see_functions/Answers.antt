use Rattle.c_join.proofs.SeeLaws.{functions_more}
use Rattle.c_join.proofs.seen.Seen.see_functions.Goals as goal

pub loop-f-preserved : goal.loop-f-preserved
loop-f-preserved c =
    functions_more c.args.unit c.args.externs.now c.args.self.now c.loop-f.self _ c.loop-f.f-index c.scope.result c.is_static.result c.as_slice-name.result.now c.args.functions.now c.f-item.result
    c.loop-f-test.true c.f-item.is c.as_slice-name.ensures c.is_static.ensures c.scope.ensures c.in_ok-see_function.ensures c.loop-f.invariant
