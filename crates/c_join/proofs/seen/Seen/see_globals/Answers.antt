use Rattle.c_join.proofs.SeeLaws.{globals_more}
use Rattle.c_join.proofs.seen.Seen.see_globals.Goals as goal

pub loop-g-preserved : goal.loop-g-preserved
loop-g-preserved c =
    globals_more c.args.unit c.args.externs.now c.args.self.now c.loop-g.self _ c.loop-g.g-index c.scope.result c.is_static.result c.as_slice-name.result.now c.args.globals.now c.g-item.result
    c.loop-g-test.true c.g-item.is c.as_slice-name.ensures c.is_static.ensures c.scope.ensures c.in_ok-see_global.ensures c.loop-g.invariant
