use Rattle.std.proofs.Common.{arith}
use Rattle.veneer_link.proofs.AssignLaws.{free_step}
use Rattle.veneer_link.proofs.lists.free_from.Goals as goal

pub loop-i-preserved : goal.loop-i-preserved
loop-i-preserved c = record {
  free = free_step c.args.old.now c.args.n c.loop-i._i c.loop-i.at _ _ _ c.loop-i-test.true c.loop-i.invariant.free c.in_ok-add_free.ensures;
  at = omega (arith, c.loop-i.invariant.at);
}
