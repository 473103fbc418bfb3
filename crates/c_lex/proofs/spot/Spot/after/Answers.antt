use Rattle.std.proofs.Common.{arith}
use Rattle.c_lex.proofs.Spots.{after_more, past-line, past-col}
use Rattle.c_lex.proofs.spot.Spot.after.Goals as goal

pub loop-b-preserved : goal.loop-b-preserved
loop-b-preserved c = record {
  so_far = rw c.past-spot.ensures (after_more c.loop-b.spot c.args.bytes.now c.loop-b.b-index _ c.loop-b-test.true c.loop-b.invariant.so_far);
  line = rw c.past-spot.ensures (omega (arith, past-line c.loop-b.spot, c.loop-b.invariant.line));
  col = rw c.past-spot.ensures (omega (arith, past-col c.loop-b.spot, c.loop-b.invariant.col));
}
