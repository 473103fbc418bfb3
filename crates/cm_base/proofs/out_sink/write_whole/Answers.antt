use Rattle.cm_base.proofs.StreamLaws.{one_more_piece}
use Rattle.cm_base.proofs.out_sink.write_whole.Goals as goal

pub loop-rest-preserved : goal.loop-rest-preserved
loop-rest-preserved g c =
    one_more_piece (g.W.Write.contents c.args.to.now) (g.W.Write.contents c.loop-rest.to) (g.W.Write.contents c.write.new.self) c.args.bytes.now c.loop-rest.rest.now c.loop-rest.invariant.0 c.in-Ok.count c.in-Ok.ensures.bytes c.loop-rest.invariant.1 c.loop-rest.invariant.2
