use Rattle.ns_types.proofs.BoundLaws.{extends}
use Rattle.ns_types.proofs.laws.larger_bound.Goals as goal

pub returns : goal.returns
returns c meaning law enters start memory ts a b within = extends meaning law enters start memory ts a b within
