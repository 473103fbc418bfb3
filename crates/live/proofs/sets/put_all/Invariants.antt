use Rattle.std.proofs.Common.{◌≡◌, drop}
use Rattle.live.specs.Sets.{with_all}
use Rattle.live.proofs.sets.put_all.Given as goal

abbrev pub invariant-loop-v : goal.invariant-loop-v
invariant-loop-v l = with_all l.fn.xs l.vs ≡ with_all l.xs (drop l.v-index l.vs)
