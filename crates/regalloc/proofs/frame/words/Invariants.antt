use Rattle.std.proofs.Common.{◌≡◌}
use Rattle.regalloc.specs.Words.{words}
use Rattle.regalloc.proofs.frame.words.Given as goal

abbrev pub invariant-loop-v : goal.invariant-loop-v
invariant-loop-v l = l.all ≡ words 0 l.v
