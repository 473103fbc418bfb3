use Rattle.std.proofs.Common.{◌≡◌, replicate}
use Rattle.trace_tests.specs.Programs as spec
use Rattle.trace_tests.proofs.trees.words.Given as goal

abbrev pub invariant-loop-i : goal.invariant-loop-i
invariant-loop-i l = l.list ≡ replicate l._i (spec.unnamed spec.word)
