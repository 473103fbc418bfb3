use Rattle.std.proofs.Common.{◌≡◌, replicate}
use Rattle.trace_tests.specs.Programs as spec
use Rattle.trace_tests.proofs.trees.word_types.Given as goal

abbrev pub invariant-loop-i : goal.invariant-loop-i
invariant-loop-i l = l.list ≡ replicate l._i spec.word
