use Rattle.std.proofs.Common.{◌≡◌, ◌++◌, replicate}
use Rattle.constant_entry.proofs.put_zeros.Given as goal

abbrev pub invariant-loop-done : goal.invariant-loop-done
invariant-loop-done l = l.to ≡ l.fn.to ++ replicate l._done 0
