use Rattle.std.proofs.Common.{◌≡◌, replicate}
use Rattle.c_init.proofs.first_bytes.zeros.Given as goal

abbrev pub invariant-loop-i : goal.invariant-loop-i
invariant-loop-i l = l.bytes ≡ replicate l._i 0
