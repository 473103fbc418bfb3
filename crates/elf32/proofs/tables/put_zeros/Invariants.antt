use Rattle.std.proofs.Common.{◌≡◌, ◌++◌, replicate}
use Rattle.elf32.proofs.tables.put_zeros.Given as goal

abbrev pub invariant-loop-i : goal.invariant-loop-i
invariant-loop-i l = l.to ≡ l.initial.to ++ replicate l._i 0
