use Rattle.std.proofs.Common.{◌≡◌, ◌-◌}
use Rattle.import_lib.specs.Reading.{first_table, shnum}
use Rattle.import_lib.proofs.read.first_table.Given as goal

abbrev pub invariant-loop-k : goal.invariant-loop-k
invariant-loop-k l = first_table l.bytes (l.k-end - l.k) l.k ≡ first_table l.bytes (shnum l.bytes) 0
