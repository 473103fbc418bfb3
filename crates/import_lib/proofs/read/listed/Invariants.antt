use Rattle.std.proofs.Common.{◌≡◌, ◌-◌, ◌/◌, []}
use Rattle.elf32.specs.Constants.{SYMBOL_SIZE}
use Rattle.import_lib.specs.Reading.{names_in, with_symbols}
use Rattle.import_lib.proofs.read.listed.Given as goal

abbrev pub invariant-loop-k : goal.invariant-loop-k
invariant-loop-k l = record {
  reads : with_symbols l.bytes l.table l.strings (l.k-end - l.k) l.k l.veneers ≡ with_symbols l.bytes l.table l.strings (l.table.sh_size / SYMBOL_SIZE - 1) 1 [];
  names : l.names ≡ names_in l.veneers;
}
