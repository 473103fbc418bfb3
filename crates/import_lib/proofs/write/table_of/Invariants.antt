use Rattle.std.proofs.Common.{◌≡◌, ◌++◌, length, drop}
use Rattle.elf32.specs.Structures.{symbol_bytes, null_symbol}
use Rattle.elf32.specs.Tables.{names_of, symbols_from, strings, string_table}
use Rattle.import_lib.specs.Library.{symbols_of}
use Rattle.import_lib.proofs.write.table_of.Given as goal

abbrev pub invariant-loop-veneer : goal.invariant-loop-veneer
invariant-loop-veneer l = record {
  symbols : l.table.symbols ++ symbols_from (length l.table.strings) (symbols_of (drop l.veneer-index l.veneers)) ≡ symbol_bytes null_symbol ++ symbols_from 1 (symbols_of l.veneers);
  strings : l.table.strings ++ strings (names_of (symbols_of (drop l.veneer-index l.veneers))) ≡ string_table (names_of (symbols_of l.veneers));
}
