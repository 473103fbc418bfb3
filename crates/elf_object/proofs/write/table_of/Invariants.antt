use Rattle.std.proofs.Common.{◌≡◌, ◌++◌, length, drop}
use Rattle.elf32.specs.Structures.{symbol_bytes, null_symbol}
use Rattle.elf32.specs.Tables.{names_of, symbols_from, strings, string_table}
use Rattle.elf_object.specs.Structures.{symbols_of}
use Rattle.elf_object.proofs.write.table_of.Given as goal

abbrev pub invariant-loop-symbol : goal.invariant-loop-symbol
invariant-loop-symbol l = record {
  symbols : l.table.symbols ++ symbols_from (length l.table.strings) (symbols_of (drop l.symbol-index l.symbols)) ≡ symbol_bytes null_symbol ++ symbols_from 1 (symbols_of l.symbols);
  strings : l.table.strings ++ strings (names_of (symbols_of (drop l.symbol-index l.symbols))) ≡ string_table (names_of (symbols_of l.symbols));
}
