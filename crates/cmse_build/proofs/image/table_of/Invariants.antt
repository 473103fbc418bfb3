use Rattle.std.proofs.Common.{◌≡◌, ◌++◌, length, drop}
use Rattle.elf32.specs.Structures.{symbol_bytes, null_symbol}
use Rattle.elf32.specs.Tables.{names_of, symbols_from, strings, string_table}
use Rattle.cmse_build.specs.Image.{symbols_of}
use Rattle.cmse_build.proofs.image.table_of.Given as goal

abbrev pub invariant-loop-gate : goal.invariant-loop-gate
invariant-loop-gate l = record {
  symbols : l.table.symbols ++ symbols_from (length l.table.strings) (symbols_of (drop l.gate-index l.gates)) ≡ symbol_bytes null_symbol ++ symbols_from 1 (symbols_of l.gates);
  strings : l.table.strings ++ strings (names_of (symbols_of (drop l.gate-index l.gates))) ≡ string_table (names_of (symbols_of l.gates));
}
