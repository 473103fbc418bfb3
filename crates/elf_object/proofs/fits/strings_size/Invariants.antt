use Rattle.std.proofs.Common.{◌≡◌, ◌+◌, ◌<◌, ◌^◌, length, drop}
use Rattle.elf32.specs.Tables.{names_of, strings, string_table}
use Rattle.elf_object.specs.Structures.{symbols_of}
use Rattle.elf_object.proofs.fits.strings_size.Given as goal

abbrev pub invariant-loop-s : goal.invariant-loop-s
invariant-loop-s l = record {
  sum : l.size + length (strings (names_of (symbols_of (drop l.s-index l.symbols)))) ≡ length (string_table (names_of (symbols_of l.symbols)));
  fits : l.size < 2 ^ 32;
}
