-- The import library: an object file of absolute symbols alone (ECM0359818, Import library).
use Rattle.std.specs.Prelude.{◌≡◌, ◌≢◌, ℕ, ◌+◌, ◌*◌, ◌%◌, ◌^◌, ◌<◌, List, ◌++◌, length, map, All, AllPairs, Contains}
use Rattle.std.specs.List.Sorted.{IsStrictlyIncreasing}
use Rattle.elf32.specs.declared.structures.FileHeader.{FileHeader}
use Rattle.elf32.specs.declared.structures.Symbol.{Symbol}
use Rattle.elf32.specs.declared.tables.Tables.{Tables}
use Rattle.elf32.specs.Constants.{ET_REL, HEADER_SIZE, SECTION_HEADER_SIZE}
use Rattle.elf32.specs.Structures.{header_bytes, arm_header, absolute_function}
use Rattle.elf32.specs.Tables.{names_of, symbol_table, string_table, section_names, table_sections_bytes, aligned, padded}
use Rattle.ns_types.specs.declared.event.Veneer.{Veneer}

-- the symbol of a veneer: a function at its address with bit 0 set, since it is even, of the size of a veneer
abbrev pub symbol_of : Veneer → List ℕ × Symbol
symbol_of v = (v.name, absolute_function (v.address + 1) 8)

abbrev pub symbols_of : List Veneer → List (List ℕ × Symbol)
symbols_of veneers = map symbol_of veneers

-- the header of an object file with four sections from this offset on, the last of which has their names
abbrev pub library_header : ℕ → FileHeader
library_header sections_at = record arm_header { e_type = ET_REL; e_shoff = sections_at; e_shnum = 4; e_shstrndx = 3 }

-- where the tables of a library stand: behind the header, one behind the other
abbrev pub tables_of : List Veneer → Tables
tables_of veneers = record {
  symbols_at = HEADER_SIZE;
  symbols_size = length (symbol_table (symbols_of veneers));
  strings_at = HEADER_SIZE + length (symbol_table (symbols_of veneers));
  strings_size = length (string_table (names_of (symbols_of veneers)));
  names_at = HEADER_SIZE + length (symbol_table (symbols_of veneers)) + length (string_table (names_of (symbols_of veneers)));
}

-- where the section headers stand
abbrev pub sections_at : List Veneer → ℕ
sections_at veneers = let t = tables_of veneers in aligned (t.names_at + length section_names)

-- The file: its header, the symbols, their names, the names of the sections, zero bytes up to a multiple of 4, and the
-- section headers.
unfoldable pub library_of : List Veneer → List ℕ
library_of veneers =
    header_bytes (library_header (sections_at veneers))
    ++ (symbol_table (symbols_of veneers)
    ++ (string_table (names_of (symbols_of veneers))
    ++ (padded (tables_of veneers).names_at section_names
    ++ table_sections_bytes (tables_of veneers))))

-- the size of the file of these veneers
abbrev pub library_size : List Veneer → ℕ
library_size veneers = sections_at veneers + 4 * SECTION_HEADER_SIZE

-- What can be written: even addresses in ascending order, names that are non-empty, differ and have no zero byte, and a file
-- below 2 ^ 32 bytes.
pub record CanWrite (veneers : List Veneer) : Type 0 where
  pub even : All (λ v. v.address % 2 ≡ 0) veneers
  pub ascending : IsStrictlyIncreasing (map (λ v. v.address) veneers)
  pub named : All (λ v. (0 < length v.name) × ¬ (Contains v.name 0)) veneers
  pub differ : AllPairs (λ v w. v.name ≢ w.name) veneers
  pub fits : library_size veneers < 2 ^ 32
