-- Symbol tables, string tables and the places of parts in a file (System V ABI, Symbol Table, String Table).
use Rattle.std.specs.Prelude.{ℕ, ◌+◌, ◌-◌, ◌%◌, List, [], ◌∷◌, ◌++◌, length, map, replicate, flat_map, codes}
use Rattle.elf32.specs.Constants.{SHT_SYMTAB, SHT_STRTAB, SYMBOL_SIZE}
use Rattle.elf32.specs.Structures.{symbol_bytes, section_header_bytes, null_symbol, null_section}
use Rattle.elf32.specs.declared.structures.Symbol.{Symbol}
use Rattle.elf32.specs.declared.structures.SectionHeader.{SectionHeader}
use Rattle.elf32.specs.declared.tables.Tables.{Tables}

-- names one after another, each with a zero byte
abbrev pub strings : List (List ℕ) → List ℕ
strings names = flat_map (λ name. name ++ 0 ∷ []) names

-- a string table: the empty name, and then these
abbrev pub string_table : List (List ℕ) → List ℕ
string_table names = 0 ∷ strings names

-- a symbol whose name begins at this offset of the string table
abbrev pub with_name_at : ℕ → Symbol → Symbol
with_name_at at s = record s { st_name = at }

-- the names of symbols
abbrev pub names_of : List (List ℕ × Symbol) → List (List ℕ)
names_of symbols = map (λ s. s.0) symbols

-- symbols with their names, the first of which begins at this offset of the string table, and each next one behind it
abbrev pub symbols_from : ℕ → List (List ℕ × Symbol) → List ℕ
symbols_from at [] = []
symbols_from at (s ∷ ss) = symbol_bytes (with_name_at at s.1) ++ symbols_from (at + (length s.0 + 1)) ss

-- a symbol table: the null symbol, and then these, whose names stand in the string table of their names
unfoldable pub symbol_table : List (List ℕ × Symbol) → List ℕ
symbol_table symbols = symbol_bytes null_symbol ++ symbols_from 1 symbols

-- the names of the sections of a file that has symbols alone: they begin at 1, 9 and 17
abbrev pub section_names : List ℕ
section_names = string_table (codes ".symtab" ∷ codes ".strtab" ∷ codes ".shstrtab" ∷ [])

-- the section header of the symbol table, whose string table is section 2, and whose first global symbol is symbol 1
abbrev pub symbols_section : Tables → SectionHeader
symbols_section t = record null_section {
  sh_name = 1;
  sh_type = SHT_SYMTAB;
  sh_offset = t.symbols_at;
  sh_size = t.symbols_size;
  sh_link = 2;
  sh_info = 1;
  sh_addralign = 4;
  sh_entsize = SYMBOL_SIZE;
}

-- the section header of a string table: where its own name begins, where it stands, and its size
abbrev pub strings_section : ℕ → ℕ → ℕ → SectionHeader
strings_section name at size =
    record null_section { sh_name = name; sh_type = SHT_STRTAB; sh_offset = at; sh_size = size; sh_addralign = 1 }

-- the section headers of a file that has symbols alone: null, .symtab, .strtab and .shstrtab
abbrev pub table_sections : Tables → List SectionHeader
table_sections t =
    null_section ∷ symbols_section t ∷ strings_section 9 t.strings_at t.strings_size
    ∷ strings_section 17 t.names_at (length section_names) ∷ []

-- the bytes of these section headers
unfoldable pub table_sections_bytes : Tables → List ℕ
table_sections_bytes t = flat_map section_header_bytes (table_sections t)

-- how many zero bytes lead from an offset to the next multiple of 4
unfoldable pub padding : ℕ → ℕ
padding at = (4 - at % 4) % 4

-- the first multiple of 4 that isn't below an offset
unfoldable pub aligned : ℕ → ℕ
aligned at = at + padding at

-- a part of a file that stands at an offset, and zero bytes up to the next multiple of 4
unfoldable pub padded : ℕ → List ℕ → List ℕ
padded at part = part ++ replicate (padding (at + length part)) 0
