-- Where the parts of an object's file stand, and what its headers say of them (System V ABI, Object Files).
use Rattle.std.specs.Prelude.{ℕ, ◌+◌, List, [], ◌∷◌, length, flat_map, codes}
use Rattle.elf32.specs.declared.structures.FileHeader.{FileHeader}
use Rattle.elf32.specs.declared.structures.SectionHeader.{SectionHeader}
use Rattle.elf32.specs.Constants.{ET_REL, HEADER_SIZE, SHT_SYMTAB, SHT_STRTAB, SYMBOL_SIZE}
use Rattle.elf32.specs.Structures.{arm_header, null_section, section_header_bytes}
use Rattle.elf32.specs.Tables.{string_table, aligned}
use Rattle.elf_object.specs.declared.layout.Extent.{Extent}
use Rattle.elf_object.specs.declared.layout.Layout.{Layout}
use Rattle.elf_object.specs.Structures.{SHT_PROGBITS, SHT_REL, SHF_ALLOC, SHF_EXECINSTR, REL_SIZE}

-- the names of the sections: they begin at 1, 7, 13, 23, 31 and 39
abbrev pub section_names : List ℕ
section_names =
    string_table (codes ".text" ∷ codes ".init" ∷ codes ".rel.text" ∷ codes ".symtab" ∷ codes ".strtab" ∷ codes ".shstrtab" ∷ [])

-- the part of this size that begins at the first multiple of 4 behind another part
abbrev pub behind : Extent → ℕ → Extent
behind before size = record { at = aligned (before.at + before.size); size = size }

-- Where the parts stand, by the sizes of the text, of the initial contents, of the relocation entries, of the symbol table and
-- of the string table: the text behind the header, each other part behind the one before it, then the names of the sections,
-- and then the section headers.
unfoldable pub layout_of : ℕ → ℕ → ℕ → ℕ → ℕ → Layout
layout_of text_size init_size relocs_size symbols_size strings_size =
    let text : Extent = record { at = HEADER_SIZE; size = text_size } in
    let init : Extent = behind text init_size in
    let relocs : Extent = behind init relocs_size in
    let symbols : Extent = behind relocs symbols_size in
    let strings : Extent = behind symbols strings_size in
    let names : Extent = behind strings (length section_names) in
    record {
      text = text;
      init = init;
      relocs = relocs;
      symbols = symbols;
      strings = strings;
      names = names;
      sections_at = aligned (names.at + names.size);
    }

-- the header of an object file with seven sections from this offset on, the last of which has their names
abbrev pub object_header : ℕ → FileHeader
object_header sections_at = record arm_header { e_type = ET_REL; e_shoff = sections_at; e_shnum = 7; e_shstrndx = 6 }

-- the header of a section: where its name begins, its type, its part of the file, and its alignment
abbrev pub section : ℕ → ℕ → Extent → ℕ → SectionHeader
section name kind part align =
    record null_section { sh_name = name; sh_type = kind; sh_offset = part.at; sh_size = part.size; sh_addralign = align }

-- code: it takes memory and is executed
abbrev pub text_section : Extent → SectionHeader
text_section part = record (section 1 SHT_PROGBITS part 4) { sh_flags = SHF_ALLOC + SHF_EXECINSTR }

-- initial contents: they take memory
abbrev pub init_section : Extent → SectionHeader
init_section part = record (section 7 SHT_PROGBITS part 4) { sh_flags = SHF_ALLOC }

-- relocation entries: their symbols are those of section 4, and they are of section 1
abbrev pub relocs_section : Extent → SectionHeader
relocs_section part = record (section 13 SHT_REL part 4) { sh_link = 4; sh_info = 1; sh_entsize = REL_SIZE }

-- the symbol table: its names are those of section 5, and its first global symbol is symbol 1
abbrev pub symbols_section : Extent → SectionHeader
symbols_section part = record (section 23 SHT_SYMTAB part 4) { sh_link = 5; sh_info = 1; sh_entsize = SYMBOL_SIZE }

-- the section headers: null, .text, .init, .rel.text, .symtab, .strtab and .shstrtab
abbrev pub sections : Layout → List SectionHeader
sections l =
    null_section ∷ text_section l.text ∷ init_section l.init ∷ relocs_section l.relocs ∷ symbols_section l.symbols
    ∷ section 31 SHT_STRTAB l.strings 1 ∷ section 39 SHT_STRTAB l.names 1 ∷ []

-- the bytes of these section headers
unfoldable pub sections_bytes : Layout → List ℕ
sections_bytes l = flat_map section_header_bytes (sections l)
