-- The image: an executable file that holds the Secure ROM (System V ABI, Program Header; ELF for the Arm Architecture).
use Rattle.std.specs.Prelude.{ℕ, ◌+◌, ◌*◌, ◌^◌, ◌<◌, ◌≤◌, List, [], ◌∷◌, ◌++◌, length, flat_map, codes, All}
use Rattle.cm_base.specs.declared.regions.TheConstants.{SECURE_ROM, NSC}
use Rattle.elf32.specs.declared.structures.FileHeader.{FileHeader}
use Rattle.elf32.specs.declared.structures.ProgramHeader.{ProgramHeader}
use Rattle.elf32.specs.declared.structures.Symbol.{Symbol}
use Rattle.elf32.specs.declared.tables.Tables.{Tables}
use Rattle.elf32.specs.Constants.{ET_EXEC, HEADER_SIZE, PROGRAM_HEADER_SIZE, PT_LOAD, PF_R, PF_X}
use Rattle.elf32.specs.Structures.{header_bytes, program_header_bytes, arm_header, absolute_function}
use Rattle.elf32.specs.Tables.{names_of, symbol_table, string_table, section_names, table_sections_bytes, aligned, padded}
use Rattle.cmse_build.specs.declared.image.Gate.{Gate}
use Rattle.cmse_build.specs.declared.image.Layout.{Layout}

-- the symbols of an entry: its name at its veneer, and its twin at its code (ECM0359818, Secure gateway veneers)
abbrev pub symbols_of_gate : Gate → List (List ℕ × Symbol)
symbols_of_gate g =
    (g.name, absolute_function (g.address + 1) 0) ∷ (codes "__acle_se_" ++ g.name, absolute_function (g.code + 1) 0) ∷ []

abbrev pub symbols_of : List Gate → List (List ℕ × Symbol)
symbols_of gates = flat_map symbols_of_gate gates

-- the program header of bytes that stand at this offset: they are loaded to an address, to be read and executed
abbrev pub segment : ℕ → ℕ → ℕ → ProgramHeader
segment at address size = record {
  p_type = PT_LOAD;
  p_offset = at;
  p_vaddr = address;
  p_paddr = address;
  p_filesz = size;
  p_memsz = size;
  p_flags = PF_R + PF_X;
  p_align = 4;
}

-- where the bytes of the first segment stand: behind the headers
abbrev pub rom_at : ℕ
rom_at = HEADER_SIZE + 2 * PROGRAM_HEADER_SIZE

-- Where the parts behind the first segment stand, by the sizes of both segments, of the symbols and of their names. Each
-- begins at the first multiple of 4 behind the part before it.
unfoldable pub layout_of : ℕ → ℕ → ℕ → ℕ → Layout
layout_of rom gateways symbols strings =
    let gateways_at = aligned (rom_at + rom) in
    let symbols_at = aligned (gateways_at + gateways) in
    let strings_at = aligned (symbols_at + symbols) in
    let names_at = aligned (strings_at + strings) in
    record {
      gateways_at = gateways_at;
      symbols_at = symbols_at;
      strings_at = strings_at;
      names_at = names_at;
      sections_at = aligned (names_at + length section_names);
    }

-- the header of an executable file with two program headers and four sections, the last of which has their names
abbrev pub image_header : ℕ → Layout → FileHeader
image_header entry l = record arm_header {
  e_type = ET_EXEC;
  e_entry = entry;
  e_phoff = HEADER_SIZE;
  e_shoff = l.sections_at;
  e_phentsize = PROGRAM_HEADER_SIZE;
  e_phnum = 2;
  e_shnum = 4;
  e_shstrndx = 3;
}

-- where the tables of symbols of these sizes stand
abbrev pub tables_of : Layout → ℕ → ℕ → Tables
tables_of l symbols strings = record {
  symbols_at = l.symbols_at;
  symbols_size = symbols;
  strings_at = l.strings_at;
  strings_size = strings;
  names_at = l.names_at;
}

-- The file of a Secure ROM up to its last used byte, of all gateways and of the entries: the headers, the bytes of both
-- segments, the symbols, their names, the names of the sections and the section headers.
unfoldable pub image_of : ℕ → List ℕ → List ℕ → List Gate → List ℕ
image_of entry rom gateways gates =
    let symbols = symbol_table (symbols_of gates) in
    let strings = string_table (names_of (symbols_of gates)) in
    let l = layout_of (length rom) (length gateways) (length symbols) (length strings) in
    header_bytes (image_header entry l)
    ++ (program_header_bytes (segment rom_at SECURE_ROM.from (length rom))
    ++ (program_header_bytes (segment l.gateways_at NSC.from (length gateways))
    ++ (padded rom_at rom
    ++ (padded l.gateways_at gateways
    ++ (padded l.symbols_at symbols
    ++ (padded l.strings_at strings
    ++ (padded l.names_at section_names
    ++ table_sections_bytes (tables_of l (length symbols) (length strings)))))))))

-- What can be written: even addresses and places, and a file below 2 ^ 32 bytes.
pub record CanWrite (rom gateways : List ℕ) (gates : List Gate) : Type 0 where
  pub addresses : All (λ g. g.address + 1 < 2 ^ 32) gates
  pub codes : All (λ g. g.code + 1 < 2 ^ 32) gates
  pub fits : length rom + length gateways + length (symbol_table (symbols_of gates)) + length (string_table (names_of (symbols_of gates))) + 500 < 2 ^ 32

-- each part of these sizes ends where the next one begins, or before, and all offsets are below 2 ^ 32
pub record StandApart (l : Layout) (rom gateways symbols strings : ℕ) : Type 0 where
  pub rom_ends : rom_at + rom ≤ l.gateways_at
  pub gateways_end : l.gateways_at + gateways ≤ l.symbols_at
  pub symbols_end : l.symbols_at + symbols ≤ l.strings_at
  pub strings_end : l.strings_at + strings ≤ l.names_at
  pub names_end : l.names_at + length section_names ≤ l.sections_at
  pub fits : l.sections_at < 2 ^ 32
