-- The file of an object (System V ABI, Object Files; ELF for the Arm Architecture).
use Rattle.std.specs.Prelude.{◌≡◌, ℕ, ◌+◌, ◌*◌, ◌^◌, ◌<◌, ◌≤◌, ◌==◌, ◌&&◌, ◌||◌, Bool, true, not, nat_lt, nat_le, List, ◌++◌, length, All}
use Rattle.std.specs.List.{list_all, list_any}
use Rattle.elf32.specs.Constants.{SECTION_HEADER_SIZE}
use Rattle.elf32.specs.Structures.{header_bytes}
use Rattle.elf32.specs.Tables.{names_of, symbol_table, string_table, padded}
use Rattle.elf_object.specs.declared.layout.Layout.{Layout}
use Rattle.elf_object.specs.declared.object.Object.{Object}
use Rattle.elf_object.specs.declared.object.Reloc.{Reloc}
use Rattle.elf_object.specs.declared.object.Symbol.{Symbol}
use Rattle.elf_object.specs.Structures.{relocs_bytes, symbols_of}
use Rattle.elf_object.specs.Layout.{layout_of, object_header, section_names, sections_bytes}

-- the symbol table of an object, and the names in its string table
abbrev pub symbols_part : Object → List ℕ
symbols_part o = symbol_table (symbols_of o.symbols)

abbrev pub strings_part : Object → List ℕ
strings_part o = string_table (names_of (symbols_of o.symbols))

-- where the parts of an object's file stand
abbrev pub layout : Object → Layout
layout o =
    layout_of (length o.text) (length o.init) (length (relocs_bytes o.relocs)) (length (symbols_part o)) (length (strings_part o))

-- The file: its header, the text, the initial contents, the relocation entries, the symbols, their names, the names of the
-- sections, and the section headers. Each part begins at a multiple of 4 after zero bytes.
unfoldable pub object_file : Object → List ℕ
object_file o =
    let l = layout o in
    header_bytes (object_header l.sections_at)
    ++ (padded l.text.at o.text
    ++ (padded l.init.at o.init
    ++ (padded l.relocs.at (relocs_bytes o.relocs)
    ++ (padded l.symbols.at (symbols_part o)
    ++ (padded l.strings.at (strings_part o)
    ++ (padded l.names.at section_names
    ++ sections_bytes l))))))

-- the size of this file
abbrev pub object_size : Object → ℕ
object_size o = (layout o).sections_at + 7 * SECTION_HEADER_SIZE

-- whether this is a kind of relocation: R_ARM_ABS32, R_ARM_THM_CALL, R_ARM_THM_JUMP24, R_ARM_THM_MOVW_ABS_NC or R_ARM_THM_MOVT_ABS
abbrev pub is_kind : ℕ → Bool
is_kind k = k == 2 || (k == 10 || (k == 30 || (k == 47 || k == 48)))

-- whether a relocation fits a text of this size and this many symbols: it is of one of the kinds and of one of the symbols, and
-- stands at four bytes of the text
abbrev pub reloc_fits : ℕ → ℕ → Reloc → Bool
reloc_fits size count r = is_kind r.kind && (nat_lt r.symbol count && nat_le (r.at + 4) size)

-- whether the name of a symbol has no zero byte
abbrev pub name_fits : Symbol → Bool
name_fits s = not (list_any (λ b. b == 0) s.name)

-- What can be written: names without a zero byte, as many symbols as r_info has numbers for, relocations that fit, and a file
-- below 2 ^ 32 bytes.
pub record CanWrite (o : Object) : Type 0 where
  pub names : list_all name_fits o.symbols ≡ true
  pub few : length o.symbols ≤ 16777215
  pub relocs : list_all (reloc_fits (length o.text) (length o.symbols)) o.relocs ≡ true
  pub fits : object_size o < 2 ^ 32

-- all values are of 32 bits, as those of each object that a program holds
abbrev pub HasWords : Object → Type 0
HasWords o = All (λ s. s.value < 2 ^ 32) o.symbols
