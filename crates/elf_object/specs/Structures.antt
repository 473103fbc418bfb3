-- Relocation entries and symbols of an object's file, and their bytes (System V ABI, Relocation, Symbol Table; ELF for the Arm
-- Architecture, Relocation). A field has its name there.
use Rattle.std.specs.Prelude.{ℕ, ◌+◌, ◌*◌, List, ◌++◌, map, flat_map}
use Rattle.cm_base.specs.LittleEndian.{le32}
use Rattle.elf32.specs.Constants.{STB_GLOBAL, STT_FUNC, SHN_UNDEF, SHN_ABS}
use Rattle.elf32.specs.Structures.{symbol_info}
use Rattle.elf32.specs.declared.structures.Symbol as elf
use Rattle.elf_object.specs.declared.elf.Rel.{Rel}
use Rattle.elf_object.specs.declared.object.Home.{Home}
use Rattle.elf_object.specs.declared.object.Home.TheVariants.{Undefined, Text, Init, Absolute}
use Rattle.elf_object.specs.declared.object.Symbol.{Symbol}
use Rattle.elf_object.specs.declared.object.Reloc.{Reloc}

-- sh_type: bytes that the program defines, and relocation entries without addends
abbrev pub SHT_PROGBITS : ℕ
SHT_PROGBITS = 1

abbrev pub SHT_REL : ℕ
SHT_REL = 9

-- sh_flags: a section that takes memory when the program runs, and one that is executed
abbrev pub SHF_ALLOC : ℕ
SHF_ALLOC = 0x2

abbrev pub SHF_EXECINSTR : ℕ
SHF_EXECINSTR = 0x4

-- the type of a symbol that says nothing of what it stands for
abbrev pub STT_NOTYPE : ℕ
STT_NOTYPE = 0

-- the size of a relocation entry in bytes
abbrev pub REL_SIZE : ℕ
REL_SIZE = 8

-- a relocation entry, 8 bytes
unfoldable pub rel_bytes : Rel → List ℕ
rel_bytes r = le32 r.r_offset ++ le32 r.r_info

-- The entry of a relocation. Its r_info has the number of its symbol, which is one more since the null symbol stands before
-- all others, and then a byte for the kind.
abbrev pub rel_of : Reloc → Rel
rel_of r = record { r_offset = r.at; r_info = 256 * (r.symbol + 1) + r.kind }

-- the entries of relocations
abbrev pub relocs_bytes : List Reloc → List ℕ
relocs_bytes relocs = flat_map (λ r. rel_bytes (rel_of r)) relocs

-- the type of a symbol: what stands in the text is a function
abbrev pub type_of : Home → ℕ
type_of Text = STT_FUNC
type_of Undefined = STT_NOTYPE
type_of Init = STT_NOTYPE
type_of Absolute = STT_NOTYPE

-- the number of the section that a symbol stands in: none, .text, .init, or a value that isn't moved
abbrev pub section_of : Home → ℕ
section_of Undefined = SHN_UNDEF
section_of Text = 1
section_of Init = 2
section_of Absolute = SHN_ABS

-- a symbol with its name, whose place in the string table isn't known yet
abbrev pub symbol_of : Symbol → List ℕ × elf.Symbol
symbol_of s =
    (s.name, record { st_name = 0; st_value = s.value; st_size = 0; st_info = symbol_info STB_GLOBAL (type_of s.home); st_other = 0; st_shndx = section_of s.home })

abbrev pub symbols_of : List Symbol → List (List ℕ × elf.Symbol)
symbols_of symbols = map symbol_of symbols
