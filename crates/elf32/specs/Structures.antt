-- The structures of an ELF32 file and their bytes (System V ABI, Object Files). A field has its name there.
use Rattle.std.specs.Prelude.{ℕ, ◌+◌, ◌*◌, List, [], ◌∷◌, ◌++◌, flat_map}
use Rattle.cm_base.specs.LittleEndian.{le16, le32}
use Rattle.elf32.specs.Constants.{identification, ET_NONE, EM_ARM, EV_CURRENT, EF_ARM_EABI_VER5, HEADER_SIZE, SECTION_HEADER_SIZE, SHT_NULL, STB_GLOBAL, STT_FUNC, SHN_UNDEF, SHN_ABS}
use Rattle.elf32.specs.declared.structures.FileHeader.{FileHeader}
use Rattle.elf32.specs.declared.structures.ProgramHeader.{ProgramHeader}
use Rattle.elf32.specs.declared.structures.SectionHeader.{SectionHeader}
use Rattle.elf32.specs.declared.structures.Symbol.{Symbol}

-- the ELF header, 52 bytes
unfoldable pub header_bytes : FileHeader → List ℕ
header_bytes h =
    identification
    ++ (flat_map le16 (h.e_type ∷ h.e_machine ∷ [])
    ++ (flat_map le32 (h.e_version ∷ h.e_entry ∷ h.e_phoff ∷ h.e_shoff ∷ h.e_flags ∷ [])
    ++ flat_map le16 (h.e_ehsize ∷ h.e_phentsize ∷ h.e_phnum ∷ h.e_shentsize ∷ h.e_shnum ∷ h.e_shstrndx ∷ [])))

-- a program header, 32 bytes
unfoldable pub program_header_bytes : ProgramHeader → List ℕ
program_header_bytes p =
    flat_map le32 (p.p_type ∷ p.p_offset ∷ p.p_vaddr ∷ p.p_paddr ∷ p.p_filesz ∷ p.p_memsz ∷ p.p_flags ∷ p.p_align ∷ [])

-- a section header, 40 bytes
unfoldable pub section_header_bytes : SectionHeader → List ℕ
section_header_bytes s =
    flat_map le32 (s.sh_name ∷ s.sh_type ∷ s.sh_flags ∷ s.sh_addr ∷ s.sh_offset ∷ [])
    ++ flat_map le32 (s.sh_size ∷ s.sh_link ∷ s.sh_info ∷ s.sh_addralign ∷ s.sh_entsize ∷ [])

-- a symbol, 16 bytes
unfoldable pub symbol_bytes : Symbol → List ℕ
symbol_bytes s = flat_map le32 (s.st_name ∷ s.st_value ∷ s.st_size ∷ []) ++ (s.st_info ∷ s.st_other ∷ le16 s.st_shndx)

-- the header of a file for Arm that has no type, no entry and no table yet
abbrev pub arm_header : FileHeader
arm_header = record {
  e_type = ET_NONE;
  e_machine = EM_ARM;
  e_version = EV_CURRENT;
  e_entry = 0;
  e_phoff = 0;
  e_shoff = 0;
  e_flags = EF_ARM_EABI_VER5;
  e_ehsize = HEADER_SIZE;
  e_phentsize = 0;
  e_phnum = 0;
  e_shentsize = SECTION_HEADER_SIZE;
  e_shnum = 0;
  e_shstrndx = 0;
}

-- the section header 0
abbrev pub null_section : SectionHeader
null_section = record {
  sh_name = 0;
  sh_type = SHT_NULL;
  sh_flags = 0;
  sh_addr = 0;
  sh_offset = 0;
  sh_size = 0;
  sh_link = 0;
  sh_info = 0;
  sh_addralign = 0;
  sh_entsize = 0;
}

-- the symbol 0
abbrev pub null_symbol : Symbol
null_symbol = record { st_name = 0; st_value = 0; st_size = 0; st_info = 0; st_other = 0; st_shndx = SHN_UNDEF }

-- st_info of a binding and a type
abbrev pub symbol_info : ℕ → ℕ → ℕ
symbol_info binding kind = 16 * binding + kind

-- a global function at an absolute address, of this value and size, whose name isn't placed yet
abbrev pub absolute_function : ℕ → ℕ → Symbol
absolute_function value size =
    record { st_name = 0; st_value = value; st_size = size; st_info = symbol_info STB_GLOBAL STT_FUNC; st_other = 0; st_shndx = SHN_ABS }
