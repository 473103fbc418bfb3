-- The constants of ELF (System V ABI, Object Files) and of ELF for the Arm Architecture, by their names.
use Rattle.std.specs.Prelude.{ℕ, List, ◌∷◌, ◌++◌, replicate, codes}

-- e_ident: the class of 32 bits, and the byte of least worth first
abbrev pub ELFCLASS32 : ℕ
ELFCLASS32 = 1

abbrev pub ELFDATA2LSB : ℕ
ELFDATA2LSB = 1

-- the one version, in e_ident and e_version
abbrev pub EV_CURRENT : ℕ
EV_CURRENT = 1

-- the first four bytes of e_ident, as the word at 0
abbrev pub ELF_MAGIC : ℕ
ELF_MAGIC = 0x464C457F

-- e_type: no type, an object file, and an executable file
abbrev pub ET_NONE : ℕ
ET_NONE = 0

abbrev pub ET_REL : ℕ
ET_REL = 1

abbrev pub ET_EXEC : ℕ
ET_EXEC = 2

-- e_machine
abbrev pub EM_ARM : ℕ
EM_ARM = 40

-- e_flags: the fifth version of the Arm ABI, which is told by the top byte
abbrev pub EF_ARM_EABI_VER5 : ℕ
EF_ARM_EABI_VER5 = 0x05000000

-- the sizes of the structures in bytes
abbrev pub HEADER_SIZE : ℕ
HEADER_SIZE = 52

abbrev pub PROGRAM_HEADER_SIZE : ℕ
PROGRAM_HEADER_SIZE = 32

abbrev pub SECTION_HEADER_SIZE : ℕ
SECTION_HEADER_SIZE = 40

abbrev pub SYMBOL_SIZE : ℕ
SYMBOL_SIZE = 16

-- p_type: a segment that is loaded
abbrev pub PT_LOAD : ℕ
PT_LOAD = 1

-- p_flags: a segment that is executed, and one that is read
abbrev pub PF_X : ℕ
PF_X = 0x1

abbrev pub PF_R : ℕ
PF_R = 0x4

-- sh_type: the null section, a symbol table, and a string table
abbrev pub SHT_NULL : ℕ
SHT_NULL = 0

abbrev pub SHT_SYMTAB : ℕ
SHT_SYMTAB = 2

abbrev pub SHT_STRTAB : ℕ
SHT_STRTAB = 3

-- the binding and the type of a symbol, which st_info holds
abbrev pub STB_GLOBAL : ℕ
STB_GLOBAL = 1

abbrev pub STT_FUNC : ℕ
STT_FUNC = 2

-- st_shndx: no section, and an absolute value
abbrev pub SHN_UNDEF : ℕ
SHN_UNDEF = 0

abbrev pub SHN_ABS : ℕ
SHN_ABS = 0xFFF1

-- e_ident: 7F, the letters ELF, the class, the order of bytes, the version, and nine zero bytes
abbrev pub identification : List ℕ
identification = 0x7F ∷ codes "ELF" ++ (ELFCLASS32 ∷ ELFDATA2LSB ∷ EV_CURRENT ∷ replicate 9 0)
