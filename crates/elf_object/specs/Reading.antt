-- What the bytes of a file say of an object, and the first offset at which they aren't the file of one.
use Rattle.std.specs.Prelude.{◌≡◌, ℕ, ◌+◌, ◌-◌, ◌*◌, ◌/◌, ◌%◌, ◌==◌, not, nat_lt, nat_le, nat_eq, zero, suc, List, [], ◌∷◌, length, take, drop, unwrap_or, Result, Ok, Err, if◌then◌else◌}
use Rattle.std.specs.List.{fold, prefix_len, common_prefix_len}
use Rattle.elf32.specs.Constants.{HEADER_SIZE, SECTION_HEADER_SIZE, SYMBOL_SIZE}
use Rattle.elf32.specs.Fields.{field16, field32}
use Rattle.elf32.specs.Structures.{header_bytes}
use Rattle.elf_object.specs.declared.layout.Extent.{Extent}
use Rattle.elf_object.specs.declared.object.Object.{Object}
use Rattle.elf_object.specs.declared.object.Home.{Home}
use Rattle.elf_object.specs.declared.object.Home.TheVariants.{Undefined, Text, Init, Absolute}
use Rattle.elf_object.specs.declared.object.Symbol.{Symbol}
use Rattle.elf_object.specs.declared.object.Reloc.{Reloc}
use Rattle.elf_object.specs.declared.read.ElfFault.{ElfFault}
use Rattle.elf_object.specs.declared.read.ElfFault.TheVariants.{BadElf, NoMemory}
use Rattle.elf_object.specs.Structures.{REL_SIZE}
use Rattle.elf_object.specs.Layout.{object_header}
use Rattle.elf_object.specs.File.{object_file, CanWrite, HasWords}

-- the bytes are the file of this object
pub record IsFileOf (bytes : List ℕ) (o : Object) : Type 0 where
  pub writable : CanWrite o
  pub is : bytes ≡ object_file o

-- the bytes are the file of some object
pub record IsObjectFile (bytes : List ℕ) : Type 0 where
  pub object : Object
  pub words : HasWords object
  pub is : IsFileOf bytes object

-- a field, or 0 where it isn't whole
abbrev pub word : List ℕ → ℕ → ℕ
word bytes at = unwrap_or (field32 bytes at) 0

abbrev pub half : List ℕ → ℕ → ℕ
half bytes at = unwrap_or (field16 bytes at) 0

-- what the header of the section of this number says of its part of the file
unfoldable pub extent_in : List ℕ → ℕ → Extent
extent_in bytes k =
    record { at = word bytes (word bytes 32 + (SECTION_HEADER_SIZE * k + 16)); size = word bytes (word bytes 32 + (SECTION_HEADER_SIZE * k + 20)) }

-- those bytes of a part that lie in the file
abbrev pub part_of : List ℕ → Extent → List ℕ
part_of bytes e = take e.size (drop e.at bytes)

-- the relocation of an entry
abbrev pub reloc_of : List ℕ → Reloc
reloc_of bytes = record { at = word bytes 0; kind = word bytes 4 % 256; symbol = word bytes 4 / 256 - 1 }

-- the relocations of the first n entries
abbrev pub relocs_in : ℕ → List ℕ → List Reloc
relocs_in zero bytes = []
relocs_in (suc n) bytes = reloc_of bytes ∷ relocs_in n (drop 8 bytes)

-- how many bytes stand before the first zero byte
abbrev pub name_size : List ℕ → ℕ
name_size names = prefix_len (λ b. not (b == 0)) names

-- where a symbol of this section is defined
abbrev pub home_of : ℕ → Home
home_of section =
    if section == 0 then Undefined else if section == 1 then Text else if section == 2 then Init else Absolute

-- the symbol of an entry, whose name stands first among these names
abbrev pub symbol_in : List ℕ → List ℕ → Symbol
symbol_in table names = record { name = take (name_size names) names; home = home_of (half table 14); value = word table 4 }

-- the symbols of the first n entries, whose names stand one behind the other, each with a zero byte
abbrev pub symbols_in : ℕ → List ℕ → List ℕ → List Symbol
symbols_in zero table names = []
symbols_in (suc n) table names =
    symbol_in table names ∷ symbols_in n (drop 16 table) (drop 1 (drop (name_size names) names))

-- The object that the parts of a file say: the text, the initial contents, as many relocations and symbols as there are whole
-- entries, without the null symbol, and names from the second byte of the string table on.
unfoldable pub object_in : List ℕ → Object
object_in bytes =
    let relocs = part_of bytes (extent_in bytes 3) in
    let symbols = part_of bytes (extent_in bytes 4) in
    let strings = part_of bytes (extent_in bytes 5) in
    record {
      text = part_of bytes (extent_in bytes 1);
      init = part_of bytes (extent_in bytes 2);
      symbols = symbols_in (length symbols / SYMBOL_SIZE - 1) (drop 16 symbols) (drop 1 strings);
      relocs = relocs_in (length relocs / REL_SIZE) relocs;
    }

-- where the fields of the file header begin, and where what stands behind it does
abbrev pub field_starts : List ℕ
field_starts =
    0 ∷ 4 ∷ 5 ∷ 6 ∷ 7 ∷ 16 ∷ 18 ∷ 20 ∷ 24 ∷ 28 ∷ 32 ∷ 36 ∷ 40 ∷ 42 ∷ 44 ∷ 46 ∷ 48 ∷ 50 ∷ 52 ∷ []

-- where the field that byte n stands in begins
unfoldable pub field_at : ℕ → ℕ
field_at n = fold (λ best at. if nat_le at n then at else best) 0 field_starts

-- The offset of the fault of a file that isn't an object's: that of the first field of the header that isn't whole, else of the
-- first one whose value isn't what is written there, where e_shoff may have any, and else where the header ends.
unfoldable pub fault_at : List ℕ → ℕ
fault_at bytes =
    if nat_lt (length bytes) HEADER_SIZE then field_at (length bytes)
    else field_at (common_prefix_len nat_eq bytes (header_bytes (object_header (word bytes 32))))

-- The answer of a reader: an object whose file these bytes are, or, where they are the file of none, the offset of the fault.
-- Memory may always run out.
abbrev pub Reads : List ℕ → Result Object ElfFault → Type 0
Reads bytes (Ok o) = IsFileOf bytes o
Reads bytes (Err (BadElf at)) = ((o : Object) → HasWords o → ¬ (IsFileOf bytes o)) × (at ≡ fault_at bytes)
Reads bytes (Err NoMemory) = Unit {0}
