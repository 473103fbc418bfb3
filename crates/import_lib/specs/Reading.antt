-- What the bytes of an import library give: the veneers that it lists, or the offset of the first fault (System V ABI, Object
-- Files; ECM0359818, Import library).
use Rattle.std.specs.Prelude.{◌≡◌, ◌≤◌, ◌<◌, ◌^◌, ℕ, ◌+◌, ◌-◌, ◌*◌, ◌/◌, ◌%◌, ◌==◌, ◌&&◌, Bool, true, false, not, nat_lt, nat_le, zero, suc, List, [], ◌∷◌, ◌++◌, length, map, take, drop, slice_index, position, bytes_eq, Option, Some, None, unwrap_or, Result, Ok, Err, if◌then◌else◌}
use Rattle.std.specs.List.{list_any, fold}
use Rattle.elf32.specs.Constants.{ELF_MAGIC, ELFCLASS32, ELFDATA2LSB, EV_CURRENT, ET_REL, EM_ARM, HEADER_SIZE, SECTION_HEADER_SIZE, SYMBOL_SIZE, SHT_SYMTAB, SHT_STRTAB, STB_GLOBAL, STT_FUNC, SHN_ABS}
use Rattle.elf32.specs.Fields.{field16, field32}
use Rattle.elf32.specs.Structures.{symbol_info}
use Rattle.elf32.specs.declared.structures.SectionHeader.{SectionHeader}
use Rattle.elf32.specs.declared.structures.Symbol.{Symbol}
use Rattle.ns_types.specs.declared.event.Veneer.{Veneer}
use Rattle.import_lib.specs.declared.read.ImplibFault.{ImplibFault}
use Rattle.import_lib.specs.declared.read.ImplibFault.TheVariants.{Malformed, NoMemory}

infixl 10 ◌>>=◌
abbrev pub ◌>>=◌ : {A B : Type 0} → Result A ℕ → (A → Result B ℕ) → Result B ℕ
(Ok x) >>= f = f x
(Err at) >>= f = Err at

-- a test, and the offset of the fault where it fails
abbrev pub test : Bool → ℕ → Result (Unit {0}) ℕ
test true at = Ok tt
test false at = Err at

-- what is there, and the offset of the fault where nothing is
abbrev pub some_or : {A : Type 0} → Option A → ℕ → Result A ℕ
some_or None at = Err at
some_or (Some x) at = Ok x

-- what a function found is this answer
abbrev pub Gives : {A : Type 0} → Result A ℕ → Result A ℕ → Type 0
Gives (Ok x) answer = answer ≡ Ok x
Gives (Err at) answer = answer ≡ Err at

-- the same of what a function found, seen by view, unless memory ran out
abbrev pub GivesOrNoMemory : {X Y : Type 0} → (X → Y) → Result X ImplibFault → Result Y ℕ → Type 0
GivesOrNoMemory view (Ok x) answer = answer ≡ Ok (view x)
GivesOrNoMemory view (Err (Malformed at)) answer = answer ≡ Err at
GivesOrNoMemory view (Err NoMemory) answer = Unit {0}

-- the same of what a function left of the veneers
abbrev pub Leaves : Result (Unit {0}) ImplibFault → List Veneer → Result (List Veneer) ℕ → Type 0
Leaves (Ok _) new answer = answer ≡ Ok new
Leaves (Err (Malformed at)) new answer = answer ≡ Err at
Leaves (Err NoMemory) new answer = Unit {0}

-- a field, or 0 where it isn't whole
abbrev pub byte : List ℕ → ℕ → ℕ
byte bytes at = slice_index bytes at

abbrev pub half : List ℕ → ℕ → ℕ
half bytes at = unwrap_or (field16 bytes at) 0

abbrev pub word : List ℕ → ℕ → ℕ
word bytes at = unwrap_or (field32 bytes at) 0

-- where the fields of the file header begin
abbrev pub header_fields : List ℕ
header_fields = 0 ∷ 4 ∷ 5 ∷ 6 ∷ 7 ∷ 16 ∷ 18 ∷ 20 ∷ 24 ∷ 28 ∷ 32 ∷ 36 ∷ 40 ∷ 42 ∷ 44 ∷ 46 ∷ 48 ∷ 50 ∷ []

-- where the field of the file header that byte n stands in begins
unfoldable pub field_at : ℕ → ℕ
field_at n = fold (λ best at. if nat_le at n then at else best) 0 header_fields

-- the header is whole; the magic, the class, the data and the version
unfoldable pub identification_of : List ℕ → Result (Unit {0}) ℕ
identification_of bytes = do
  whole ← test (nat_le HEADER_SIZE (length bytes)) (field_at (length bytes))
  magic ← test (word bytes 0 == ELF_MAGIC) 0
  class ← test (byte bytes 4 == ELFCLASS32) 4
  order ← test (byte bytes 5 == ELFDATA2LSB) 5
  test (byte bytes 6 == EV_CURRENT) 6

-- where the section headers begin, and how many there are
abbrev pub shoff : List ℕ → ℕ
shoff bytes = word bytes 32

abbrev pub shnum : List ℕ → ℕ
shnum bytes = half bytes 48

-- e_type, e_machine, e_version, e_shentsize, and an e_shnum of at least 1
unfoldable pub header_of : List ℕ → Result (Unit {0}) ℕ
header_of bytes = do
  kind ← test (half bytes 16 == ET_REL) 16
  machine ← test (half bytes 18 == EM_ARM) 18
  version ← test (word bytes 20 == EV_CURRENT) 20
  size ← test (half bytes 46 == SECTION_HEADER_SIZE) 46
  test (nat_le 1 (shnum bytes)) 48

-- the section headers are whole: else the fault is the first of their words that isn't
unfoldable pub sections_of : List ℕ → Result (Unit {0}) ℕ
sections_of bytes =
    test (nat_le (shoff bytes + SECTION_HEADER_SIZE * shnum bytes) (length bytes)) (shoff bytes + 4 * ((length bytes - shoff bytes) / 4))

-- what the readers below rest on
pub record HasSections (bytes : List ℕ) : Type 0 where
  pub whole : shoff bytes + SECTION_HEADER_SIZE * shnum bytes ≤ length bytes
  pub small : length bytes < 2 ^ 32

-- the section header that bytes begin with
unfoldable pub section_in : List ℕ → SectionHeader
section_in bytes = record {
  sh_name = word bytes 0;
  sh_type = word bytes 4;
  sh_flags = word bytes 8;
  sh_addr = word bytes 12;
  sh_offset = word bytes 16;
  sh_size = word bytes 20;
  sh_link = word bytes 24;
  sh_info = word bytes 28;
  sh_addralign = word bytes 32;
  sh_entsize = word bytes 36;
}

-- where the section header of this number stands, and what it says
abbrev pub section_place : List ℕ → ℕ → ℕ
section_place bytes k = shoff bytes + SECTION_HEADER_SIZE * k

unfoldable pub section_of : List ℕ → ℕ → SectionHeader
section_of bytes k = section_in (drop (section_place bytes k) bytes)

-- the number of the first symbol table among n sections from number k on
abbrev pub first_table : List ℕ → ℕ → ℕ → Option ℕ
first_table bytes zero k = None
first_table bytes (suc n) k =
    if (section_of bytes k).sh_type == SHT_SYMTAB then Some k else first_table bytes n (k + 1)

-- sh_flags has no SHF_COMPRESSED
abbrev pub is_plain : SectionHeader → Bool
is_plain s = s.sh_flags / 0x800 % 2 == 0

-- the bytes of a section lie in a file of this size
abbrev pub lies_in : ℕ → SectionHeader → Bool
lies_in size s = nat_le (s.sh_offset + s.sh_size) size

-- a section that is read, whose header stands at this offset: it isn't compressed, and its bytes lie in the file
unfoldable pub section_test : List ℕ → SectionHeader → ℕ → Result (Unit {0}) ℕ
section_test bytes s at = do
  plain ← test (is_plain s) (at + 8)
  test (lies_in (length bytes) s) (at + 20)

-- there is a section of this number, and it is a string table
abbrev pub is_strings : List ℕ → ℕ → Bool
is_strings bytes k = nat_lt k (shnum bytes) && ((section_of bytes k).sh_type == SHT_STRTAB)

-- a symbol table that is read: its symbols are whole, and sh_link names a string table
unfoldable pub table_test : List ℕ → SectionHeader → ℕ → Result (Unit {0}) ℕ
table_test bytes s at = do
  fit ← section_test bytes s at
  whole ← test (s.sh_size % SYMBOL_SIZE == 0) (at + 20)
  test (is_strings bytes s.sh_link) (at + 24)

-- the first symbol table, and its string table
unfoldable pub table_of : List ℕ → Result SectionHeader ℕ
table_of bytes = do
  k ← some_or (first_table bytes (shnum bytes) 0) 48
  fit ← table_test bytes (section_of bytes k) (section_place bytes k)
  Ok (section_of bytes k)

unfoldable pub strings_of : List ℕ → SectionHeader → Result SectionHeader ℕ
strings_of bytes table = do
  fit ← section_test bytes (section_of bytes table.sh_link) (section_place bytes table.sh_link)
  Ok (section_of bytes table.sh_link)

-- the bytes of a section
abbrev pub part_of : List ℕ → SectionHeader → List ℕ
part_of bytes s = take s.sh_size (drop s.sh_offset bytes)

-- the symbol that bytes begin with
unfoldable pub symbol_in : List ℕ → Symbol
symbol_in bytes = record {
  st_name = word bytes 0;
  st_value = word bytes 4;
  st_size = word bytes 8;
  st_info = byte bytes 12;
  st_other = byte bytes 13;
  st_shndx = half bytes 14;
}

-- a symbol that is listed: a global function at an absolute address
abbrev pub is_listed : Symbol → Bool
is_listed s = (s.st_info == symbol_info STB_GLOBAL STT_FUNC) && (s.st_shndx == SHN_ABS)

-- the first n of these bytes as a name: an empty one is none
abbrev pub named : List ℕ → Option ℕ → Option (List ℕ)
named bytes None = None
named bytes (Some n) = if n == 0 then None else Some (take n bytes)

-- the name that begins at an offset of a string table, up to its zero byte
unfoldable pub name_in : List ℕ → ℕ → Option (List ℕ)
name_in strings at = named (drop at strings) (position (λ b. b == 0) (drop at strings))

abbrev pub names_in : List Veneer → List (List ℕ)
names_in veneers = map (λ v. v.name) veneers

-- the earlier veneers with that of a listed symbol, which stands at this offset: its name differs from those of all earlier ones,
-- and its address is its value without bit 0
unfoldable pub with_veneer : List ℕ → Symbol → ℕ → List Veneer → Result (List Veneer) ℕ
with_veneer strings s at earlier = do
  name ← some_or (name_in strings s.st_name) at
  new ← test (not (list_any (bytes_eq name) (names_in earlier))) at
  Ok (earlier ++ record { name = name; address = s.st_value - s.st_value % 2 } ∷ [])

-- the earlier veneers with that of the symbol of this number; a symbol that isn't listed is passed over
unfoldable pub with_symbol : List ℕ → SectionHeader → List ℕ → ℕ → List Veneer → Result (List Veneer) ℕ
with_symbol bytes table strings k earlier =
    let at = table.sh_offset + SYMBOL_SIZE * k in
    let s = symbol_in (drop at bytes) in
    if is_listed s then with_veneer strings s at earlier else Ok earlier

-- the earlier veneers with those of n symbols from number k on
abbrev pub with_symbols : List ℕ → SectionHeader → List ℕ → ℕ → ℕ → List Veneer → Result (List Veneer) ℕ
with_symbols bytes table strings zero k earlier = Ok earlier
with_symbols bytes table strings (suc n) k earlier =
    with_symbol bytes table strings k earlier >>= with_symbols bytes table strings n (k + 1)

-- the veneers that all symbols but the null symbol list, in their order, or the offset of the first fault
unfoldable pub veneers_of : List ℕ → Result (List Veneer) ℕ
veneers_of bytes = do
  ident ← identification_of bytes
  header ← header_of bytes
  sections ← sections_of bytes
  table ← table_of bytes
  strings ← strings_of bytes table
  with_symbols bytes table (part_of bytes strings) (table.sh_size / SYMBOL_SIZE - 1) 1 []
