-- What the bytes of an image give: the Secure ROM, or the offset of the first fault (System V ABI, Object Files).
use Rattle.std.specs.Prelude.{◌≡◌, ◌≤◌, ℕ, ◌+◌, ◌-◌, ◌*◌, ◌/◌, ◌%◌, ◌==◌, ◌&&◌, Bool, true, false, not, nat_lt, nat_le, zero, suc, List, [], ◌∷◌, ◌++◌, length, replicate, take, drop, slice_get, Option, Some, None, unwrap_or, Result, Ok, Err, if◌then◌else◌}
use Rattle.std.specs.List.{list_any, fold}
use Rattle.cm_base.specs.declared.regions.TheConstants.{SECURE_ROM, NSC}
use Rattle.elf32.specs.Constants.{ELF_MAGIC, ELFCLASS32, ELFDATA2LSB, EV_CURRENT, ET_EXEC, EM_ARM, EF_ARM_EABI_VER5, HEADER_SIZE, PROGRAM_HEADER_SIZE, PT_LOAD}
use Rattle.elf32.specs.Fields.{field16, field32}
use Rattle.cmse_build.specs.declared.load.Segment.{Segment}
use Rattle.cmse_build.specs.declared.load.ImageFault.{ImageFault}
use Rattle.cmse_build.specs.declared.load.ImageFault.TheVariants.{BadImage, NoMemory}

infixl 10 ◌>>=◌
abbrev pub ◌>>=◌ : {A B : Type 0} → Result A ℕ → (A → Result B ℕ) → Result B ℕ
(Ok x) >>= f = f x
(Err at) >>= f = Err at

-- what a function found, seen by view, is this answer
abbrev pub Gives : {X Y : Type 0} → (X → Y) → Result X ℕ → Result Y ℕ → Type 0
Gives view (Ok x) answer = answer ≡ Ok (view x)
Gives view (Err at) answer = answer ≡ Err at

-- the same, unless memory ran out
abbrev pub GivesOrNoMemory : {X Y : Type 0} → (X → Y) → Result X ImageFault → Result Y ℕ → Type 0
GivesOrNoMemory view (Ok x) answer = answer ≡ Ok (view x)
GivesOrNoMemory view (Err (BadImage at)) answer = answer ≡ Err at
GivesOrNoMemory view (Err NoMemory) answer = Unit {0}

-- what a function left of the segments is this answer, unless memory ran out
abbrev pub Leaves : Result (Unit {0}) ImageFault → List Segment → Result (List Segment) ℕ → Type 0
Leaves (Ok _) new answer = answer ≡ Ok new
Leaves (Err (BadImage at)) new answer = answer ≡ Err at
Leaves (Err NoMemory) new answer = Unit {0}

-- a test, and the offset of the fault where it fails
abbrev pub test : Bool → ℕ → Result (Unit {0}) ℕ
test true at = Ok tt
test false at = Err at

-- whether a field is whole and has this value
abbrev pub is : Option ℕ → ℕ → Bool
is None n = false
is (Some x) n = x == n

abbrev pub is_count : Option ℕ → Bool
is_count None = false
is_count (Some n) = nat_le 1 n && nat_le n 16

-- a field that is whole
abbrev pub word : List ℕ → ℕ → ℕ
word bytes at = unwrap_or (field32 bytes at) 0

abbrev pub half : List ℕ → ℕ → ℕ
half bytes at = unwrap_or (field16 bytes at) 0

-- where the fields of the file header begin
abbrev pub header_fields : List ℕ
header_fields = 0 ∷ 4 ∷ 5 ∷ 6 ∷ 7 ∷ 16 ∷ 18 ∷ 20 ∷ 24 ∷ 28 ∷ 32 ∷ 36 ∷ 40 ∷ 42 ∷ 44 ∷ 46 ∷ 48 ∷ 50 ∷ []

-- where the field of the file header that byte n stands in begins
unfoldable pub field_at : ℕ → ℕ
field_at n = fold (λ best at. if nat_le at n then at else best) 0 header_fields

-- the magic, the class, the data and the version
unfoldable pub identification_of : List ℕ → Result (Unit {0}) ℕ
identification_of bytes = do
  whole ← test (nat_le HEADER_SIZE (length bytes)) (field_at (length bytes))
  magic ← test (is (field32 bytes 0) ELF_MAGIC) 0
  class ← test (is (slice_get bytes 4) ELFCLASS32) 4
  order ← test (is (slice_get bytes 5) ELFDATA2LSB) 5
  test (is (slice_get bytes 6) EV_CURRENT) 6

-- e_type, e_machine, e_version, the top byte of e_flags, which tells the version of the ABI, e_phentsize, and e_phnum from
-- 1 to 16
unfoldable pub header_of : List ℕ → Result (Unit {0}) ℕ
header_of bytes = do
  kind ← test (is (field16 bytes 16) ET_EXEC) 16
  machine ← test (is (field16 bytes 18) EM_ARM) 18
  version ← test (is (field32 bytes 20) EV_CURRENT) 20
  flags ← test (is (slice_get bytes 39) (EF_ARM_EABI_VER5 / 0x1000000)) 36
  size ← test (is (field16 bytes 42) PROGRAM_HEADER_SIZE) 42
  test (is_count (field16 bytes 44)) 44

-- two segments have a byte in common: an empty one has none
abbrev pub meets : Segment → Segment → Bool
meets s t =
    (nat_lt s.at (t.at + t.size) && nat_lt t.at (s.at + s.size)) && (nat_lt 0 s.size && nat_lt 0 t.size)

-- whether a program header that is whole has bytes to load: PT_LOAD, and a p_filesz that isn't 0
abbrev pub is_loaded : List ℕ → ℕ → Bool
is_loaded bytes at = (word bytes at == PT_LOAD) && not (word bytes (at + 16) == 0)

-- the segment of a program header: p_paddr, p_memsz, p_offset, p_filesz
abbrev pub segment_of : List ℕ → ℕ → Segment
segment_of bytes at =
    record { at = word bytes (at + 12); size = word bytes (at + 20); from = word bytes (at + 4); filled = word bytes (at + 16) }

-- whether a segment lies in the Secure ROM and its Non-secure callable region, and meets no earlier one
abbrev pub has_place : Segment → List Segment → Bool
has_place s earlier =
    nat_le SECURE_ROM.from s.at && (nat_le (s.at + s.size) NSC.to && not (list_any (meets s) earlier))

-- a segment whose bytes lie in the file, that lies in the Secure ROM and meets no earlier one, and that has room for its bytes
unfoldable pub segment_test : List ℕ → ℕ → List Segment → Segment → Result (Unit {0}) ℕ
segment_test bytes at earlier s = do
  in_file ← test (nat_le (s.from + s.filled) (length bytes)) (at + 16)
  in_rom ← test (has_place s earlier) (at + 12)
  test (nat_le s.filled s.size) (at + 20)

-- what the reading of a ROM rests on: the bytes of the segment lie in the file, and the segment in the Secure ROM
pub record Fits (size : ℕ) (s : Segment) : Type 0 where
  pub in_file : s.from + s.filled ≤ size
  pub low : SECURE_ROM.from ≤ s.at
  pub high : s.at + s.size ≤ NSC.to
  pub room : s.filled ≤ s.size

-- the earlier segments with that of the program header at this offset
unfoldable pub with_segment : List ℕ → ℕ → List Segment → Result (List Segment) ℕ
with_segment bytes at earlier =
    test (nat_le (at + PROGRAM_HEADER_SIZE) (length bytes)) (at + 4 * ((length bytes - at) / 4)) >>= λ _.
    (if is_loaded bytes at
    then (segment_test bytes at earlier (segment_of bytes at) >>= λ _. Ok (earlier ++ segment_of bytes at ∷ []))
    else Ok earlier)

-- the earlier segments with those of n program headers from this offset on
abbrev pub with_segments : List ℕ → ℕ → ℕ → List Segment → Result (List Segment) ℕ
with_segments bytes zero at earlier = Ok earlier
with_segments bytes (suc n) at earlier = with_segment bytes at earlier >>= with_segments bytes n (at + PROGRAM_HEADER_SIZE)

-- these bytes put over a list at a place
abbrev pub with_bytes : List ℕ → ℕ → List ℕ → List ℕ
with_bytes rom at bytes = take at rom ++ (bytes ++ drop (at + length bytes) rom)

-- the bytes of a segment put over a ROM
abbrev pub loaded : List ℕ → List ℕ → Segment → List ℕ
loaded bytes rom s = with_bytes rom (s.at - SECURE_ROM.from) (take s.filled (drop s.from bytes))

-- the size of the Secure ROM without the Non-secure callable region: the most bytes that a ROM uses of it
abbrev pub rom_used_most : ℕ
rom_used_most = NSC.from - SECURE_ROM.from

-- the size of the Non-secure callable region
abbrev pub gateways_size : ℕ
gateways_size = NSC.to - NSC.from

-- the size of both; proofs don't compute lists of this length
unfoldable pub rom_size : ℕ
rom_size = NSC.to - SECURE_ROM.from

-- n zero bytes
unfoldable pub zeros : ℕ → List ℕ
zeros n = replicate n 0

-- the ROM of these segments: zero where none of them has a byte
unfoldable pub rom_of : List ℕ → List Segment → List ℕ
rom_of bytes segments = fold (loaded bytes) (zeros rom_size) segments

-- the reset address with bit 0 set is the second word of the ROM, which has bit 0 set
abbrev pub is_entry : ℕ → ℕ → Bool
is_entry entry reset = (entry / 2 == reset / 2) && (reset % 2 == 1)

-- the ROM, or the offset of the first fault
unfoldable pub rom_of_image : List ℕ → Result (List ℕ) ℕ
rom_of_image bytes = do
  ident ← identification_of bytes
  header ← header_of bytes
  segments ← with_segments bytes (half bytes 44) (word bytes 28) []
  entry ← test (is_entry (word bytes 24) (word (rom_of bytes segments) 4)) 24
  Ok (rom_of bytes segments)
