-- What is written reads back: an image gives the Secure ROM that it was written from.
use Rattle.std.proofs.Common.{◌≡◌, ℕ, ◌+◌, ◌-◌, ◌*◌, ◌/◌, ◌%◌, ◌^◌, ◌<◌, ◌≤◌, ◌==◌, true, false, not, List, [], ◌∷◌, ◌++◌, length, take, drop, replicate, refl, sym, ◌∙◌, ap, arith, length-append, append_assoc, append-nil, Option, Some, None, Ok}
use Rattle.std.specs.Prelude.{unwrap_or, nat_le}
use Rattle.std.specs.List.{list_any}
use Rattle.std.proofs.Math.Seq.{take-append-add}
use Rattle.std.proofs.lemmas.List.{take_at, drop_at, drop-drop, drop_all, take-replicate, drop-replicate, length-replicate}
use Rattle.std.proofs.lemmas.Bool.{le-leb, le-ltb, ne_eqb, false≢true}
use Rattle.cm_base.specs.declared.regions.TheConstants.{SECURE_ROM, NSC}
use Rattle.elf32.specs.Fields.{field32}
use Rattle.elf32.proofs.FieldLaws.{field32-le32, field32-append_left}
use Rattle.elf32.specs.Structures.{header_bytes, program_header_bytes}
use Rattle.elf32.specs.Tables.{names_of, symbol_table, string_table, section_names, table_sections_bytes, padding, padded}
use Rattle.elf32.proofs.TableLaws.{aligned_is, padding_below}
use Rattle.cmse_build.specs.declared.image.Gate.{Gate}
use Rattle.cmse_build.specs.declared.image.Layout.{Layout}
use Rattle.cmse_build.specs.declared.load.Segment.{Segment}
use Rattle.cmse_build.specs.Image as image
use Rattle.cmse_build.specs.Reading.{◌>>=◌, test, word, half, is_entry, is_loaded, identification_of, header_of, meets, has_place, segment_of, segment_test, with_segment, with_segments, with_bytes, rom_used_most, gateways_size, rom_size, zeros, rom_of, rom_of_image}
use Rattle.cmse_build.proofs.Texts.{and_right}

-- a file that begins as an image does, with the second segment's bytes at an offset
abbrev pub file_of : ℕ → Layout → ℕ → ℕ → List ℕ → List ℕ
file_of entry l n m rest =
    header_bytes (image.image_header entry l)
    ++ (program_header_bytes (image.segment image.rom_at SECURE_ROM.from n)
    ++ (program_header_bytes (image.segment l.gateways_at NSC.from m) ++ rest))

value : (v : ℕ) → v < 2 ^ 32 → v % 256 + 256 * (v / 256 % 256) + 65536 * (v / 65536 % 256) + 16777216 * (v / 16777216 % 256) ≡ v
value v lt = ap (λ o. unwrap_or o 0) (field32-le32 [] [] v lt)

is_identified : (entry : ℕ) (l : Layout) (n m : ℕ) (rest : List ℕ) → identification_of (file_of entry l n m rest) ≡ Ok tt
unfolding identification_of header_bytes
is_identified entry l n m rest = rw (le-leb 52 (length (file_of entry l n m rest)) (omega arith)) refl

has_header : (entry : ℕ) (l : Layout) (n m : ℕ) (rest : List ℕ) → header_of (file_of entry l n m rest) ≡ Ok tt
unfolding header_of header_bytes
has_header entry l n m rest = refl

entry_word : (entry : ℕ) (l : Layout) (n m : ℕ) (rest : List ℕ) → entry < 2 ^ 32 → word (file_of entry l n m rest) 24 ≡ entry
unfolding header_bytes program_header_bytes
entry_word entry l n m rest lt = value entry lt

abbrev segment : ℕ → ℕ → ℕ → Segment
segment at n from = record { at = at; size = n; from = from; filled = n }

first_segment : (entry : ℕ) (l : Layout) (n m : ℕ) (rest : List ℕ) → n < 2 ^ 32 → segment_of (file_of entry l n m rest) 52 ≡ segment SECURE_ROM.from n image.rom_at
unfolding header_bytes program_header_bytes
first_segment entry l n m rest lt = ap (λ k. segment SECURE_ROM.from k image.rom_at) (value n lt)

second_segment : (entry : ℕ) (l : Layout) (n m : ℕ) (rest : List ℕ) → l.gateways_at < 2 ^ 32 → m < 2 ^ 32 → segment_of (file_of entry l n m rest) 84 ≡ segment NSC.from m l.gateways_at
unfolding header_bytes program_header_bytes
second_segment entry l n m rest lt lt2 =
    ap (λ k. segment NSC.from k (word (file_of entry l n m rest) 88)) (value m lt2) ∙ ap (λ k. segment NSC.from m k) (value l.gateways_at lt)

loads_first : (entry : ℕ) (l : Layout) (n m : ℕ) (rest : List ℕ) → n < 2 ^ 32 → 0 < n → is_loaded (file_of entry l n m rest) 52 ≡ true
unfolding header_bytes program_header_bytes
loads_first entry l n m rest lt some = ap (λ k. not (k == 0)) (value n lt) ∙ ap not (ne_eqb n 0 (λ e. omega arith))

loads_second : (entry : ℕ) (l : Layout) (n m : ℕ) (rest : List ℕ) → m < 2 ^ 32 → 0 < m → is_loaded (file_of entry l n m rest) 84 ≡ true
unfolding header_bytes program_header_bytes
loads_second entry l n m rest lt some = ap (λ k. not (k == 0)) (value m lt) ∙ ap not (ne_eqb m 0 (λ e. omega arith))

has_place-from : (s : Segment) (earlier : List Segment) → SECURE_ROM.from ≤ s.at → s.at + s.size ≤ NSC.to → list_any (meets s) earlier ≡ false → has_place s earlier ≡ true
has_place-from s earlier low high none = rw (le-leb SECURE_ROM.from s.at low, le-leb (s.at + s.size) NSC.to high, none) refl

segment_test-from : (bytes : List ℕ) (at : ℕ) (earlier : List Segment) (s : Segment) → s.from + s.filled ≤ length bytes → has_place s earlier ≡ true → s.filled ≤ s.size → segment_test bytes at earlier s ≡ Ok tt
unfolding segment_test
segment_test-from bytes at earlier s in_file place room =
    ap (λ b. test b (at + 16) >>= λ _. test (has_place s earlier) (at + 12) >>= λ _. test (nat_le s.filled s.size) (at + 20)) (le-leb (s.from + s.filled) (length bytes) in_file)
    ∙ (ap (λ b. test b (at + 12) >>= λ _. test (nat_le s.filled s.size) (at + 20)) place
    ∙ ap (λ b. test b (at + 20)) (le-leb s.filled s.size room))

with_segment-from : (bytes : List ℕ) (at : ℕ) (earlier : List Segment) (s : Segment) → at + 32 ≤ length bytes → is_loaded bytes at ≡ true → segment_of bytes at ≡ s → segment_test bytes at earlier s ≡ Ok tt → with_segment bytes at earlier ≡ Ok (earlier ++ s ∷ [])
unfolding with_segment
with_segment-from bytes at earlier s whole loads is fine = rw (le-leb (at + 32) (length bytes) whole, loads, is, fine) refl

pub zeros_are : (n : ℕ) → zeros n ≡ replicate n 0
unfolding zeros
zeros_are n = refl

-- the bytes of two segments over zeros
layers : (size p : ℕ) (a b : List ℕ) → length a ≤ p → p + length b ≡ size → with_bytes (with_bytes (zeros size) 0 a) p b ≡ (a ++ zeros (p - length a)) ++ b
unfolding zeros
layers size p a b le is =
    let below : with_bytes (replicate size 0) 0 a ≡ a ++ replicate (size - length a) 0 =
    ap (λ k. a ++ drop k (replicate size 0)) (omega arith) ∙ ap (λ t. a ++ t) (drop-replicate (length a) size 0) in
    let front : take p (a ++ replicate (size - length a) 0) ≡ a ++ replicate (p - length a) 0 =
    ap (λ k. take k (a ++ replicate (size - length a) 0)) (omega arith)
    ∙ (take-append-add a (replicate (size - length a) 0) (p - length a)
    ∙ ap (λ t. a ++ t) (take-replicate (p - length a) (size - length a) 0 (omega arith))) in
    let back : drop (p + length b) (a ++ replicate (size - length a) 0) ≡ [] =
    drop_all (p + length b) _ (omega (arith, length-append a (replicate (size - length a) 0), length-replicate {A = ℕ} (size - length a) 0)) in
    ap (λ r. with_bytes r p b) below
    ∙ (ap (λ t. t ++ (b ++ drop (p + length b) (a ++ replicate (size - length a) 0))) front
    ∙ (ap (λ t. (a ++ replicate (p - length a) 0) ++ (b ++ t)) back
    ∙ ap (λ t. (a ++ replicate (p - length a) 0) ++ t) (append-nil b)))

room : rom_used_most + gateways_size ≡ rom_size
unfolding rom_size
room = refl

rom_of-two : (bytes a b : List ℕ) (s t : Segment) → take s.filled (drop s.from bytes) ≡ a → take t.filled (drop t.from bytes) ≡ b → s.at - SECURE_ROM.from ≡ 0 → t.at - SECURE_ROM.from ≡ rom_used_most → length a ≤ rom_used_most → length b ≡ gateways_size → rom_of bytes (s ∷ t ∷ []) ≡ (a ++ zeros (rom_used_most - length a)) ++ b
unfolding rom_of
rom_of-two bytes a b s t ea eb zs zt le is = rw (ea, eb, zs, zt) (layers rom_size rom_used_most a b le (ap (λ k. rom_used_most + k) is ∙ room))

rom_of_image-from : (bytes rom : List ℕ) (segments : List Segment) → identification_of bytes ≡ Ok tt → header_of bytes ≡ Ok tt → with_segments bytes (half bytes 44) (word bytes 28) [] ≡ Ok segments → rom_of bytes segments ≡ rom → is_entry (word bytes 24) (word rom 4) ≡ true → rom_of_image bytes ≡ Ok rom
unfolding rom_of_image
rom_of_image-from bytes rom segments ident header found is entry = rw (ident, header, found, is, entry) refl

with_segments-two : (bytes : List ℕ) (at : ℕ) (s t : Segment) → with_segment bytes at [] ≡ Ok (s ∷ []) → with_segment bytes (at + 32) (s ∷ []) ≡ Ok (s ∷ t ∷ []) → with_segments bytes 2 at [] ≡ Ok (s ∷ t ∷ [])
with_segments-two bytes at s t first second =
    ap (λ r. r >>= with_segments bytes 1 (at + 32)) first ∙ ap (λ r. r >>= with_segments bytes 0 (at + 32 + 32)) second

headers_at : (entry : ℕ) (l : Layout) (n m : ℕ) (rest : List ℕ) → word (file_of entry l n m rest) 28 ≡ 52
unfolding header_bytes program_header_bytes
headers_at entry l n m rest = refl

two_headers : (entry : ℕ) (l : Layout) (n m : ℕ) (rest : List ℕ) → half (file_of entry l n m rest) 44 ≡ 2
unfolding header_bytes program_header_bytes
two_headers entry l n m rest = refl

file_length : (entry : ℕ) (l : Layout) (n m : ℕ) (rest : List ℕ) → length (file_of entry l n m rest) ≡ image.rom_at + length rest
unfolding header_bytes program_header_bytes
file_length entry l n m rest = omega arith

behind_headers : (entry : ℕ) (l : Layout) (n m : ℕ) (rest : List ℕ) → drop image.rom_at (file_of entry l n m rest) ≡ rest
unfolding header_bytes program_header_bytes
behind_headers entry l n m rest = refl

is_there : (o : Option ℕ) (entry : ℕ) → is_entry entry (unwrap_or o 0) ≡ true → o ≡ Some (unwrap_or o 0)
is_there None entry e = absurd (false≢true (and_right (entry / 2 == 0) false e))
is_there (Some v) entry e = refl

-- the reset address stays where more bytes follow
same_reset : (rom post : List ℕ) (entry : ℕ) → is_entry entry (word rom 4) ≡ true → word (rom ++ post) 4 ≡ word rom 4
same_reset rom post entry e =
    ap (λ o. unwrap_or o 0) (field32-append_left rom post 4 (word rom 4) (is_there (field32 rom 4) entry e))

stand_apart : (n m at from : ℕ) → n ≤ rom_used_most → list_any (meets (segment NSC.from m from)) (segment SECURE_ROM.from n at ∷ []) ≡ false
stand_apart n m at from few = rw (le-ltb NSC.from (SECURE_ROM.from + n) (omega arith)) refl

-- the bytes of both segments stand behind the headers, with a gap between them
abbrev bodies : List ℕ → List ℕ → List ℕ → List ℕ → List ℕ
bodies rom gap gateways tail = rom ++ (gap ++ (gateways ++ tail))

-- where the second segment's bytes stand behind such a gap
abbrev HasGap : Layout → List ℕ → List ℕ → Type 0
HasGap l rom gap = (l.gateways_at ≡ image.rom_at + (length rom + length gap)) × (length gap < 4)

found_segments : (entry : ℕ) (l : Layout) (rom gap gateways tail : List ℕ) → HasGap l rom gap → 4 < length rom → length rom ≤ rom_used_most → length gateways ≡ gateways_size → with_segments (file_of entry l (length rom) (length gateways) (bodies rom gap gateways tail)) 2 52 [] ≡ Ok (segment SECURE_ROM.from (length rom) image.rom_at ∷ segment NSC.from (length gateways) l.gateways_at ∷ [])
found_segments entry l rom gap gateways tail has some few all =
    let n = length rom in
    let m = length gateways in
    let rest = bodies rom gap gateways tail in
    let file = file_of entry l n m rest in
    let s = segment SECURE_ROM.from n image.rom_at in
    let t = segment NSC.from m l.gateways_at in
    let at = has.0 in
    let short = has.1 in
    let long : l.gateways_at + m ≤ length file = omega (arith, file_length entry l n m rest, length-append rom (gap ++ (gateways ++ tail)), length-append gap (gateways ++ tail), length-append gateways tail) in
    let behind : image.rom_at + n ≤ l.gateways_at = omega arith in
    let low : l.gateways_at < 2 ^ 32 = omega arith in
    let first : with_segment file 52 [] ≡ Ok (s ∷ []) =
    with_segment-from file 52 [] s (omega arith) (loads_first entry l n m rest (omega arith) (omega arith)) (first_segment entry l n m rest (omega arith))
    (segment_test-from file 52 [] s (omega arith) (has_place-from s [] (omega arith) (omega arith) refl) (omega arith)) in
    let second : with_segment file 84 (s ∷ []) ≡ Ok (s ∷ t ∷ []) =
    with_segment-from file 84 (s ∷ []) t (omega arith) (loads_second entry l n m rest (omega arith) (omega arith)) (second_segment entry l n m rest low (omega arith))
    (segment_test-from file 84 (s ∷ []) t long (has_place-from t (s ∷ []) (omega arith) (omega arith) (stand_apart n m image.rom_at l.gateways_at few)) (omega arith)) in
    with_segments-two file 52 s t first second

loaded_rom : (entry : ℕ) (l : Layout) (rom gap gateways tail : List ℕ) → HasGap l rom gap → length rom ≤ rom_used_most → length gateways ≡ gateways_size → rom_of (file_of entry l (length rom) (length gateways) (bodies rom gap gateways tail)) (segment SECURE_ROM.from (length rom) image.rom_at ∷ segment NSC.from (length gateways) l.gateways_at ∷ []) ≡ (rom ++ zeros (rom_used_most - length rom)) ++ gateways
loaded_rom entry l rom gap gateways tail has few all =
    let n = length rom in
    let m = length gateways in
    let k = length rom + length gap in
    let rest = bodies rom gap gateways tail in
    let file = file_of entry l n m rest in
    let front = behind_headers entry l n m rest in
    let first : take n (drop image.rom_at file) ≡ rom = ap (take n) front ∙ take_at rom (gap ++ (gateways ++ tail)) n refl in
    let behind : drop l.gateways_at file ≡ gateways ++ tail =
    ap (λ at. drop at file) has.0
    ∙ (sym (drop-drop k image.rom_at file)
    ∙ (ap (drop k) (front ∙ sym (append_assoc rom gap (gateways ++ tail))) ∙ drop_at (rom ++ gap) (gateways ++ tail) k (length-append rom gap))) in
    let second : take m (drop l.gateways_at file) ≡ gateways = ap (take m) behind ∙ take_at gateways tail m refl in
    rom_of-two file rom gateways (segment SECURE_ROM.from n image.rom_at) (segment NSC.from m l.gateways_at) first second refl refl few all

file_reads_back : (entry : ℕ) (l : Layout) (rom gap gateways tail : List ℕ) → HasGap l rom gap → entry < 2 ^ 32 → 4 < length rom → length rom ≤ rom_used_most → length gateways ≡ gateways_size → is_entry entry (word rom 4) ≡ true → rom_of_image (file_of entry l (length rom) (length gateways) (bodies rom gap gateways tail)) ≡ Ok ((rom ++ zeros (rom_used_most - length rom)) ++ gateways)
file_reads_back entry l rom gap gateways tail has low some few all is =
    let n = length rom in
    let m = length gateways in
    let rest = bodies rom gap gateways tail in
    let file = file_of entry l n m rest in
    let whole = (rom ++ zeros (rom_used_most - n)) ++ gateways in
    let found : with_segments file (half file 44) (word file 28) [] ≡ Ok (segment SECURE_ROM.from n image.rom_at ∷ segment NSC.from m l.gateways_at ∷ []) =
    ap (λ k. with_segments file k (word file 28) []) (two_headers entry l n m rest)
    ∙ (ap (λ k. with_segments file 2 k []) (headers_at entry l n m rest) ∙ found_segments entry l rom gap gateways tail has some few all) in
    let reset : word whole 4 ≡ word rom 4 =
    ap (λ r. word r 4) (append_assoc rom (zeros (rom_used_most - n)) gateways) ∙ same_reset rom (zeros (rom_used_most - n) ++ gateways) entry is in
    let agrees : is_entry (word file 24) (word whole 4) ≡ true =
    ap (λ k. is_entry k (word whole 4)) (entry_word entry l n m rest low) ∙ (ap (is_entry entry) reset ∙ is) in
    rom_of_image-from file whole _ (is_identified entry l n m rest) (has_header entry l n m rest) found (loaded_rom entry l rom gap gateways tail has few all) agrees

-- where the second segment's bytes stand
has_gap : (rom : List ℕ) (m s t : ℕ) → HasGap (image.layout_of (length rom) m s t) rom (replicate (padding (image.rom_at + length rom)) 0)
unfolding image.layout_of
has_gap rom m s t =
    let at = image.rom_at + length rom in
    let size = length-replicate {A = ℕ} (padding at) 0 in
    let is = aligned_is at in
    let below = padding_below at in
    (omega (arith, size), omega (arith, size))

two_padded : (at from : ℕ) (rom gateways tail : List ℕ) → padded at rom ++ (padded from gateways ++ tail) ≡ bodies rom (replicate (padding (at + length rom)) 0) gateways (replicate (padding (from + length gateways)) 0 ++ tail)
unfolding padded
two_padded at from rom gateways tail = simp append_assoc refl

-- The image of a Secure ROM, up to its last used byte, and of all gateways reads back as that ROM, with zeros up to the
-- gateways.
pub image_reads_back : (entry : ℕ) (rom gateways : List ℕ) (gates : List Gate) → entry < 2 ^ 32 → 4 < length rom → length rom ≤ rom_used_most → length gateways ≡ gateways_size → is_entry entry (word rom 4) ≡ true → rom_of_image (image.image_of entry rom gateways gates) ≡ Ok ((rom ++ zeros (rom_used_most - length rom)) ++ gateways)
unfolding image.image_of
image_reads_back entry rom gateways gates low some few all is =
    let symbols = symbol_table (image.symbols_of gates) in
    let strings = string_table (names_of (image.symbols_of gates)) in
    let l = image.layout_of (length rom) (length gateways) (length symbols) (length strings) in
    let sections = table_sections_bytes (image.tables_of l (length symbols) (length strings)) in
    let tail = padded l.symbols_at symbols ++ (padded l.strings_at strings ++ (padded l.names_at section_names ++ sections)) in
    ap (λ rest. rom_of_image (file_of entry l (length rom) (length gateways) rest)) (two_padded image.rom_at l.gateways_at rom gateways tail)
    ∙ file_reads_back entry l rom (replicate (padding (image.rom_at + length rom)) 0) gateways (replicate (padding (l.gateways_at + length gateways)) 0 ++ tail) (has_gap rom (length gateways) (length symbols) (length strings)) low some few all is
