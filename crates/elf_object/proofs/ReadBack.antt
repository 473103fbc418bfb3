-- What is written reads back: the parts of an object's file say that object.
use Rattle.std.proofs.Common.{◌≡◌, ℕ, ◌+◌, ◌-◌, ◌*◌, ◌/◌, ◌^◌, ◌<◌, List, ◌++◌, length, drop, refl, sym, subst, ap, ◌∙◌, arith}
use Rattle.elf32.specs.Structures.{header_bytes, section_header_bytes, symbol_bytes}
use Rattle.elf32.specs.Tables.{names_of, symbol_table, string_table, symbols_from, strings}
use Rattle.elf_object.specs.declared.layout.Extent.{Extent}
use Rattle.elf_object.specs.declared.layout.Layout.{Layout}
use Rattle.elf_object.specs.declared.object.Object.{Object}
use Rattle.elf_object.specs.declared.object.Symbol.{Symbol}
use Rattle.elf_object.specs.declared.object.Reloc.{Reloc}
use Rattle.elf_object.specs.Structures.{relocs_bytes, symbols_of}
use Rattle.elf_object.specs.Layout.{layout_of, object_header, section_names, sections_bytes}
use Rattle.elf_object.specs.File.{layout, symbols_part, strings_part, object_file, CanWrite, HasWords}
use Rattle.elf_object.specs.Reading.{IsFileOf, word, extent_in, part_of, relocs_in, symbols_in, object_in}
use Rattle.elf_object.proofs.LayoutLaws.{text_ends, init_ends, relocs_end, symbols_end, strings_end, length-relocs_bytes, length-symbol_table}
use Rattle.elf_object.proofs.Parts as parts
use Rattle.elf_object.proofs.Entries.{value, relocs_back, symbols_back}

length_header : (at : ℕ) → length (header_bytes (object_header at)) ≡ 52
unfolding header_bytes
length_header at = refl

header_word : (at : ℕ) (rest : List ℕ) → at < 2 ^ 32 → word (header_bytes (object_header at) ++ rest) 32 ≡ at
unfolding header_bytes
header_word at rest lt = value at lt

same_extent : (a n : ℕ) (e : Extent) → a ≡ e.at → n ≡ e.size → (let x : Extent = record { at = a; size = n } in x) ≡ e
same_extent a n e ea en = rw (ea, en) refl

-- what a section header says is read from it
extent_there : (file : List ℕ) (base k : ℕ) (s : List ℕ) (e : Extent) → word file 32 ≡ base → ((j : ℕ) → word file (base + j) ≡ word s j) → word s (40 * k + 16) ≡ e.at → word s (40 * k + 20) ≡ e.size → extent_in file k ≡ e
unfolding extent_in
extent_there file base k s e is there ea en =
    same_extent _ _ e (ap (λ b. word file (b + (40 * k + 16))) is ∙ (there (40 * k + 16) ∙ ea)) (ap (λ b. word file (b + (40 * k + 20))) is ∙ (there (40 * k + 20) ∙ en))

-- the places and sizes that the section headers have
record Says (s : List ℕ) (l : Layout) : Type 0 where
  text_at : word s 56 ≡ l.text.at
  text_size : word s 60 ≡ l.text.size
  init_at : word s 96 ≡ l.init.at
  init_size : word s 100 ≡ l.init.size
  relocs_at : word s 136 ≡ l.relocs.at
  relocs_size : word s 140 ≡ l.relocs.size
  symbols_at : word s 176 ≡ l.symbols.at
  symbols_size : word s 180 ≡ l.symbols.size
  strings_at : word s 216 ≡ l.strings.at
  strings_size : word s 220 ≡ l.strings.size

record Low (l : Layout) : Type 0 where
  text : l.text.at + l.text.size < 2 ^ 32
  init : l.init.at + l.init.size < 2 ^ 32
  relocs : l.relocs.at + l.relocs.size < 2 ^ 32
  symbols : l.symbols.at + l.symbols.size < 2 ^ 32
  strings : l.strings.at + l.strings.size < 2 ^ 32

says : (l : Layout) → Low l → Says (sections_bytes l) l
unfolding sections_bytes section_header_bytes
says l low = record {
  text_at = value l.text.at (omega arith);
  text_size = value l.text.size (omega arith);
  init_at = value l.init.at (omega arith);
  init_size = value l.init.size (omega arith);
  relocs_at = value l.relocs.at (omega arith);
  relocs_size = value l.relocs.size (omega arith);
  symbols_at = value l.symbols.at (omega arith);
  symbols_size = value l.symbols.size (omega arith);
  strings_at = value l.strings.at (omega arith);
  strings_size = value l.strings.size (omega arith);
}

low_from : (t i r s n : ℕ) → (layout_of t i r s n).sections_at < 2 ^ 32 → Low (layout_of t i r s n)
unfolding layout_of
low_from t i r s n lt = record {
  text = omega (arith, text_ends t i r s n);
  init = omega (arith, init_ends t i r s n);
  relocs = omega (arith, relocs_end t i r s n);
  symbols = omega (arith, symbols_end t i r s n);
  strings = omega (arith, strings_end t i r s n);
}

same_object : (t i : List ℕ) (ss : List Symbol) (rs : List Reloc) (o : Object) → t ≡ o.text → i ≡ o.init → ss ≡ o.symbols → rs ≡ o.relocs → (let x : Object = record { text = t; init = i; symbols = ss; relocs = rs } in x) ≡ o
same_object t i ss rs o et ei es er = rw (et, ei, es, er) refl

-- the relocations of a part
relocs_of_part : (part : List ℕ) (size count : ℕ) (rs : List Reloc) → part ≡ relocs_bytes rs → relocs_in (length rs) (relocs_bytes rs) ≡ rs → relocs_in (length part / 8) part ≡ rs
relocs_of_part part size count rs e back =
    ap (λ p. relocs_in (length p / 8) p) e
    ∙ (ap (λ n. relocs_in n (relocs_bytes rs)) (let n : length (relocs_bytes rs) / 8 ≡ length rs = omega (arith, length-relocs_bytes rs) in n) ∙ back)

first_symbol : (ss : List Symbol) → drop 16 (symbol_table (symbols_of ss)) ≡ symbols_from 1 (symbols_of ss)
unfolding symbol_table symbol_bytes
first_symbol ss = refl

-- the symbols of two parts
symbols_of_parts : (table names : List ℕ) (ss : List Symbol) → table ≡ symbol_table (symbols_of ss) → names ≡ string_table (names_of (symbols_of ss)) → symbols_in (length ss) (symbols_from 1 (symbols_of ss)) (strings (names_of (symbols_of ss))) ≡ ss → symbols_in (length table / 16 - 1) (drop 16 table) (drop 1 names) ≡ ss
symbols_of_parts table names ss et en back =
    ap (λ t. symbols_in (length t / 16 - 1) (drop 16 t) (drop 1 names)) et
    ∙ (ap (λ n. symbols_in (length (symbol_table (symbols_of ss)) / 16 - 1) (drop 16 (symbol_table (symbols_of ss))) (drop 1 n)) en
    ∙ (ap (λ k. symbols_in k (drop 16 (symbol_table (symbols_of ss))) (strings (names_of (symbols_of ss)))) (let n : length (symbol_table (symbols_of ss)) / 16 - 1 ≡ length ss = omega (arith, length-symbol_table ss) in n)
    ∙ (ap (λ t. symbols_in (length ss) t (strings (names_of (symbols_of ss)))) (first_symbol ss) ∙ back)))

-- five extents and the parts that they name say the object
object_from : (file : List ℕ) (o : Object) (l : Layout) → extent_in file 1 ≡ l.text → extent_in file 2 ≡ l.init → extent_in file 3 ≡ l.relocs → extent_in file 4 ≡ l.symbols → extent_in file 5 ≡ l.strings → part_of file l.text ≡ o.text → part_of file l.init ≡ o.init → part_of file l.relocs ≡ relocs_bytes o.relocs → part_of file l.symbols ≡ symbols_part o → part_of file l.strings ≡ strings_part o → relocs_in (length o.relocs) (relocs_bytes o.relocs) ≡ o.relocs → symbols_in (length o.symbols) (symbols_from 1 (symbols_of o.symbols)) (strings (names_of (symbols_of o.symbols))) ≡ o.symbols → object_in file ≡ o
unfolding object_in
object_from file o l x1 x2 x3 x4 x5 p1 p2 p3 p4 p5 rs ss =
    same_object _ _ _ _ o
    (ap (part_of file) x1 ∙ p1)
    (ap (part_of file) x2 ∙ p2)
    (symbols_of_parts _ _ o.symbols (ap (part_of file) x4 ∙ p4) (ap (part_of file) x5 ∙ p5) ss)
    (relocs_of_part _ 0 0 o.relocs (ap (part_of file) x3 ∙ p3) rs)

pub object_in-object_file : (o : Object) → CanWrite o → HasWords o → object_in (object_file o) ≡ o
unfolding object_file layout_of
object_in-object_file o can words =
    let l = layout o in
    let h = header_bytes (object_header l.sections_at) in
    let a = o.text in
    let b = o.init in
    let c = relocs_bytes o.relocs in
    let d = symbols_part o in
    let e = strings_part o in
    let s = sections_bytes l in
    let size = length_header l.sections_at in
    let lt : l.sections_at < 2 ^ 32 = omega (arith, can.fits) in
    let low : Low l = low_from (length a) (length b) (length c) (length d) (length e) lt in
    let say : Says s l = says l low in
    let base = header_word l.sections_at _ lt in
    let there = parts.section_word h a b c d e section_names s size in
    object_from (object_file o) o l
    (extent_there (object_file o) l.sections_at 1 s l.text base there say.text_at say.text_size)
    (extent_there (object_file o) l.sections_at 2 s l.init base there say.init_at say.init_size)
    (extent_there (object_file o) l.sections_at 3 s l.relocs base there say.relocs_at say.relocs_size)
    (extent_there (object_file o) l.sections_at 4 s l.symbols base there say.symbols_at say.symbols_size)
    (extent_there (object_file o) l.sections_at 5 s l.strings base there say.strings_at say.strings_size)
    (parts.text_there h a b c d e section_names s size)
    (parts.init_there h a b c d e section_names s size)
    (parts.relocs_there h a b c d e section_names s size)
    (parts.symbols_there h a b c d e section_names s size)
    (parts.strings_there h a b c d e section_names s size)
    (relocs_back (length a) (length o.symbols) o.relocs (let x : length a < 2 ^ 32 = omega (arith, low.text) in x) can.few can.relocs)
    (symbols_back 1 o.symbols words can.names)

-- where the object that the parts say isn't that of the file, no object is
pub no_file : (bytes : List ℕ) (found : Object) → found ≡ object_in bytes → (IsFileOf bytes found → ⊥) → (o : Object) → HasWords o → IsFileOf bytes o → ⊥
no_file bytes found e none o words is =
    none (subst (λ x. IsFileOf bytes x) (sym (e ∙ (ap object_in is.is ∙ object_in-object_file o is.writable words))) is)
