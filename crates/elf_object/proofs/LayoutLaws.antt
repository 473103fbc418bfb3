-- The parts of an object's file stand one behind the other.
use Rattle.std.proofs.Common.{◌≡◌, ℕ, ◌+◌, ◌*◌, ◌/◌, ◌%◌, ◌≤◌, List, [], ◌∷◌, ◌++◌, length, refl, arith, append_assoc, length-append}
use Rattle.elf32.specs.Constants.{HEADER_SIZE}
use Rattle.elf32.specs.Structures.{header_bytes, symbol_bytes}
use Rattle.elf32.specs.Tables.{symbol_table, symbols_from, padding, aligned, padded}
use Rattle.elf32.proofs.TableLaws.{aligned_least}
use Rattle.elf_object.specs.declared.layout.Layout.{Layout}
use Rattle.elf_object.specs.declared.object.Object.{Object}
use Rattle.elf_object.specs.declared.object.Symbol.{Symbol}
use Rattle.elf_object.specs.declared.object.Reloc.{Reloc}
use Rattle.elf_object.specs.Structures.{rel_bytes, rel_of, relocs_bytes, symbols_of}
use Rattle.elf_object.specs.Layout.{layout_of, object_header, section_names, sections_bytes}
use Rattle.elf_object.specs.File.{symbols_part, strings_part, object_file, object_size}

-- each part ends at the section headers, or before
pub text_ends : (t i r s n : ℕ) → HEADER_SIZE + t ≤ (layout_of t i r s n).sections_at
unfolding layout_of
text_ends t i r s n = omega (arith, aligned_least)

pub init_ends : (t i r s n : ℕ) → (layout_of t i r s n).init.at + i ≤ (layout_of t i r s n).sections_at
unfolding layout_of
init_ends t i r s n = omega (arith, aligned_least)

pub relocs_end : (t i r s n : ℕ) → (layout_of t i r s n).relocs.at + r ≤ (layout_of t i r s n).sections_at
unfolding layout_of
relocs_end t i r s n = omega (arith, aligned_least)

pub symbols_end : (t i r s n : ℕ) → (layout_of t i r s n).symbols.at + s ≤ (layout_of t i r s n).sections_at
unfolding layout_of
symbols_end t i r s n = omega (arith, aligned_least)

pub strings_end : (t i r s n : ℕ) → (layout_of t i r s n).strings.at + n ≤ (layout_of t i r s n).sections_at
unfolding layout_of
strings_end t i r s n = omega (arith, aligned_least)

pub names_end : (t i r s n : ℕ) → (layout_of t i r s n).names.at + length section_names ≤ (layout_of t i r s n).sections_at
unfolding layout_of
names_end t i r s n = omega (arith, aligned_least)

pub text_begins : (t i r s n : ℕ) → (layout_of t i r s n).text.at ≡ HEADER_SIZE
unfolding layout_of
text_begins t i r s n = refl

pub ruleset parts_end = (text_ends, init_ends, relocs_end, symbols_end, strings_end, names_end, text_begins)

-- a file of parts with the right places is the object's
pub file_from_parts : (o : Object) (r s t start h parts file : List ℕ) (l : Layout) (n1 n2 n3 n4 n5 : ℕ) → r ≡ relocs_bytes o.relocs → s ≡ symbols_part o → t ≡ strings_part o → n1 ≡ length o.text → n2 ≡ length o.init → n3 ≡ length r → n4 ≡ length s → n5 ≡ length t → l ≡ layout_of n1 n2 n3 n4 n5 → start ≡ [] → h ≡ start ++ header_bytes (object_header l.sections_at) → parts ≡ h ++ (padded l.text.at o.text ++ (padded l.init.at o.init ++ (padded l.relocs.at r ++ (padded l.symbols.at s ++ (padded l.strings.at t ++ padded l.names.at section_names))))) → file ≡ parts ++ sections_bytes l → file ≡ object_file o
unfolding object_file
file_from_parts o r s t start h parts file l n1 n2 n3 n4 n5 er es et e1 e2 e3 e4 e5 el e0 eh ep e =
    rw (e, ep, eh, e0, el, e1, e2, e3, e4, e5, et, es, er) (simp append_assoc)

-- sizes of tables
pub length-relocs_bytes : (rs : List Reloc) → length (relocs_bytes rs) ≡ 8 * length rs
unfolding rel_bytes
length-relocs_bytes [] = refl
length-relocs_bytes (r ∷ rs) =
    omega (arith, length-append (rel_bytes (rel_of r)) (relocs_bytes rs), length-relocs_bytes rs)

pub length-symbols_from : (at : ℕ) (ss : List Symbol) → length (symbols_from at (symbols_of ss)) ≡ 16 * length ss
unfolding symbol_bytes
length-symbols_from at [] = refl
length-symbols_from at (s ∷ ss) = omega (arith, length-symbols_from (at + (length s.name + 1)) ss)

pub length-symbol_table : (ss : List Symbol) → length (symbol_table (symbols_of ss)) ≡ 16 * length ss + 16
unfolding symbol_table symbol_bytes
length-symbol_table ss = omega (arith, length-symbols_from 1 ss)

-- the size of a file by those of its parts
sizes : (t i r s n : ℕ) → r % 4 ≡ 0 → s % 4 ≡ 0 → (layout_of t i r s n).sections_at ≡ 104 + ((t + 3) / 4 * 4 + ((i + 3) / 4 * 4 + (r + (s + (n + 3) / 4 * 4))))
unfolding layout_of aligned padding
sizes t i r s n er es = omega arith

pub size_is : (o : Object) → object_size o ≡ 384 + ((length o.text + 3) / 4 * 4 + ((length o.init + 3) / 4 * 4 + (8 * length o.relocs + (16 * length o.symbols + 16 + (length (strings_part o) + 3) / 4 * 4))))
size_is o =
    let r = length-relocs_bytes o.relocs in
    let s = length-symbol_table o.symbols in
    omega (arith, r, s, sizes (length o.text) (length o.init) (length (relocs_bytes o.relocs)) (length (symbols_part o)) (length (strings_part o)) (omega arith) (omega arith))
