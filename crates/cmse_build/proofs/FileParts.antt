-- The parts of an image's file, put together.
use Rattle.std.proofs.Common.{◌≡◌, ℕ, ◌+◌, ◌≤◌, List, [], ◌∷◌, ◌++◌, length, codes, arith, append_assoc, length-append}
use Rattle.cm_base.specs.declared.regions.TheConstants.{SECURE_ROM, NSC}
use Rattle.elf32.specs.Structures.{header_bytes, program_header_bytes}
use Rattle.elf32.specs.Tables.{names_of, symbol_table, strings, string_table, section_names, table_sections_bytes, padded}
use Rattle.cmse_build.specs.declared.image.Gate.{Gate}
use Rattle.cmse_build.specs.declared.image.Layout.{Layout}
use Rattle.cmse_build.specs.Image.{symbols_of, segment, rom_at, layout_of, image_header, tables_of, image_of}

-- a file of parts with the right places is the image
pub image_from_parts : (entry : ℕ) (rom gateways : List ℕ) (gates : List Gate) (s t start headers parts file : List ℕ) (l : Layout) (m n : ℕ) → s ≡ symbol_table (symbols_of gates) → t ≡ string_table (names_of (symbols_of gates)) → m ≡ length s → n ≡ length t → l ≡ layout_of (length rom) (length gateways) m n → start ≡ [] → headers ≡ start ++ (header_bytes (image_header entry l) ++ (program_header_bytes (segment rom_at SECURE_ROM.from (length rom)) ++ program_header_bytes (segment l.gateways_at NSC.from (length gateways)))) → parts ≡ headers ++ (padded rom_at rom ++ (padded l.gateways_at gateways ++ (padded l.symbols_at s ++ (padded l.strings_at t ++ padded l.names_at section_names)))) → file ≡ parts ++ table_sections_bytes (tables_of l m n) → file ≡ image_of entry rom gateways gates
unfolding image_of
image_from_parts entry rom gateways gates s t start headers parts file l m n es et em en el e0 eh ep e =
    rw (e, ep, eh, e0, el, em, en, es, et) (simp append_assoc)

-- the names of entries begin with that of the first
pub first_name_fits : (g : Gate) (gates : List Gate) → length g.name + 1 ≤ length (strings (names_of (symbols_of (g ∷ gates))))
first_name_fits g gates =
    let rest = ((codes "__acle_se_" ++ g.name) ++ 0 ∷ []) ++ strings (names_of (symbols_of gates)) in
    omega (arith, length-append (g.name ++ 0 ∷ []) rest, length-append g.name (0 ∷ []))
