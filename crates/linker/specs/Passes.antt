-- What the passes of the linker make, by the tables of names that they find places in.
use Rattle.std.specs.Prelude.{◌≡◌, ℕ, ◌+◌, ◌<◌, ◌≤◌, ◌^◌, true, List, [], ◌∷◌, ◌++◌, length, flat_map, replicate, codes, All, Option, Some, None, Result, Ok, Err, unwrap_or, slice_index}
use Rattle.std.specs.List.{list_all}
use Rattle.cm_base.specs.declared.regions.TheConstants.{NSC}
use Rattle.ns_types.specs.Platform.{row_size}
use Rattle.ns_types.specs.declared.event.Veneer.{Veneer}
use Rattle.elf32.specs.Tables.{padded}
use Rattle.elf_object.specs.declared.object.Object.{Object}
use Rattle.elf_object.specs.declared.object.Sited.{Sited}
use Rattle.elf_object.specs.declared.object.Symbol.{Symbol}
use Rattle.elf_object.specs.declared.object.Home.TheVariants.{Absolute}
use Rattle.elf_object.specs.File.{reloc_fits}
use Rattle.elf_object.specs.Placed.{vectors, veneer_code, twin}
use Rattle.veneer_link.specs.Assign.{Assigns, place_count, places_from}
use Rattle.veneer_link.specs.declared.fault.LinkFault.{LinkFault}
use Rattle.link_laws.specs.Resolve.{Reaches, linked_by}
use Rattle.link_laws.specs.Sites.{sited, used, first_init, behind_inits}
use Rattle.link_laws.specs.Rom.{linked_rom, linked_symbols, init_part, veneer_at, filled}
use Rattle.linker.specs.declared.driver.Linked.{Linked}
use Rattle.linker.specs.Table.{Names, found, places_of, have_addresses, veneer_names, defined}

-- the place of a name, or 0
abbrev pub place_named : Names → List ℕ → ℕ
place_named names name = unwrap_or (found names name) 0

-- the bytes of a text with its relocations resolved
abbrev pub text_part : Names → Names → Sited → List ℕ
text_part entries names s =
    padded s.text_at (linked_by s.text_at (places_of entries names s) s.object.text s.object.relocs)

-- the 8 bytes of a veneer, or of a place where none stands
abbrev pub gate : Names → Option Veneer → List ℕ
gate names None = replicate 8 0
gate names (Some v) = veneer_code v.address (place_named names (twin v.name))

abbrev pub gate_at : List Veneer → Names → ℕ → List ℕ
gate_at veneers names at = gate names (veneer_at veneers at)

-- the symbols of veneers
abbrev pub symbols_of_veneer : Names → Veneer → List Symbol
symbols_of_veneer names v =
    record { name = v.name; home = Absolute; value = v.address }
    ∷ record { name = twin v.name; home = Absolute; value = place_named names (twin v.name) } ∷ []

-- a text that can be put: it ends below 2 ^ 32, its relocations fit, and each branch reaches its place
pub record CanPut (entries names : Names) (s : Sited) : Type 0 where
  pub text_low : s.text_at + length s.object.text < 2 ^ 32
  pub init_low : s.init_at + length s.object.init < 2 ^ 32
  pub fit : list_all (reloc_fits (length s.object.text) (length s.object.symbols)) s.object.relocs ≡ true
  pub reach : All (λ r. Reaches r.kind (s.text_at + r.at) (slice_index (places_of entries names s) r.symbol)) s.object.relocs

-- a veneer whose branch reaches the code of its entry
pub record CanLead (names : Names) (v : Veneer) : Type 0 where
  pub low : v.address + 8 < 2 ^ 32
  pub reach : Reaches 30 (v.address + 4) (place_named names (twin v.name))

-- the Secure ROM, by the names of entries and those of all symbols
abbrev pub front_by : Names → Names → List Sited → List ℕ
front_by entries names all =
    vectors (place_named names (codes ".start")) (place_named names (codes ".stop")) ++ flat_map (text_part entries names) all ++ flat_map init_part all

abbrev pub rom_by : Names → Names → List Sited → List Veneer → List ℕ
rom_by entries names all veneers =
    filled (front_by entries names all) ++ flat_map (gate_at veneers names) (places_from place_count NSC.from)

-- objects that can be passed on from pass to pass with these veneers
pub record CanPass (objects : List Object) (veneers : List Veneer) : Type 0 where
  pub texts : first_init objects < 2 ^ 32
  pub inits : behind_inits (first_init objects) objects < 2 ^ 32
  pub addresses : list_all have_addresses (sited objects) ≡ true
  pub put : All (CanPut (veneer_names veneers) (defined (veneer_names veneers) (sited objects))) (sited objects)
  pub lead : All (CanLead (defined (veneer_names veneers) (sited objects))) veneers
  pub start : place_named (defined (veneer_names veneers) (sited objects)) (codes ".start") + 1 < 2 ^ 32
  pub stop : place_named (defined (veneer_names veneers) (sited objects)) (codes ".stop") + 1 < 2 ^ 32
  pub low : length (front_by (veneer_names veneers) (defined (veneer_names veneers) (sited objects)) (sited objects)) ≤ row_size 2

-- what the passes make of objects with these veneers
pub record IsMade (objects : List Object) (veneers : List Veneer) (l : Linked) : Type 0 where
  pub rom : l.rom ≡ rom_by (veneer_names veneers) (defined (veneer_names veneers) (sited objects)) (sited objects) veneers
  pub used : l.used ≡ used (sited objects)
  pub symbols : l.symbols ≡ flat_map (symbols_of_veneer (defined (veneer_names veneers) (sited objects))) veneers
  pub veneers_are : l.veneers.list ≡ veneers

-- what is linked of objects with these veneers
pub record IsLinked (objects : List Object) (l : Linked) : Type 0 where
  pub rom : l.rom ≡ linked_rom l.veneers.list (sited objects)
  pub used : l.used ≡ used (sited objects)
  pub symbols : l.symbols ≡ linked_symbols l.veneers.list (sited objects)

-- The answer: the objects linked with the veneers that the entries are assigned; or that fault of the old veneers that assigning finds.
-- Memory may always run out.
abbrev pub Links : List Object → List (List ℕ) → List Veneer → Result Linked LinkFault → Type 0
Links objects entries old (Ok l) = Assigns entries old (Ok l.veneers) × IsLinked objects l
Links objects entries old (Err fault) = Assigns entries old (Err fault)
