-- Tests of objects: where all of them pass, the objects can be linked.
use Rattle.std.specs.Prelude.{◌≢◌, ℕ, ◌+◌, ◌%◌, ◌^◌, ◌<◌, ◌≤◌, ◌==◌, ◌&&◌, ◌||◌, Bool, true, false, not, nat_le, nat_lt, List, [], ◌∷◌, length, map, sum_by, count_by, slice_get, bytes_eq, codes, All, AllPairs, Option, Some, None, Result, Ok, Err}
use Rattle.std.specs.List.{list_all, list_any}
use Rattle.ns_types.specs.declared.event.Veneer.{Veneer}
use Rattle.ns_types.specs.Memory.{half_at}
use Rattle.v8m_isa.specs.Decoding.{decode_of}
use Rattle.elf_object.specs.declared.object.Object.{Object}
use Rattle.elf_object.specs.declared.object.Home.{Home}
use Rattle.elf_object.specs.declared.object.Home.TheVariants.{Undefined, Text, Init, Absolute}
use Rattle.elf_object.specs.declared.object.Symbol.{Symbol}
use Rattle.elf_object.specs.declared.object.Reloc.{Reloc}
use Rattle.elf_object.specs.CanLink.{has_form, is_defined, definitions, CanLink}
use Rattle.elf_object.specs.Reading.{IsObjectFile, object_in}
use Rattle.elf_object.specs.Placed.{twin}
use Rattle.veneer_link.specs.Assign.{Assigns}
use Rattle.veneer_link.specs.declared.fault.LinkFault.{LinkFault}
use Rattle.linker.specs.declared.driver.Linked.{Linked}
use Rattle.linker.specs.Passes.{Links}

-- whether a value lies in its part
abbrev pub value_fits : Object → ℕ → Home → Bool
value_fits o value Undefined = true
value_fits o value Text = (value % 2 == 0) && nat_le value (length o.text)
value_fits o value Init = nat_le value (length o.init)
value_fits o value Absolute = true

-- whether a symbol is code of this name
abbrev pub is_text : Home → Bool
is_text Undefined = false
is_text Text = true
is_text Init = false
is_text Absolute = false

abbrev pub is_code : List ℕ → Symbol → Bool
is_code name s = bytes_eq s.name name && is_text s.home

abbrev pub has_code : List Object → List ℕ → Bool
has_code objects name = list_any (λ o. list_any (is_code name) o.symbols) objects

-- how often symbols define a name
abbrev pub count_in : List ℕ → List Symbol → ℕ
count_in name symbols = count_by (λ s. bytes_eq s.name name && is_defined s.home) symbols

-- whether a name is defined once
abbrev pub is_once : List Object → List ℕ → Bool
is_once objects name = definitions objects name == 1

-- whether a branch may lead to a symbol
abbrev pub is_target : List Object → List ℕ → Home → Bool
is_target objects name Undefined = has_code objects name
is_target objects name Text = true
is_target objects name Init = false
is_target objects name Absolute = false

abbrev pub leads : List Object → ℕ → Option Symbol → Bool
leads objects kind None = false
leads objects kind (Some s) = not (kind == 10 || kind == 30) || is_target objects s.name s.home

-- whether a relocation can be resolved
abbrev pub stands : List ℕ → Reloc → Bool
stands text r = (r.kind == 2) || has_form r.kind (decode_of (half_at text r.at) (half_at text (r.at + 2)))

abbrev pub reloc_passes : List Object → Object → Reloc → Bool
reloc_passes objects o r =
    (r.at % 2 == 0) && (stands o.text r && leads objects r.kind (slice_get o.symbols r.symbol))

-- whether each relocation stands behind the one before it, and the first one at a place or behind it
abbrev pub are_apart : ℕ → List Reloc → Bool
are_apart at [] = true
are_apart at (r ∷ rs) = nat_le at r.at && are_apart (r.at + 4) rs

-- whether a symbol has its value, and is defined once where its own object doesn't define it
abbrev pub symbol_passes : List Object → Object → Symbol → Bool
symbol_passes objects o s = value_fits o s.value s.home && (is_defined s.home || is_once objects s.name)

abbrev pub object_passes : List Object → Object → Bool
object_passes objects o =
    list_all (symbol_passes objects o) o.symbols && (list_all (reloc_passes objects o) o.relocs && are_apart 0 o.relocs)

-- whether an object has an entry's code under its name and, at the same value, under its twin's, which is this code
abbrev pub is_twin : List ℕ → ℕ → Symbol → Bool
is_twin code value t = is_code code t && (t.value == value)

abbrev pub has_twin : List ℕ → List ℕ → List Symbol → Symbol → Bool
has_twin name code symbols s = is_code name s && list_any (is_twin code s.value) symbols

abbrev pub has_entry : List ℕ → List ℕ → Object → Bool
has_entry name code o = list_any (has_twin name code o.symbols) o.symbols

-- whether a name isn't that of another one's code
abbrev pub is_apart : List (List ℕ) → List ℕ → Bool
is_apart entries name = list_all (λ other. not (bytes_eq (twin name) other)) entries

abbrev pub entry_passes : List Object → List (List ℕ) → List ℕ → Bool
entry_passes objects entries name =
    list_any (has_entry name (twin name)) objects && (is_once objects name && (is_once objects (twin name) && is_apart entries name))

-- whether the code of a name is defined once
abbrev pub code_passes : List Object → List ℕ → Bool
code_passes objects name = has_code objects name && is_once objects name

abbrev pub text_size : List Object → ℕ
text_size objects = sum_by (λ o. length o.text) objects

abbrev pub init_size : List Object → ℕ
init_size objects = sum_by (λ o. length o.init) objects

-- whether there is room for them
abbrev pub sizes_pass : List Object → Bool
sizes_pass objects =
    nat_le (length objects) 33 && (nat_le (text_size objects) 4100096 && nat_le (init_size objects) 49152)

abbrev pub passes : List Object → List (List ℕ) → Bool
passes objects entries =
    sizes_pass objects && (list_all (object_passes objects) objects && (list_all (entry_passes objects entries) entries
    && (code_passes objects (codes ".start") && code_passes objects (codes ".stop"))))

-- whether names differ, and the names of veneers
abbrev pub names_differ : List (List ℕ) → Bool
names_differ [] = true
names_differ (n ∷ ns) = not (list_any (λ m. bytes_eq m n) ns) && names_differ ns

abbrev pub veneers_differ : List Veneer → Bool
veneers_differ [] = true
veneers_differ (v ∷ vs) = not (list_any (λ w. bytes_eq w.name v.name) vs) && veneers_differ vs

-- whether the value of a symbol is of 32 bits
abbrev pub is_word : Symbol → Bool
is_word s = nat_lt s.value (2 ^ 32)

-- files and entries that can be linked, whatever the old library is
pub record IsLinkable (files : List (List ℕ)) (entries : List (List ℕ)) : Type 0 where
  pub are : All IsObjectFile files
  pub small : All (λ f. length f < 2 ^ 32) files
  pub can_link : CanLink (map object_in files) entries
  pub few : length entries ≤ 512
  pub differ : AllPairs (λ a b. a ≢ b) entries

-- The answer over files of which nothing is known: what is linked of them; or nothing, where they can't be linked; or that fault of the
-- old veneers that assigning finds.
abbrev pub LinksIf : List (List ℕ) → List (List ℕ) → List Veneer → Result (Option Linked) LinkFault → Type 0
LinksIf files entries old (Ok None) = Unit {0}
LinksIf files entries old (Ok (Some l)) = Links (map object_in files) entries old (Ok l)
LinksIf files entries old (Err fault) = Assigns entries old (Err fault)
