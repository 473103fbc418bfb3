-- The Secure ROM that linked objects make, and its symbols (DDI0553, vector table; ECM0359818, Secure gateway veneers).
use Rattle.std.specs.Prelude.{◌≡◌, ℕ, ◌+◌, ◌-◌, ◌==◌, ◌≤◌, List, [], ◌∷◌, ◌++◌, length, map, flat_map, replicate, codes, All, Contains, Option, Some, None, unwrap_or, if◌then◌else◌}
use Rattle.cm_base.specs.declared.regions.TheConstants.{NSC}
use Rattle.ns_types.specs.Platform.{row_size}
use Rattle.ns_types.specs.declared.event.Veneer.{Veneer}
use Rattle.elf32.specs.Tables.{padded}
use Rattle.elf_object.specs.declared.object.Object.{Object}
use Rattle.elf_object.specs.declared.object.Sited.{Sited}
use Rattle.elf_object.specs.declared.object.Symbol.{Symbol}
use Rattle.elf_object.specs.declared.object.Home.TheVariants.{Absolute}
use Rattle.elf_object.specs.File.{CanWrite}
use Rattle.elf_object.specs.Linked.{place_named, linked_text}
use Rattle.elf_object.specs.Placed.{vectors, veneer_code, twin, Placed}
use Rattle.elf_object.specs.CanLink.{CanLink, DefinesCode}
use Rattle.veneer_link.specs.Assign.{place_count, places_from}
use Rattle.veneer_laws.specs.Veneers.{AreVeneersOf}
use Rattle.link_laws.specs.Sites.{sited}

-- the place of the symbol of this name, where an object defines it
abbrev pub named : List Veneer → List Sited → List ℕ → ℕ
named veneers all name = unwrap_or (place_named veneers all name) 0

-- the vector table
abbrev pub table : List Veneer → List Sited → List ℕ
table veneers all = vectors (named veneers all (codes ".start")) (named veneers all (codes ".stop"))

-- the bytes of the texts, and of the initial contents, each with zero bytes up to a multiple of 4
abbrev pub text_part : List Veneer → List Sited → Sited → List ℕ
text_part veneers all s = padded s.text_at (linked_text veneers all s)

abbrev pub init_part : Sited → List ℕ
init_part s = padded s.init_at s.object.init

abbrev pub texts : List Veneer → List Sited → List ℕ
texts veneers all = flat_map (text_part veneers all) all

abbrev pub inits : List Sited → List ℕ
inits all = flat_map init_part all

-- the vector table, the texts and the initial contents
abbrev pub front : List Veneer → List Sited → List ℕ
front veneers all = table veneers all ++ texts veneers all ++ inits all

-- the veneer at an address
abbrev pub veneer_at : List Veneer → ℕ → Option Veneer
veneer_at [] at = None
veneer_at (v ∷ vs) at = if v.address == at then Some v else veneer_at vs at

-- the 8 bytes of a veneer, or of a place where none stands
abbrev pub gate : List Veneer → List Sited → Option Veneer → List ℕ
gate veneers all None = replicate 8 0
gate veneers all (Some v) = veneer_code v.address (named veneers all (twin v.name))

-- the Non-secure callable region
unfoldable pub gates : List Veneer → List Sited → List ℕ
gates veneers all = flat_map (λ at. gate veneers all (veneer_at veneers at)) (places_from place_count NSC.from)

-- bytes of Secure ROM with zero bytes behind them, up to the Non-secure callable region
unfoldable pub filled : List ℕ → List ℕ
filled bytes = bytes ++ replicate (row_size 2 - length bytes) 0

-- the Secure ROM with its Non-secure callable region
unfoldable pub linked_rom : List Veneer → List Sited → List ℕ
linked_rom veneers all = filled (front veneers all) ++ gates veneers all

-- the symbols of a veneer: its entry's name at its address, and the twin at the entry's code
abbrev pub symbols_of_veneer : List Veneer → List Sited → Veneer → List Symbol
symbols_of_veneer veneers all v =
    record { name = v.name; home = Absolute; value = v.address }
    ∷ record { name = twin v.name; home = Absolute; value = named veneers all (twin v.name) } ∷ []

abbrev pub linked_symbols : List Veneer → List Sited → List Symbol
linked_symbols veneers all = flat_map (symbols_of_veneer veneers all) veneers

-- objects that a program's units were compiled to, with the veneers of its entries
pub record CanMake (objects : List Object) (entries : List (List ℕ)) (veneers : List Veneer) : Type 0 where
  pub writable : All CanWrite objects
  pub can_link : CanLink objects entries
  pub are_veneers : AreVeneersOf entries veneers

-- the ROM holds the objects
abbrev pub PlacedLaw : Type 0
PlacedLaw = (objects : List Object) (entries : List (List ℕ)) (veneers : List Veneer) → CanMake objects entries veneers → Placed (linked_rom veneers (sited objects)) objects veneers

-- the symbol of an entry's twin is at the address of the entry's code
pub record LeadsToCode (veneers : List Veneer) (all : List Sited) (v : Veneer) : Type 0 where
  pub home : Sited
  pub among : Contains all home
  pub value : ℕ
  pub code : DefinesCode home.object v.name value
  pub twin_too : DefinesCode home.object (twin v.name) value
  pub leads : place_named veneers all (twin v.name) ≡ Some (home.text_at + value)

abbrev pub CodeLaw : Type 0
CodeLaw = (objects : List Object) (entries : List (List ℕ)) (veneers : List Veneer) → CanMake objects entries veneers → All (LeadsToCode veneers (sited objects)) veneers
