-- A Secure ROM that holds linked objects, their vector table, and the veneers of their entries (DDI0553, vector table; ECM0359818,
-- Secure gateway veneers).
use Rattle.std.specs.Prelude.{◌≡◌, ℕ, ◌+◌, ◌-◌, ◌%◌, ◌<◌, ◌≤◌, true, List, [], ◌∷◌, ◌++◌, length, map, flat_map, replicate, take, drop, slice_index, codes, All, Contains, IsSome, Some}
use Rattle.cm_base.specs.declared.regions.TheConstants.{SECURE_ROM}
use Rattle.cm_base.specs.LittleEndian.{le32}
use Rattle.ns_types.specs.declared.event.Veneer.{Veneer}
use Rattle.ns_types.specs.Gateway.{is_gateway}
use Rattle.ns_types.specs.Operators.{subtract}
use Rattle.ns_types.specs.Platform.{row_size, in_row}
use Rattle.ns_types.specs.SecureRam.{main_seal}
use Rattle.ns_types.specs.State.{device_of}
use Rattle.v8m_isa.specs.declared.instr.Instr.TheVariants.{Sg, B}
use Rattle.v8m_isa.specs.Bytes.{code_bytes}
use Rattle.elf_object.specs.declared.object.Object.{Object}
use Rattle.elf_object.specs.Linked.{Sited, place_named, reloc_place, linked_text}

-- these bytes stand at an address of Secure ROM
abbrev pub HasBytes : List ℕ → ℕ → List ℕ → Type 0
HasBytes rom at bytes = take (length bytes) (drop (at - SECURE_ROM.from) rom) ≡ bytes

-- bytes of this number at a multiple of 4 in Secure ROM
abbrev pub IsSite : ℕ → ℕ → Type 0
IsSite at size = (at % 4 ≡ 0) × (SECURE_ROM.from ≤ at) × (at + size ≤ SECURE_ROM.to)

-- an object stands in a ROM: its text, with each relocation resolved, and its initial contents
pub record StandsIn (rom : List ℕ) (veneers : List Veneer) (all : List Sited) (o : Sited) : Type 0 where
  pub text_site : IsSite o.text_at (length o.object.text)
  pub init_site : IsSite o.init_at (length o.object.init)
  pub resolvable : All (λ r. IsSome (reloc_place veneers all o r)) o.object.relocs
  pub text : HasBytes rom o.text_at (linked_text veneers all o)
  pub init : HasBytes rom o.init_at o.object.init

-- the main stack pointer, the reset address, and 14 times the place of the one UDF 0, each address with bit 0 set
abbrev pub vectors : ℕ → ℕ → List ℕ
vectors start stop = flat_map le32 (main_seal ∷ (start + 1) ∷ replicate 14 (stop + 1))

-- a veneer at an address: SG, and a B.W to the entry's code, which counts from 4 bytes behind its own address
abbrev pub veneer_code : ℕ → ℕ → List ℕ
veneer_code address code = code_bytes (Sg ∷ B (subtract code (address + 8)) ∷ [])

-- the name of an entry's code
abbrev pub twin : List ℕ → List ℕ
twin name = codes "__acle_se_" ++ name

-- a veneer stands in a ROM, and leads to its entry's code
abbrev pub HasVeneer : List ℕ → List Veneer → List Sited → Veneer → Type 0
HasVeneer rom veneers all v =
    (code : ℕ) × (place_named veneers all (twin v.name) ≡ Some code) × HasBytes rom v.address (veneer_code v.address code)

-- an address within a veneer
abbrev pub IsWithin : ℕ → Veneer → Type 0
IsWithin a v = (v.address ≤ a) × (a < v.address + 8)

-- A ROM that holds objects at these places: the vector table with the places of `.start` and `.stop`, each object, and the veneers.
-- Bytes of the Non-secure callable region outside of veneers are 0, and a gateway stands at no other even address than a veneer's.
pub record PlacedAt (rom : List ℕ) (all : List Sited) (veneers : List Veneer) : Type 0 where
  pub size : length rom ≡ row_size 2 + row_size 3
  pub start : ℕ
  pub start_is : place_named veneers all (codes ".start") ≡ Some start
  pub stop : ℕ
  pub stop_is : place_named veneers all (codes ".stop") ≡ Some stop
  pub table : HasBytes rom SECURE_ROM.from (vectors start stop)
  pub objects : All (StandsIn rom veneers all) all
  pub gateways : All (HasVeneer rom veneers all) veneers
  pub zeros : (a : ℕ) → in_row 3 a ≡ true → All (λ v. ¬ (IsWithin a v)) veneers → slice_index rom (a - SECURE_ROM.from) ≡ 0
  pub only : (a : ℕ) → a % 2 ≡ 0 → is_gateway (device_of rom) a ≡ true → Contains (map (λ v. v.address) veneers) a

-- a ROM that holds objects at some places
pub record Placed (rom : List ℕ) (objects : List Object) (veneers : List Veneer) : Type 0 where
  pub all : List Sited
  pub objects_are : map (λ o. o.object) all ≡ objects
  pub placed : PlacedAt rom all veneers
