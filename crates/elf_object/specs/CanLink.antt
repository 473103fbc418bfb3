-- Objects that can be linked: what a compiler promises of those that it makes for one program (ELF for the Arm Architecture,
-- Relocation; ECM0359818, Secure gateway veneers).
use Rattle.std.specs.Prelude.{◌≡◌, ◌≢◌, ℕ, ◌+◌, ◌%◌, ◌≤◌, ◌==◌, ◌⊎◌, ◌&&◌, Bool, true, false, List, ◌++◌, length, sum_by, count_by, slice_get, bytes_eq, codes, All, AllPairs, Contains, Option, Some, None}
use Rattle.ns_types.specs.Memory.{half_at}
use Rattle.v8m_isa.specs.declared.instr.Instr.{Instr}
use Rattle.v8m_isa.specs.declared.instr.Instr.TheVariants.{B, Bl, Movw, Movt}
use Rattle.v8m_isa.specs.Decoding.{Decoded, decode_of}
use Rattle.elf_object.specs.declared.object.Object.{Object}
use Rattle.elf_object.specs.declared.object.Home.{Home}
use Rattle.elf_object.specs.declared.object.Home.TheVariants.{Undefined, Text, Init, Absolute}
use Rattle.elf_object.specs.declared.object.Symbol.{Symbol}
use Rattle.elf_object.specs.declared.object.Reloc.{Reloc}

-- a value of a symbol lies in its part: it is even and at most the length of the text, or at most that of the initial contents
abbrev pub HasValue : Object → ℕ → Home → Type 0
HasValue o value Undefined = Unit {0}
HasValue o value Text = (value % 2 ≡ 0) × (value ≤ length o.text)
HasValue o value Init = value ≤ length o.init
HasValue o value Absolute = Unit {0}

-- whether an instruction is of the form that a relocation of this kind is at: BL, B.W, MOVW or MOVT
abbrev pub is_form : ℕ → Instr → Bool
is_form kind (Bl off) = kind == 10
is_form kind (B off) = kind == 30
is_form kind (Movw d i) = kind == 47
is_form kind (Movt d i) = kind == 48
is_form kind _ = false

abbrev pub has_form : ℕ → Option Decoded → Bool
has_form kind None = false
has_form kind (Some d) = is_form kind d.instr

-- the instruction of its form stands at a relocation, where the kind isn't that of a word
abbrev pub HasForm : List ℕ → Reloc → Type 0
HasForm text r = (r.kind ≡ 2) ⊎ (has_form r.kind (decode_of (half_at text r.at) (half_at text (r.at + 2))) ≡ true)

-- two relocations share no byte
abbrev pub AreApart : Reloc → Reloc → Type 0
AreApart r q = (r.at + 4 ≤ q.at) ⊎ (q.at + 4 ≤ r.at)

-- a symbol is defined: in a part of its object, or absolutely
abbrev pub is_defined : Home → Bool
is_defined Undefined = false
is_defined Text = true
is_defined Init = true
is_defined Absolute = true

-- how often these objects define a name
abbrev pub definitions : List Object → List ℕ → ℕ
definitions objects name = sum_by (λ o. count_by (λ s. bytes_eq s.name name && is_defined s.home) o.symbols) objects

-- an object defines a name in its text, at this value
pub record DefinesCode (o : Object) (name : List ℕ) (value : ℕ) : Type 0 where
  pub symbol : Symbol
  pub among : Contains o.symbols symbol
  pub home_is : symbol.home ≡ Text
  pub name_is : symbol.name ≡ name
  pub value_is : symbol.value ≡ value

-- one of these objects defines a name in its text
pub record IsCode (objects : List Object) (name : List ℕ) : Type 0 where
  pub object : Object
  pub among : Contains objects object
  pub value : ℕ
  pub defines : DefinesCode object name value

-- a branch may lead to this symbol: it is in the text of its object, or in that of another one
abbrev pub IsTarget : List Object → List ℕ → Home → Type 0
IsTarget objects name Undefined = IsCode objects name
IsTarget objects name Text = Unit {0}
IsTarget objects name Init = ⊥
IsTarget objects name Absolute = ⊥

-- a relocation of an object: its place is even, the instruction of its form stands there, and a branch leads to code
pub record RelocCanLink (objects : List Object) (o : Object) (r : Reloc) : Type 0 where
  pub even : r.at % 2 ≡ 0
  pub form : HasForm o.text r
  pub symbol : Symbol
  pub symbol_is : slice_get o.symbols r.symbol ≡ Some symbol
  pub target : (r.kind ≡ 10) ⊎ (r.kind ≡ 30) → IsTarget objects symbol.name symbol.home

-- one of the objects that are linked together
pub record ObjectCanLink (objects : List Object) (o : Object) : Type 0 where
  pub values : All (λ s. HasValue o s.value s.home) o.symbols
  pub relocs : All (RelocCanLink objects o) o.relocs
  pub apart : AllPairs AreApart o.relocs
  pub defined : All (λ s. is_defined s.home ≡ false → definitions objects s.name ≡ 1) o.symbols

-- an entry: an object has its code under its name and under its twin's, at one value, and no other one defines them
pub record EntryCanLink (objects : List Object) (name : List ℕ) : Type 0 where
  pub object : Object
  pub among : Contains objects object
  pub value : ℕ
  pub code : DefinesCode object name value
  pub twin : DefinesCode object (codes "__acle_se_" ++ name) value
  pub once : definitions objects name ≡ 1
  pub twin_once : definitions objects (codes "__acle_se_" ++ name) ≡ 1

-- The objects and the entries of a program. The sources' texts have at most 4,096,000 bytes and that of the start code 4,096; each
-- begins at a multiple of 4; there are at most 33 objects, and at most 49,152 bytes of initial contents. No entry has the name that
-- the code of one has.
pub record CanLink (objects : List Object) (entries : List (List ℕ)) : Type 0 where
  pub each : All (ObjectCanLink objects) objects
  pub few : length objects ≤ 33
  pub texts : sum_by (λ o. length o.text) objects ≤ 4100096
  pub inits : sum_by (λ o. length o.init) objects ≤ 49152
  pub entries_are : All (EntryCanLink objects) entries
  pub twins : All (λ name. All (λ other. codes "__acle_se_" ++ name ≢ other) entries) entries
  pub start : IsCode objects (codes ".start")
  pub start_once : definitions objects (codes ".start") ≡ 1
  pub stop : IsCode objects (codes ".stop")
  pub stop_once : definitions objects (codes ".stop") ≡ 1
