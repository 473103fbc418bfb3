-- A text with its relocations resolved, byte by byte (ELF for the Arm Architecture, Relocation).
use Rattle.std.specs.Prelude.{◌≡◌, ℕ, ◌+◌, ◌<◌, ◌≤◌, ◌⊎◌, List, length, slice_index, All, unwrap_or}
use Rattle.ns_types.specs.declared.event.Veneer.{Veneer}
use Rattle.elf_object.specs.declared.object.Object.{Object}
use Rattle.elf_object.specs.declared.object.Reloc.{Reloc}
use Rattle.elf_object.specs.declared.object.Sited.{Sited}
use Rattle.elf_object.specs.File.{CanWrite}
use Rattle.elf_object.specs.CanLink.{ObjectCanLink}
use Rattle.elf_object.specs.Linked.{reloc_place, register_at, resolved, linked_text}

-- the bytes that resolve a relocation of an object
abbrev pub resolving : List Veneer → List Sited → Sited → Reloc → List ℕ
resolving veneers all s r =
    resolved r.kind (s.text_at + r.at) (unwrap_or (reloc_place veneers all s r) 0) (register_at s.object.text r.at)

-- a byte isn't one of a relocation's
abbrev pub IsOutside : ℕ → Reloc → Type 0
IsOutside i r = (i < r.at) ⊎ (r.at + 4 ≤ i)

-- each relocation of an object is resolved in a text, and all else is as in the object
pub record IsResolved (veneers : List Veneer) (all : List Sited) (s : Sited) (text : List ℕ) : Type 0 where
  pub size : length text ≡ length s.object.text
  pub each : All (λ r. (j : ℕ) → j < 4 → slice_index text (r.at + j) ≡ slice_index (resolving veneers all s r) j) s.object.relocs
  pub others : (i : ℕ) → All (IsOutside i) s.object.relocs → slice_index text i ≡ slice_index s.object.text i

abbrev pub ResolvedLaw : Type 0
ResolvedLaw =
    (objects : List Object) (veneers : List Veneer) (all : List Sited) (s : Sited) → CanWrite s.object → ObjectCanLink objects s.object
    → IsResolved veneers all s (linked_text veneers all s)
