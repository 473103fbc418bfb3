-- Relocations of a text, where the places of its symbols are known (ELF for the Arm Architecture, Relocation).
use Rattle.std.specs.Prelude.{◌≡◌, ℕ, ◌+◌, ◌⊎◌, true, List, slice_index}
use Rattle.std.specs.List.{fold}
use Rattle.ns_types.specs.Operators.{subtract}
use Rattle.v8m_isa.specs.Table.{is_offset}
use Rattle.elf_object.specs.declared.object.Reloc.{Reloc}
use Rattle.elf_object.specs.Linked.{register_at, resolved, with_bytes}

-- a branch at an address can lead to a place: the offset, which counts from 4 bytes behind the address, is even and within 16 MB
abbrev pub Reaches : ℕ → ℕ → ℕ → Type 0
Reaches kind at place = (kind ≡ 10) ⊎ (kind ≡ 30) → is_offset 24 (subtract place (at + 4)) ≡ true

-- a text at an address, with a relocation resolved whose symbol has this place
unfoldable pub with_place : ℕ → List ℕ → Reloc → ℕ → List ℕ
with_place text_at text r place = with_bytes text r.at (resolved r.kind (text_at + r.at) place (register_at text r.at))

-- a text at an address, with each of these relocations resolved, where these are the places of the symbols by their numbers
abbrev pub linked_by : ℕ → List ℕ → List ℕ → List Reloc → List ℕ
linked_by text_at places text relocs = fold (λ t r. with_place text_at t r (slice_index places r.symbol)) text relocs
