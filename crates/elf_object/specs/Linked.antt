-- Where the symbols of linked objects stand, and the text of an object with its relocations resolved (ELF for the Arm Architecture,
-- Relocation).
pub use Rattle.elf_object.specs.declared.object.Sited.{Sited}
use Rattle.std.specs.Prelude.{ℕ, ◌+◌, ◌/◌, ◌%◌, ◌==◌, List, [], ◌∷◌, ◌++◌, length, take, drop, bytes_eq, Option, Some, None, unwrap_or, option_and_then, slice_get, if◌then◌else◌}
use Rattle.std.specs.List.{fold}
use Rattle.cm_base.specs.LittleEndian.{le32}
use Rattle.ns_types.specs.declared.event.Veneer.{Veneer}
use Rattle.ns_types.specs.Memory.{half_at}
use Rattle.ns_types.specs.Operators.{subtract}
use Rattle.v8m_isa.specs.declared.instr.Instr.{Instr}
use Rattle.v8m_isa.specs.declared.instr.Instr.TheVariants.{B, Bl, Movw, Movt}
use Rattle.v8m_isa.specs.Decoding.{Decoded, decode_of}
use Rattle.v8m_isa.specs.Bytes.{instr_bytes}
use Rattle.elf_object.specs.declared.object.Object.{Object}
use Rattle.elf_object.specs.declared.object.Home.{Home}
use Rattle.elf_object.specs.declared.object.Home.TheVariants.{Undefined, Text, Init, Absolute}
use Rattle.elf_object.specs.declared.object.Symbol.{Symbol}
use Rattle.elf_object.specs.declared.object.Reloc.{Reloc}

-- this, or else that
abbrev pub or_else : Option ℕ → Option ℕ → Option ℕ
or_else None rest = rest
or_else (Some x) rest = Some x

-- the address of the veneer of an entry
abbrev pub veneer_of : List Veneer → List ℕ → Option ℕ
veneer_of [] name = None
veneer_of (v ∷ vs) name = if bytes_eq v.name name then Some v.address else veneer_of vs name

-- The place of a symbol that an object defines: its value where it is absolute; else that of its entry's veneer, if its name is that
-- of an entry; else its value added to the address of the object's text or initial contents.
abbrev pub place_in : List Veneer → Sited → List ℕ → ℕ → Home → Option ℕ
place_in veneers o name value Undefined = None
place_in veneers o name value Text = or_else (veneer_of veneers name) (Some (o.text_at + value))
place_in veneers o name value Init = or_else (veneer_of veneers name) (Some (o.init_at + value))
place_in veneers o name value Absolute = Some value

abbrev pub defined_place : List Veneer → Sited → Symbol → Option ℕ
defined_place veneers o s = place_in veneers o s.name s.value s.home

-- the place of the first of an object's symbols that has this name and is defined there
abbrev pub named_in : List Veneer → Sited → List Symbol → List ℕ → Option ℕ
named_in veneers o [] name = None
named_in veneers o (s ∷ ss) name =
    or_else (if bytes_eq s.name name then defined_place veneers o s else None) (named_in veneers o ss name)

-- the place of the symbol of this name that one of these objects defines
abbrev pub place_named : List Veneer → List Sited → List ℕ → Option ℕ
place_named veneers [] name = None
place_named veneers (o ∷ os) name = or_else (named_in veneers o o.object.symbols name) (place_named veneers os name)

-- the place of a symbol of an object: its own, or that of the symbol of its name that another object defines
abbrev pub place_of : List Veneer → List Sited → Sited → Symbol → Option ℕ
place_of veneers all o s = or_else (defined_place veneers o s) (place_named veneers all s.name)

-- the place of the symbol that a relocation of an object names
abbrev pub reloc_place : List Veneer → List Sited → Sited → Reloc → Option ℕ
reloc_place veneers all o r = option_and_then (place_of veneers all o) (slice_get o.object.symbols r.symbol)

-- the register that a MOVW or a MOVT writes
abbrev pub register_of : Instr → ℕ
register_of (Movw r i) = r
register_of (Movt r i) = r
register_of _ = 0

abbrev pub written_register : Option Decoded → ℕ
written_register None = 0
written_register (Some d) = register_of d.instr

-- the register of the instruction at a place of a text
abbrev pub register_at : List ℕ → ℕ → ℕ
register_at text at = written_register (decode_of (half_at text at) (half_at text (at + 2)))

-- The four bytes that stand at a relocation of a kind when it is resolved, where `at` is their address, `place` that of the symbol,
-- and `register` that of the instruction: the place itself, a BL or a B.W that leads to it, which counts from 4 bytes behind its
-- own address, or a MOVW or MOVT with its lower or upper half.
abbrev pub resolved : ℕ → ℕ → ℕ → ℕ → List ℕ
resolved kind at place register =
    if kind == 2 then le32 place
    else if kind == 10 then instr_bytes (Bl (subtract place (at + 4)))
    else if kind == 30 then instr_bytes (B (subtract place (at + 4)))
    else if kind == 47 then instr_bytes (Movw register (place % 65536))
    else instr_bytes (Movt register (place / 65536))

-- bytes with others put over them at a place
abbrev pub with_bytes : List ℕ → ℕ → List ℕ → List ℕ
with_bytes text at bytes = take at text ++ (bytes ++ drop (at + length bytes) text)

-- a text with one relocation resolved: all other bytes stay, and so do the form and the register of the instruction
unfoldable pub with_reloc : List Veneer → List Sited → Sited → List ℕ → Reloc → List ℕ
with_reloc veneers all o text r =
    with_bytes text r.at (resolved r.kind (o.text_at + r.at) (unwrap_or (reloc_place veneers all o r) 0) (register_at text r.at))

-- the text of an object with all of its relocations resolved
abbrev pub linked_text : List Veneer → List Sited → Sited → List ℕ
linked_text veneers all o = fold (with_reloc veneers all o) o.object.text o.object.relocs
