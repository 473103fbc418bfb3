-- Texts with their relocations resolved are as long as before.
use Rattle.std.proofs.Common.{◌≡◌, ℕ, ◌+◌, ◌-◌, ◌/◌, ◌%◌, ◌<◌, ◌≤◌, ◌==◌, ◌&&◌, Bool, true, false, min, List, [], ◌∷◌, ◌++◌, length, take, drop, fold, All, unwrap_or, if◌then◌else◌, refl, sym, ap, ◌∙◌, true≢false, arith, length-append, length-take, length-drop}
use Rattle.std.specs.Prelude.{nat_lt, nat_le}
use Rattle.std.specs.List.{list_all}
use Rattle.std.proofs.lemmas.Bool.Decides.{nat_tests}
use Rattle.ns_types.specs.declared.event.Veneer.{Veneer}
use Rattle.v8m_isa.specs.declared.instr.Instr.{Instr}
use Rattle.v8m_isa.specs.Table.{size_of}
use Rattle.v8m_isa.specs.Bytes.{instr_bytes}
use Rattle.elf_object.specs.declared.object.Object.{Object}
use Rattle.elf_object.specs.declared.object.Reloc.{Reloc}
use Rattle.elf_object.specs.declared.object.Sited.{Sited}
use Rattle.elf_object.specs.File.{is_kind, reloc_fits, CanWrite}
use Rattle.elf_object.specs.Linked.{resolved, with_bytes, with_reloc, linked_text, reloc_place, register_at}

pub and_left : (a b : Bool) → (a && b) ≡ true → a ≡ true
and_left true b e = refl
and_left false b e = e

pub and_right : (a b : Bool) → (a && b) ≡ true → b ≡ true
and_right true b e = e
and_right false b e = absurd (true≢false (sym e))

by_kind : (a b c d : Bool) (v w x y z : List ℕ) → length v ≡ 4 → length w ≡ 4 → length x ≡ 4 → length y ≡ 4 → length z ≡ 4 → length (if a then v else if b then w else if c then x else if d then y else z) ≡ 4
by_kind true b c d v w x y z ev ew ex ey ez = ev
by_kind false true c d v w x y z ev ew ex ey ez = ew
by_kind false false true d v w x y z ev ew ex ey ez = ex
by_kind false false false true v w x y z ev ew ex ey ez = ey
by_kind false false false false v w x y z ev ew ex ey ez = ez

length-resolved : (kind at place register : ℕ) → length (resolved kind at place register) ≡ 4
unfolding size_of
length-resolved kind at place register =
    by_kind (kind == 2) (kind == 10) (kind == 30) (kind == 47) _ _ _ _ _ refl refl refl refl refl

length-with_bytes : (text : List ℕ) (at : ℕ) (bytes : List ℕ) → length bytes ≡ 4 → at + 4 ≤ length text → length (with_bytes text at bytes) ≡ length text
length-with_bytes text at bytes four le =
    let a = length-append (take at text) (bytes ++ drop (at + length bytes) text) in
    let b = length-append bytes (drop (at + length bytes) text) in
    omega (arith, a, b, length-take at text, length-drop (at + length bytes) text, four, le)

pub at_most : (a b : ℕ) → nat_le a b ≡ true → a ≤ b
at_most a b e = grind (arith, nat_tests)

pub less : (a b : ℕ) → nat_lt a b ≡ true → a < b
less a b e = grind (arith, nat_tests)

pub ends_within : (size count : ℕ) (r : Reloc) → reloc_fits size count r ≡ true → r.at + 4 ≤ size
ends_within size count r fit =
    at_most (r.at + 4) size (and_right (nat_lt r.symbol count) (nat_le (r.at + 4) size) (and_right (is_kind r.kind) (nat_lt r.symbol count && nat_le (r.at + 4) size) fit))

pub numbered : (size count : ℕ) (r : Reloc) → reloc_fits size count r ≡ true → r.symbol < count
numbered size count r fit =
    less r.symbol count (and_left (nat_lt r.symbol count) (nat_le (r.at + 4) size) (and_right (is_kind r.kind) (nat_lt r.symbol count && nat_le (r.at + 4) size) fit))

length-with_reloc : (veneers : List Veneer) (all : List Sited) (s : Sited) (text : List ℕ) (r : Reloc) → r.at + 4 ≤ length text → length (with_reloc veneers all s text r) ≡ length text
unfolding with_reloc
length-with_reloc veneers all s text r le =
    length-with_bytes text r.at (resolved r.kind (s.text_at + r.at) (unwrap_or (reloc_place veneers all s r) 0) (register_at text r.at)) (length-resolved r.kind (s.text_at + r.at) (unwrap_or (reloc_place veneers all s r) 0) (register_at text r.at)) le

length-all : (veneers : List Veneer) (all : List Sited) (s : Sited) (size count : ℕ) (text : List ℕ) (rs : List Reloc) → length text ≡ size → list_all (reloc_fits size count) rs ≡ true → length (fold (with_reloc veneers all s) text rs) ≡ size
length-all veneers all s size count text [] e fit = e
length-all veneers all s size count text (r ∷ rs) e fit =
    let here = ends_within size count r (and_left (reloc_fits size count r) (list_all (reloc_fits size count) rs) fit) in
    length-all veneers all s size count (with_reloc veneers all s text r) rs
    (length-with_reloc veneers all s text r (omega (arith, here, e)) ∙ e)
    (and_right (reloc_fits size count r) (list_all (reloc_fits size count) rs) fit)

pub length-linked_text : (veneers : List Veneer) (all : List Sited) (s : Sited) → CanWrite s.object → length (linked_text veneers all s) ≡ length s.object.text
length-linked_text veneers all s can =
    length-all veneers all s (length s.object.text) (length s.object.symbols) s.object.text s.object.relocs refl can.relocs
