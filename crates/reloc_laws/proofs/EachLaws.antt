-- Relocations that share no byte are resolved one after the other.
use Rattle.std.proofs.Common.{◌≡◌, ℕ, zero, suc, ◌+◌, ◌-◌, ◌*◌, ◌%◌, ◌<◌, ◌≤◌, ◌==◌, Bool, true, false, if◌then◌else◌, List, [], ◌∷◌, ◌++◌, length, take, drop, get_or, fold, slice_index, All, AllPairs, unwrap_or, inl, inr, refl, sym, ap, ◌∙◌, arith, length-append, length-take, length-drop, get_or-take, get_or-drop}
use Rattle.std.specs.List.{list_all}
use Rattle.std.proofs.lemmas.List.{get_or_append_left, get_or-append_right, length-take-le}
use Rattle.std.proofs.lemmas.List.Elements.{All-head, All-tail}
use Rattle.ns_types.specs.declared.event.Veneer.{Veneer}
use Rattle.ns_types.specs.Memory.{half_at}
use Rattle.v8m_isa.specs.Decoding.{decode_of}
use Rattle.v8m_isa.specs.Table.{size_of}
use Rattle.elf_object.specs.declared.object.Reloc.{Reloc}
use Rattle.elf_object.specs.declared.object.Sited.{Sited}
use Rattle.elf_object.specs.File.{reloc_fits}
use Rattle.elf_object.specs.CanLink.{AreApart}
use Rattle.elf_object.specs.Linked.{reloc_place, register_at, written_register, resolved, with_bytes, with_reloc}
use Rattle.link_laws.proofs.TextLaws.{and_left, and_right, ends_within, length-linked_text}
use Rattle.reloc_laws.specs.Resolved.{IsOutside, ResolvedLaw}

-- ---- bytes put over others

by_kind : (a b c d : Bool) (v w x y z : List ℕ) → length v ≡ 4 → length w ≡ 4 → length x ≡ 4 → length y ≡ 4 → length z ≡ 4 → length (if a then v else if b then w else if c then x else if d then y else z) ≡ 4
by_kind true b c d v w x y z ev ew ex ey ez = ev
by_kind false true c d v w x y z ev ew ex ey ez = ew
by_kind false false true d v w x y z ev ew ex ey ez = ex
by_kind false false false true v w x y z ev ew ex ey ez = ey
by_kind false false false false v w x y z ev ew ex ey ez = ez

length-resolved : (kind at place register : ℕ) → length (resolved kind at place register) ≡ 4
unfolding size_of
length-resolved kind at place register =
    by_kind (kind == 2) (kind == 10) (kind == 30) (kind == 47) _ _ _ _ _ refl refl refl refl refl

length-with_bytes : (text : List ℕ) (at : ℕ) (bytes : List ℕ) → length bytes ≡ 4 → at + 4 ≤ length text → length (with_bytes text at bytes) ≡ length text
length-with_bytes text at bytes four le =
    let a = length-append (take at text) (bytes ++ drop (at + length bytes) text) in
    let b = length-append bytes (drop (at + length bytes) text) in
    omega (arith, a, b, length-take at text, length-drop (at + length bytes) text, four, le)

inside : (text : List ℕ) (at : ℕ) (bytes : List ℕ) (j : ℕ) → length bytes ≡ 4 → at + 4 ≤ length text → j < 4 → slice_index (with_bytes text at bytes) (at + j) ≡ slice_index bytes j
inside text at bytes j four le lt =
    let front = length-take-le at text (omega (arith, le)) in
    let e : at + j - at ≡ j = omega arith in
    get_or-append_right (take at text) (bytes ++ drop (at + length bytes) text) at (at + j) 0 front (omega arith)
    ∙ (ap (slice_index (bytes ++ drop (at + length bytes) text)) e ∙ get_or_append_left bytes (drop (at + length bytes) text) 0 j (omega (arith, four, lt)))

below : (text : List ℕ) (at : ℕ) (bytes : List ℕ) (i : ℕ) → at + 4 ≤ length text → i < at → slice_index (with_bytes text at bytes) i ≡ slice_index text i
below text at bytes i le lt =
    let front = length-take-le at text (omega (arith, le)) in
    get_or_append_left (take at text) (bytes ++ drop (at + length bytes) text) 0 i (omega (arith, front, lt)) ∙ get_or-take at text i 0 lt

above : (text : List ℕ) (at : ℕ) (bytes : List ℕ) (i : ℕ) → length bytes ≡ 4 → at + 4 ≤ length text → at + 4 ≤ i → slice_index (with_bytes text at bytes) i ≡ slice_index text i
above text at bytes i four le past =
    let front = length-take-le at text (omega (arith, le)) in
    let e : at + length bytes + (i - at - 4) ≡ i = omega (arith, four, past) in
    get_or-append_right (take at text) (bytes ++ drop (at + length bytes) text) at i 0 front (omega (arith, past))
    ∙ (get_or-append_right bytes (drop (at + length bytes) text) 4 (i - at) 0 four (omega (arith, past))
    ∙ (get_or-drop (at + length bytes) text (i - at - 4) 0 ∙ ap (slice_index text) e))

module _ (veneers : List Veneer) (all : List Sited) (s : Sited) where
  -- the bytes that resolve a relocation of a text
  abbrev bytes_of : List ℕ → Reloc → List ℕ
  bytes_of text r =
      resolved r.kind (s.text_at + r.at) (unwrap_or (reloc_place veneers all s r) 0) (register_at text r.at)

  four : (text : List ℕ) (r : Reloc) → length (bytes_of text r) ≡ 4
  four text r = length-resolved r.kind (s.text_at + r.at) (unwrap_or (reloc_place veneers all s r) 0) (register_at text r.at)

  length-with_reloc : (text : List ℕ) (r : Reloc) → r.at + 4 ≤ length text → length (with_reloc veneers all s text r) ≡ length text
  unfolding with_reloc
  length-with_reloc text r le = length-with_bytes text r.at (bytes_of text r) (four text r) le

  here : (text : List ℕ) (r : Reloc) (j : ℕ) → r.at + 4 ≤ length text → j < 4 → slice_index (with_reloc veneers all s text r) (r.at + j) ≡ slice_index (bytes_of text r) j
  unfolding with_reloc
  here text r j le lt = inside text r.at (bytes_of text r) j (four text r) le lt

  outside : (text : List ℕ) (r : Reloc) (i : ℕ) → r.at + 4 ≤ length text → IsOutside i r → slice_index (with_reloc veneers all s text r) i ≡ slice_index text i
  unfolding with_reloc
  outside text r i le (inl lt) = below text r.at (bytes_of text r) i le lt
  outside text r i le (inr past) = above text r.at (bytes_of text r) i (four text r) le past

  kept : (size count : ℕ) (text : List ℕ) (rs : List Reloc) (i : ℕ) → length text ≡ size → list_all (reloc_fits size count) rs ≡ true → All (IsOutside i) rs → slice_index (fold (with_reloc veneers all s) text rs) i ≡ slice_index text i
  kept size count text [] i e fit out = refl
  kept size count text (r ∷ rs) i e fit out =
      let le = ends_within size count r (and_left (reloc_fits size count r) (list_all (reloc_fits size count) rs) fit) in
      let low : r.at + 4 ≤ length text = omega (arith, le, e) in
      kept size count (with_reloc veneers all s text r) rs i (length-with_reloc text r low ∙ e) (and_right (reloc_fits size count r) (list_all (reloc_fits size count) rs) fit) (All-tail (IsOutside i) r rs out)
      ∙ outside text r i low (All-head (IsOutside i) r rs out)

  -- the register stays where bytes elsewhere change
  half_same : (a b : List ℕ) (i : ℕ) → slice_index a i ≡ slice_index b i → slice_index a (i + 1) ≡ slice_index b (i + 1) → half_at a i ≡ half_at b i
  unfolding half_at
  half_same a b i e f =
      ap (λ n. (n + 256 * slice_index a (i + 1)) % 65536) e ∙ ap (λ n. (slice_index b i + 256 * n) % 65536) f

  register_same : (a b : List ℕ) (at : ℕ) → ((j : ℕ) → j < 4 → slice_index a (at + j) ≡ slice_index b (at + j)) → register_at a at ≡ register_at b at
  register_same a b at same =
      let at0 : at + 0 ≡ at = omega arith in
      let at3 : at + 3 ≡ at + 2 + 1 = omega arith in
      let one = half_same a b at (ap (slice_index a) (sym at0) ∙ (same 0 (omega arith) ∙ ap (slice_index b) at0)) (same 1 (omega arith)) in
      let two = half_same a b (at + 2) (same 2 (omega arith)) (ap (slice_index a) (sym at3) ∙ (same 3 (omega arith) ∙ ap (slice_index b) at3)) in
      ap (λ h. written_register (decode_of h (half_at a (at + 2)))) one ∙ ap (λ h. written_register (decode_of (half_at b at) h)) two

  apart_bytes : (r q : Reloc) (j : ℕ) → AreApart r q → j < 4 → IsOutside (q.at + j) r
  apart_bytes r q j (inl before) lt = inr (omega (arith, before))
  apart_bytes r q j (inr behind) lt = inl (omega (arith, behind, lt))

  apart_back : (r q : Reloc) (j : ℕ) → AreApart r q → j < 4 → IsOutside (r.at + j) q
  apart_back r q j (inl before) lt = inl (omega (arith, before, lt))
  apart_back r q j (inr behind) lt = inr (omega (arith, behind))

  each : (size count : ℕ) (text : List ℕ) (rs : List Reloc) (k j : ℕ) (d : Reloc) → length text ≡ size → list_all (reloc_fits size count) rs ≡ true → AllPairs AreApart rs → k < length rs → j < 4 → slice_index (fold (with_reloc veneers all s) text rs) ((get_or rs k d).at + j) ≡ slice_index (bytes_of text (get_or rs k d)) j
  each size count text [] k j d e fit apart lt low = absurd (omega (arith, lt))
  each size count text (r ∷ rs) zero j d e fit apart lt low =
      let le = ends_within size count r (and_left (reloc_fits size count r) (list_all (reloc_fits size count) rs) fit) in
      let in_text : r.at + 4 ≤ length text = omega (arith, le, e) in
      kept size count (with_reloc veneers all s text r) rs (r.at + j) (length-with_reloc text r in_text ∙ e) (and_right (reloc_fits size count r) (list_all (reloc_fits size count) rs) fit) (λ m c there. apart_back r (get_or rs m c) j (apart 0 (suc m) c (omega arith) (omega (arith, there))) low)
      ∙ here text r j in_text low
  each size count text (r ∷ rs) (suc k) j d e fit apart lt low =
      let le = ends_within size count r (and_left (reloc_fits size count r) (list_all (reloc_fits size count) rs) fit) in
      let in_text : r.at + 4 ≤ length text = omega (arith, le, e) in
      let q = get_or rs k d in
      let from_r = apart 0 (suc k) d (omega arith) lt in
      let same = register_same (with_reloc veneers all s text r) text q.at (λ m small. outside text r (q.at + m) in_text (apart_bytes r q m from_r small)) in
      each size count (with_reloc veneers all s text r) rs k j d (length-with_reloc text r in_text ∙ e) (and_right (reloc_fits size count r) (list_all (reloc_fits size count) rs) fit) (λ a b c up there. apart (suc a) (suc b) c (omega (arith, up)) (omega (arith, there))) (omega (arith, lt)) low
      ∙ ap (λ n. slice_index (resolved q.kind (s.text_at + q.at) (unwrap_or (reloc_place veneers all s q) 0) n) j) same

pub resolved_law : ResolvedLaw
resolved_law objects veneers all s can link = record {
  size = length-linked_text veneers all s can;
  each = λ k d lt j low. each veneers all s (length s.object.text) (length s.object.symbols) s.object.text s.object.relocs k j d refl can.relocs link.apart lt low;
  others = λ i out. kept veneers all s (length s.object.text) (length s.object.symbols) s.object.text s.object.relocs i refl can.relocs out;
}
