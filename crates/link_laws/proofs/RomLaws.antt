-- The ROM that linked objects make holds them.
use Rattle.std.proofs.Common.{◌≡◌, ℕ, ◌+◌, ◌-◌, ◌*◌, ◌/◌, ◌%◌, ◌<◌, ◌≤◌, Bool, true, List, [], ◌∷◌, ◌++◌, length, map, get_or, take, drop, replicate, flat_map, slice_index, All, Contains, Option, Some, None, codes, unwrap_or, refl, sym, ap, ◌∙◌, subst, arith, append_assoc, length-append}
use Rattle.std.proofs.lemmas.List.{drop_at, drop-drop, get_or-append_right, get_or_default, length-replicate}
use Rattle.std.proofs.lemmas.List.Elements.{All-weaker, All-contains}
use Rattle.cm_base.specs.declared.regions.TheConstants.{SECURE_ROM, NSC}
use Rattle.ns_types.specs.declared.event.Veneer.{Veneer}
use Rattle.ns_types.specs.Gateway.{is_gateway}
use Rattle.ns_types.specs.Memory.{half_at}
use Rattle.ns_types.specs.Platform.{row_size, in_row}
use Rattle.ns_types.specs.State.{device_of}
use Rattle.elf_object.specs.declared.object.Object.{Object}
use Rattle.elf_object.specs.declared.object.Sited.{Sited}
use Rattle.elf_object.specs.File.{CanWrite}
use Rattle.elf_object.specs.Linked.{place_named, linked_text}
use Rattle.elf_object.specs.Placed.{HasBytes, StandsIn, vectors, veneer_code, twin, HasVeneer, IsWithin, PlacedAt, Placed}
use Rattle.veneer_link.specs.Assign.{place_count, places_from, is_place}
use Rattle.link_laws.specs.Sites.{first_text, first_init, behind_inits, sited}
use Rattle.link_laws.specs.Rom.{named, table, texts, inits, front, filled, veneer_at, gate, gates, linked_rom, CanMake, PlacedLaw}
use Rattle.link_laws.proofs.SiteLaws.{IsSited, Fits, are_sited, objects_are, each}
use Rattle.link_laws.proofs.PartLaws.{has_bytes, there, ends, chain_end, Chained, texts_chained, texts_chain_end, inits_chained, inits_chain_end}
use Rattle.link_laws.proofs.TextLaws.{length-linked_text, and_left, and_right, at_most, less}
use Rattle.link_laws.proofs.CodeLaws.{Reach, all_fit, code_there, resolvable, twin_there}
use Rattle.link_laws.proofs.GateLaws.{length-blocks, block_at, byte_at_block, length-veneer, length-gate, begins, veneer_is, veneer_there, contains_address, zero_byte, gateway_parts, row_parts}
use Rattle.veneer_laws.proofs.Places.{equal_numbers}

count_is : place_count ≡ 512
unfolding place_count
count_is = refl

length-vectors : (start stop : ℕ) → length (vectors start stop) ≡ 64
length-vectors start stop = refl

-- ---- texts and initial contents, for the objects of a program

chained_texts : (f : Sited → List ℕ) (objects : List Object) → All (λ s. length (f s) ≡ length s.object.text) (sited objects) → Chained (λ s. s.text_at) f first_text (sited objects)
unfolding sited
chained_texts f objects same = texts_chained f first_text (first_init objects) objects same

end_of_texts : (f : Sited → List ℕ) (objects : List Object) → All (λ s. length (f s) ≡ length s.object.text) (sited objects) → chain_end (λ s. s.text_at) f first_text (sited objects) ≡ first_init objects
unfolding sited
end_of_texts f objects same = texts_chain_end f first_text (first_init objects) objects same

chained_inits : (objects : List Object) → Chained (λ s. s.init_at) (λ s. s.object.init) (first_init objects) (sited objects)
unfolding sited
chained_inits objects = inits_chained first_text (first_init objects) objects

end_of_inits : (objects : List Object) → chain_end (λ s. s.init_at) (λ s. s.object.init) (first_init objects) (sited objects) ≡ behind_inits (first_init objects) objects
unfolding sited
end_of_inits objects = inits_chain_end first_text (first_init objects) objects

-- ---- five parts

parts : (t x i z g : List ℕ) → (t ++ x ++ i ++ z) ++ g ≡ t ++ (x ++ (i ++ (z ++ g)))
parts t x i z g = simp append_assoc

parts_inits : (t x i z g : List ℕ) → (t ++ x ++ i ++ z) ++ g ≡ (t ++ x) ++ (i ++ (z ++ g))
parts_inits t x i z g = simp append_assoc

module _ (objects : List Object) (entries : List (List ℕ)) (veneers : List Veneer) (make : CanMake objects entries veneers) where
  abbrev all : List Sited
  all = sited objects

  sites : All IsSited all
  sites = are_sited objects (all_fit objects entries veneers make)

  same : All (λ s. length (linked_text veneers all s) ≡ length s.object.text) all
  same =
      All-weaker (λ s. CanWrite s.object) (λ s. length (linked_text veneers all s) ≡ length s.object.text) (λ s w. length-linked_text veneers all s w) all (each CanWrite objects make.writable)

  abbrev t : List ℕ
  t = table veneers all

  abbrev x : List ℕ
  x = texts veneers all

  abbrev i : List ℕ
  i = inits all

  abbrev z : List ℕ
  z = replicate (row_size 2 - length (front veneers all)) 0

  abbrev g : List ℕ
  g = gates veneers all

  abbrev rom : List ℕ
  rom = linked_rom veneers all

  rom_is : rom ≡ (t ++ x ++ i ++ z) ++ g
  unfolding linked_rom filled
  rom_is = refl

  texts_end : SECURE_ROM.from + length (t ++ x) ≡ first_init objects
  texts_end =
      ends (λ s. s.text_at) (linked_text veneers all) t first_text all refl (chained_texts (linked_text veneers all) objects same) ∙ end_of_texts (linked_text veneers all) objects same

  inits_end : SECURE_ROM.from + length (t ++ x ++ i) ≡ behind_inits (first_init objects) objects
  inits_end =
      ends (λ s. s.init_at) (λ s. s.object.init) (t ++ x) (first_init objects) all texts_end (chained_inits objects) ∙ end_of_inits objects

  pub front_low : length (front veneers all) ≤ row_size 2
  front_low = omega (arith, inits_end, (all_fit objects entries veneers make).inits)

  filled_size : length (t ++ x ++ i ++ z) ≡ row_size 2
  filled_size =
      let a = length-append (t ++ x ++ i) z in
      let r = length-replicate {A = ℕ} (row_size 2 - length (front veneers all)) 0 in
      omega (arith, a, r, front_low)

  gates_are : g ≡ flat_map (λ at. gate veneers all (veneer_at veneers at)) (places_from place_count NSC.from)
  unfolding gates
  gates_are = refl

  eight : (at : ℕ) → length (gate veneers all (veneer_at veneers at)) ≡ 8
  eight at = length-gate veneers all (veneer_at veneers at)

  size : length rom ≡ row_size 2 + row_size 3
  size =
      let a = length-append (t ++ x ++ i ++ z) g in
      let b = ap length gates_are in
      let c = length-blocks (λ at. gate veneers all (veneer_at veneers at)) eight place_count NSC.from in
      omega (arith, ap length rom_is, a, b, c, filled_size, count_is)

  -- a byte of the Non-secure callable region
  byte_there : (k j : ℕ) → k < 512 → j < 8 → slice_index rom (row_size 2 + (8 * k + j)) ≡ slice_index (gate veneers all (veneer_at veneers (NSC.from + 8 * k))) j
  byte_there k j lt low =
      let e : row_size 2 + (8 * k + j) - row_size 2 ≡ 8 * k + j = omega arith in
      ap (λ r. slice_index r (row_size 2 + (8 * k + j))) rom_is
      ∙ (get_or-append_right (t ++ x ++ i ++ z) g (row_size 2) (row_size 2 + (8 * k + j)) 0 filled_size (omega arith)
      ∙ (ap (slice_index g) e
      ∙ (ap (λ l. slice_index l (8 * k + j)) gates_are
      ∙ byte_at_block (λ at. gate veneers all (veneer_at veneers at)) eight place_count NSC.from k j (omega (arith, lt, count_is)) low)))

  half_there : (k j : ℕ) → k < 512 → j < 7 → half_at rom (row_size 2 + (8 * k + j)) ≡ half_at (gate veneers all (veneer_at veneers (NSC.from + 8 * k))) j
  unfolding half_at
  half_there k j lt low =
      let e : row_size 2 + (8 * k + j) + 1 ≡ row_size 2 + (8 * k + (j + 1)) = omega arith in
      ap (λ n. (n + 256 * slice_index rom (row_size 2 + (8 * k + j) + 1)) % 65536) (byte_there k j lt (omega (arith, low)))
      ∙ ap (λ n. (slice_index (gate veneers all (veneer_at veneers (NSC.from + 8 * k))) j + 256 * n) % 65536) (ap (slice_index rom) e ∙ byte_there k (j + 1) lt (omega (arith, low)))

  -- the bytes of the place that a veneer stands at
  block_there : (k : ℕ) → k < 512 → take 8 (drop (row_size 2 + 8 * k) rom) ≡ gate veneers all (veneer_at veneers (NSC.from + 8 * k))
  block_there k lt =
      ap (λ r. take 8 (drop (row_size 2 + 8 * k) r)) rom_is
      ∙ (ap (take 8) (sym (drop-drop (8 * k) (row_size 2) ((t ++ x ++ i ++ z) ++ g)))
      ∙ (ap (λ l. take 8 (drop (8 * k) l)) (drop_at (t ++ x ++ i ++ z) g (row_size 2) filled_size ∙ gates_are)
      ∙ block_at (λ at. gate veneers all (veneer_at veneers at)) eight place_count NSC.from k (omega (arith, lt, count_is))))

  veneer_here : (j : ℕ) (d : Veneer) → j < length veneers → HasVeneer rom veneers all (get_or veneers j d)
  veneer_here j d lt =
      let v = get_or veneers j d in
      let code = twin_there objects entries veneers make j d lt in
      let p = make.are_veneers.places j d lt in
      let low = at_most NSC.from v.address (and_left _ _ p) in
      let rest = and_right _ _ p in
      let high = less v.address NSC.to (and_left _ _ rest) in
      let eighth = equal_numbers (v.address % 8) 0 (and_right _ _ rest) in
      let k = (v.address - NSC.from) / 8 in
      let at : NSC.from + 8 * k ≡ v.address = omega (arith, low, eighth) in
      let off : v.address - SECURE_ROM.from ≡ row_size 2 + 8 * k = omega (arith, low, eighth) in
      let named_is : named veneers all (twin v.name) ≡ code.place = ap (λ o. unwrap_or o 0) code.is in
      let found = veneer_there veneers make.are_veneers.ascending v j lt (get_or_itself j d lt) in
      let bytes = veneer_code v.address code.place in (
        code.place,
        code.is,
        ap (λ n. take n (drop (v.address - SECURE_ROM.from) rom)) (length-veneer v.address code.place)
            ∙ (ap (λ n. take 8 (drop n rom)) off
            ∙ (block_there k (omega (arith, low, high))
            ∙ (ap (λ a. gate veneers all (veneer_at veneers a)) at
            ∙ (ap (gate veneers all) found ∙ ap (veneer_code v.address) named_is)))),
      )
    where
      get_or_itself : (j : ℕ) (d : Veneer) → j < length veneers → get_or veneers j (get_or veneers j d) ≡ get_or veneers j d
      get_or_itself j d lt = get_or_default veneers j (get_or veneers j d) d lt

  zeros : (a : ℕ) → in_row 3 a ≡ true → All (λ v. ¬ (IsWithin a v)) veneers → slice_index rom (a - SECURE_ROM.from) ≡ 0
  zeros a row none =
      let r = row_parts a row in
      let k = (a - NSC.from) / 8 in
      let j = (a - NSC.from) % 8 in
      let off : a - SECURE_ROM.from ≡ row_size 2 + (8 * k + j) = omega (arith, r.0) in
      ap (slice_index rom) off ∙ (byte_there k j (omega (arith, r.0, r.1)) (omega arith) ∙ by k j (veneer_at veneers (NSC.from + 8 * k)) refl (omega (arith, r.0)) (omega arith))
    where
      by : (k j : ℕ) (o : Option Veneer) → veneer_at veneers (NSC.from + 8 * k) ≡ o → NSC.from + 8 * k + j ≡ a → j < 8 → slice_index (gate veneers all o) j ≡ 0
      by k j None e at low = zero_byte j
      by k j (Some v) e at low =
          let is = veneer_is veneers (NSC.from + 8 * k) v e in
          absurd (All-contains (λ w. ¬ (IsWithin a w)) veneers v none is.0 (omega (arith, is.1, at), omega (arith, is.1, at, low)))

  only : (a : ℕ) → a % 2 ≡ 0 → is_gateway (device_of rom) a ≡ true → Contains (map (λ v. v.address) veneers) a
  only a even is =
      let p = gateway_parts rom a is in
      let k = (a - NSC.from) / 8 in
      let j = (a - NSC.from) % 8 in
      let off : a - SECURE_ROM.from ≡ row_size 2 + (8 * k + j) = omega (arith, p.0) in
      let off2 : a + 2 - SECURE_ROM.from ≡ row_size 2 + (8 * k + (j + 2)) = omega (arith, p.0) in
      let lt : k < 512 = omega (arith, p.0, p.1) in
      let even_j : j % 2 ≡ 0 = omega (arith, p.0, even) in
      let first = sym (half_there k j lt (omega (arith, even_j))) ∙ (ap (half_at rom) (sym off) ∙ p.2) in
      let b = begins veneers all (veneer_at veneers (NSC.from + 8 * k)) j even_j (omega arith) first (λ low. sym (half_there k (j + 2) lt (omega (arith, low))) ∙ (ap (half_at rom) (sym off2) ∙ p.3)) in
      let v = veneer_is veneers (NSC.from + 8 * k) b.0 b.1 in
      let at : b.0.address ≡ a = omega (arith, v.1, b.2, p.0) in
      subst (Contains (map (λ w. w.address) veneers)) at (contains_address veneers b.0 v.0.0 v.0.1 v.0.2)

  stands : All (StandsIn rom veneers all) all
  stands n d lt =
      let s = get_or all n d in
      let site = sites n d lt in
      let post = i ++ (z ++ g) in
      let text = there (λ s. s.text_at) (linked_text veneers all) t (i ++ (z ++ g)) first_text all refl (chained_texts (linked_text veneers all) objects same) n d lt in
      let init = there (λ s. s.init_at) (λ s. s.object.init) (t ++ x) (z ++ g) (first_init objects) all texts_end (chained_inits objects) n d lt in
      record {
        text_site = site.text;
        init_site = site.init;
        resolvable = resolvable objects entries veneers make n d lt;
        text = subst (λ r. HasBytes r s.text_at (linked_text veneers all s)) (sym (rom_is ∙ parts t x i z g)) text;
        init = subst (λ r. HasBytes r s.init_at s.object.init) (sym (rom_is ∙ parts_inits t x i z g)) init;
      }

  placed_at : PlacedAt rom all veneers
  placed_at =
      let start = code_there objects entries veneers make (codes ".start") make.can_link.start make.can_link.start_once in
      let stop = code_there objects entries veneers make (codes ".stop") make.can_link.stop make.can_link.stop_once in
      let start_is : named veneers all (codes ".start") ≡ start.place = ap (λ o. unwrap_or o 0) start.is in
      let stop_is : named veneers all (codes ".stop") ≡ stop.place = ap (λ o. unwrap_or o 0) stop.is in
      let vectors_are : t ≡ vectors start.place stop.place = ap (λ n. vectors n (named veneers all (codes ".stop"))) start_is ∙ ap (vectors start.place) stop_is in
      record {
        size = size;
        start = start.place;
        start_is = start.is;
        stop = stop.place;
        stop_is = stop.is;
        table = subst (HasBytes rom SECURE_ROM.from) vectors_are (subst (λ r. HasBytes r SECURE_ROM.from t) (sym (rom_is ∙ parts t x i z g)) (has_bytes [] t (x ++ (i ++ (z ++ g))) SECURE_ROM.from refl));
        objects = stands;
        gateways = veneer_here;
        zeros = zeros;
        only = only;
      }

pub placed : PlacedLaw
placed objects entries veneers make =
    record { all = sited objects; objects_are = objects_are objects; placed = placed_at objects entries veneers make }
