-- What the passes make is the ROM that is to be linked, and objects that can be linked are passed on from pass to pass.
use Rattle.std.proofs.Common.{◌≡◌, ◌≢◌, ℕ, ◌+◌, ◌%◌, ◌<◌, ◌≤◌, ◌^◌, ◌&&◌, true, List, [], ◌∷◌, ◌++◌, length, map, get_or, flat_map, All, AllPairs, Contains, Option, Some, None, Ok, unwrap_or, codes, refl, sym, ap, ◌∙◌, subst, arith}
use Rattle.std.specs.Prelude.{nat_lt, nat_le, ◌==◌}
use Rattle.std.specs.List.{list_all}
use Rattle.std.proofs.lemmas.Bool.Decides.{nat_tests}
use Rattle.std.proofs.lemmas.List.Elements.{All-weaker, All-map}
use Rattle.std.proofs.lemmas.List.Sums.{list_all-from_AllPass}
use Rattle.cm_base.specs.declared.regions.TheConstants.{NSC}
use Rattle.ns_types.specs.Platform.{row_size}
use Rattle.ns_types.specs.declared.event.Veneer.{Veneer}
use Rattle.elf32.specs.Tables.{padded}
use Rattle.elf_object.specs.declared.object.Home.{Home}
use Rattle.elf_object.specs.declared.object.Home.TheVariants.{Undefined, Text, Init, Absolute}
use Rattle.elf_object.specs.declared.object.Object.{Object}
use Rattle.elf_object.specs.declared.object.Sited.{Sited}
use Rattle.elf_object.specs.declared.object.Symbol.{Symbol}
use Rattle.elf_object.specs.File.{CanWrite}
use Rattle.elf_object.specs.CanLink.{HasValue, ObjectCanLink, IsCode, definitions, CanLink}
use Rattle.elf_object.specs.Reading.{IsObjectFile, object_in}
use Rattle.elf_object.proofs.ReadBack.{object_in-object_file}
use Rattle.elf_object.specs.Placed.{vectors, veneer_code, twin, Placed}
use Rattle.ns_types.specs.declared.event.Veneers.{Veneers}
use Rattle.veneer_link.specs.Assign.{place_count, places_from, is_place, Assigns, IsAssigned}
use Rattle.veneer_laws.specs.Veneers.{AreVeneersOf}
use Rattle.veneer_laws.proofs.Assigned.{assigned}
use Rattle.link_laws.specs.Resolve.{Reaches}
use Rattle.link_laws.specs.Sites.{sited}
use Rattle.link_laws.specs.Rom.{named, init_part, gate, gates, filled, front, veneer_at, linked_rom, linked_symbols, CanMake, LeadsToCode}
use Rattle.link_laws.specs.Rom as rom
use Rattle.link_laws.proofs.Choices.{flat_map_same}
use Rattle.link_laws.proofs.SiteLaws.{IsSited, are_sited, each}
use Rattle.link_laws.proofs.CodeLaws.{all_fit, reach_veneers, reached, code_there, each_reaches, twin_there, leads}
use Rattle.link_laws.proofs.RomLaws.{front_low, placed}
use Rattle.link_laws.proofs.TextLaws.{and_left, and_right, less}
use Rattle.veneer_laws.proofs.Places.{equal_numbers}
use Rattle.linker.specs.declared.driver.Linked.{Linked}
use Rattle.linker.specs.Table.{defined, veneer_names, is_address, have_addresses}
use Rattle.linker.specs.Passes.{place_named, text_part, gate_at, symbols_of_veneer, front_by, rom_by, CanPut, CanLead, CanPass, IsMade, IsLinked, Links}
use Rattle.linker.specs.Passes as passes
use Rattle.linker.proofs.NamesLaws.{name_found, number_place, text_same}

-- ---- what is made

module _ (veneers : List Veneer) (all : List Sited) where
  pub place_same : (m : List ℕ) → place_named (defined (veneer_names veneers) all) m ≡ named veneers all m
  place_same m = ap (λ o. unwrap_or o 0) (name_found veneers all m)

  texts_same : flat_map (text_part (veneer_names veneers) (defined (veneer_names veneers) all)) all ≡ flat_map (rom.text_part veneers all) all
  texts_same =
      flat_map_same (text_part (veneer_names veneers) (defined (veneer_names veneers) all)) (rom.text_part veneers all) (λ s. ap (padded s.text_at) (text_same veneers all s)) all

  pub front_same : front_by (veneer_names veneers) (defined (veneer_names veneers) all) all ≡ front veneers all
  front_same =
      ap (λ t. t ++ flat_map (text_part (veneer_names veneers) (defined (veneer_names veneers) all)) all ++ flat_map init_part all)
      (ap (λ n. vectors n (place_named (defined (veneer_names veneers) all) (codes ".stop"))) (place_same (codes ".start")) ∙ ap (vectors (named veneers all (codes ".start"))) (place_same (codes ".stop")))
      ∙ ap (λ x. rom.table veneers all ++ x ++ flat_map init_part all) texts_same

  gate_same : (o : Option Veneer) → passes.gate (defined (veneer_names veneers) all) o ≡ gate veneers all o
  gate_same None = refl
  gate_same (Some v) = ap (veneer_code v.address) (place_same (twin v.name))

  pub rom_same : rom_by (veneer_names veneers) (defined (veneer_names veneers) all) all veneers ≡ linked_rom veneers all
  unfolding linked_rom gates
  rom_same =
      ap (λ f. filled f ++ flat_map (gate_at veneers (defined (veneer_names veneers) all)) (places_from place_count NSC.from)) front_same
      ∙ ap (λ g. filled (front veneers all) ++ g) (flat_map_same (gate_at veneers (defined (veneer_names veneers) all)) (λ at. gate veneers all (veneer_at veneers at)) (λ at. gate_same (veneer_at veneers at)) (places_from place_count NSC.from))

  symbols_same : (v : Veneer) → symbols_of_veneer (defined (veneer_names veneers) all) v ≡ rom.symbols_of_veneer veneers all v
  symbols_same v = ap (two v) (place_same (twin v.name))
    where
      two : Veneer → ℕ → List Symbol
      two v p =
          record { name = v.name; home = Absolute; value = v.address } ∷ record { name = twin v.name; home = Absolute; value = p } ∷ []

  pub all_symbols_same : (vs : List Veneer) → flat_map (symbols_of_veneer (defined (veneer_names veneers) all)) vs ≡ flat_map (rom.symbols_of_veneer veneers all) vs
  all_symbols_same vs =
      flat_map_same (symbols_of_veneer (defined (veneer_names veneers) all)) (rom.symbols_of_veneer veneers all) symbols_same vs

pub linked_from : (objects : List Object) (veneers : List Veneer) (l : Linked) → IsMade objects veneers l → IsLinked objects l
linked_from objects veneers l made = record {
  rom = made.rom ∙ (rom_same veneers (sited objects) ∙ ap (λ vs. linked_rom vs (sited objects)) (sym made.veneers_are));
  used = made.used;
  symbols = made.symbols ∙ (all_symbols_same veneers (sited objects) veneers ∙ ap (λ vs. linked_symbols vs (sited objects)) (sym made.veneers_are));
}

-- ---- objects that are passed on

address_there : (s : Sited) (value : ℕ) (h : Home) → IsSited s → HasValue s.object value h → is_address s value h ≡ true
address_there s value Undefined site has = refl
address_there s value Text site has = below (s.text_at + value) (omega (arith, site.text.2, has.1))
  where
    below : (n : ℕ) → n < 4294967296 → nat_lt n (2 ^ 32) ≡ true
    below n lt = grind (arith, nat_tests)
address_there s value Init site has = below (s.init_at + value) (omega (arith, site.init.2, has))
  where
    below : (n : ℕ) → n < 4294967296 → nat_lt n (2 ^ 32) ≡ true
    below n lt = grind (arith, nat_tests)
address_there s value Absolute site has = refl

-- a veneer ends within the Non-secure callable region
place_end : (a : ℕ) → is_place a ≡ true → a + 8 ≤ NSC.to
place_end a e =
    let rest = and_right (nat_le NSC.from a) (nat_lt a NSC.to && (a % 8 == 0)) e in
    let high = less a NSC.to (and_left (nat_lt a NSC.to) (a % 8 == 0) rest) in
    let eighth = equal_numbers (a % 8) 0 (and_right (nat_lt a NSC.to) (a % 8 == 0) rest) in
    omega (arith, high, eighth)

module _ (objects : List Object) (entries : List (List ℕ)) (veneers : List Veneer) (make : CanMake objects entries veneers) where
  sites : All IsSited (sited objects)
  sites = are_sited objects (all_fit objects entries veneers make)

  linkable : All (λ s. ObjectCanLink objects s.object) (sited objects)
  linkable = each (ObjectCanLink objects) objects make.can_link.each

  writable : All (λ s. CanWrite s.object) (sited objects)
  writable = each CanWrite objects make.writable

  addresses : list_all have_addresses (sited objects) ≡ true
  addresses =
      list_all-from_AllPass have_addresses (sited objects) (λ i d lt. let s = get_or (sited objects) i d in
      list_all-from_AllPass (λ x. is_address s x.value x.home) s.object.symbols (λ j e below. let x = get_or s.object.symbols j e in
      address_there s x.value x.home (sites i d lt) ((linkable i d lt).values j e below)))

  put : All (CanPut (veneer_names veneers) (defined (veneer_names veneers) (sited objects))) (sited objects)
  put i d lt =
      let s = get_or (sited objects) i d in
      let site = sites i d lt in
      record {
        text_low = omega (arith, site.text.2);
        init_low = omega (arith, site.init.2);
        fit = (writable i d lt).relocs;
        reach = λ j e below. let r = get_or s.object.relocs j e in
            subst (Reaches r.kind (s.text_at + r.at)) (sym (number_place veneers (sited objects) s r)) (each_reaches objects entries veneers make i d lt j e below);
      }

  lead : All (CanLead (defined (veneer_names veneers) (sited objects))) veneers
  lead i d lt =
      let v = get_or veneers i d in
      let here = reach_veneers objects entries veneers make i d lt in
      let ends : v.address + 8 ≤ NSC.to = place_end v.address (make.are_veneers.places i d lt) in
      let there = twin_there objects entries veneers make i d lt in
      let same : place_named (defined (veneer_names veneers) (sited objects)) (twin v.name) ≡ there.place = place_same veneers (sited objects) (twin v.name) ∙ ap (λ o. unwrap_or o 0) there.is in
      record {
        low = omega (arith, here.high);
        reach = subst (Reaches 30 (v.address + 4)) (sym same) (reached 30 (v.address + 4) there.place (omega (arith, here.even)) (omega (arith, here.low)) (omega (arith, ends)) there.there);
      }

  low_place : (name : List ℕ) → IsCode objects name → definitions objects name ≡ 1 → place_named (defined (veneer_names veneers) (sited objects)) name + 1 < 2 ^ 32
  low_place name code one =
      let there = code_there objects entries veneers make name code one in
      let same : place_named (defined (veneer_names veneers) (sited objects)) name ≡ there.place = place_same veneers (sited objects) name ∙ ap (λ o. unwrap_or o 0) there.is in
      omega (arith, same, there.there.high)

  pub can_pass : CanPass objects veneers
  can_pass =
      let fit = all_fit objects entries veneers make in
      record {
        texts = omega (arith, fit.texts);
        inits = omega (arith, fit.inits);
        addresses = addresses;
        put = put;
        lead = lead;
        start = low_place (codes ".start") make.can_link.start make.can_link.start_once;
        stop = low_place (codes ".stop") make.can_link.stop make.can_link.stop_once;
        low = subst (λ f. length f ≤ row_size 2) (sym (front_same veneers (sited objects))) (front_low objects entries veneers make);
      }

-- ---- from files to what is linked

file_object : (f : List ℕ) → IsObjectFile f → CanWrite (object_in f)
file_object f is =
    subst CanWrite (sym (ap object_in is.is.is ∙ object_in-object_file is.object is.is.writable is.words)) is.is.writable

pub can_make : (files : List (List ℕ)) (entries : List (List ℕ)) (old : List Veneer) (new : Veneers) → All IsObjectFile files → CanLink (map object_in files) entries → length entries ≤ 512 → AllPairs (λ a b. a ≢ b) entries → AllPairs (λ v w. v.name ≢ w.name) old → Assigns entries old (Ok new) → CanMake (map object_in files) entries new.list
can_make files entries old new are can few differ old_differ is = record {
  writable = All-map CanWrite object_in files (All-weaker IsObjectFile (λ f. CanWrite (object_in f)) file_object files are);
  can_link = can;
  are_veneers = assigned entries old new.list (record {
    few = few;
    entries_differ = differ;
    old_differ = old_differ;
    gone = is.0;
    misplaced = is.1;
  }) is.2;
}

pub placed_from : (objects : List Object) (entries : List (List ℕ)) (veneers : List Veneer) (l : Linked) → CanMake objects entries veneers → IsMade objects veneers l → Placed l.rom objects l.veneers.list
placed_from objects entries veneers l make made =
    subst (λ vs. Placed l.rom objects vs) (sym made.veneers_are)
    (subst (λ r. Placed r objects veneers) (sym (made.rom ∙ rom_same veneers (sited objects))) (placed objects entries veneers make))

pub veneers_from : (objects : List Object) (entries : List (List ℕ)) (veneers : List Veneer) (l : Linked) → CanMake objects entries veneers → IsMade objects veneers l → AreVeneersOf entries l.veneers.list
veneers_from objects entries veneers l make made = subst (AreVeneersOf entries) (sym made.veneers_are) make.are_veneers

pub code_from : (objects : List Object) (entries : List (List ℕ)) (veneers : List Veneer) (l : Linked) → CanMake objects entries veneers → IsMade objects veneers l → All (LeadsToCode l.veneers.list (sited objects)) l.veneers.list
code_from objects entries veneers l make made =
    subst (λ vs. All (LeadsToCode vs (sited objects)) vs) (sym made.veneers_are) (leads objects entries veneers make)

pub links_from : (objects : List Object) (entries : List (List ℕ)) (old : List Veneer) (new : Veneers) (l : Linked) → Assigns entries old (Ok new) → IsMade objects new.list l → Links objects entries old (Ok l)
links_from objects entries old new l is made =
    ((is.0, is.1, subst (IsAssigned entries old) (sym made.veneers_are) is.2), linked_from objects new.list l made)

pub kept_from : (objects : List Object) (old veneers : List Veneer) (l : Linked) → All (Contains veneers) old → IsMade objects veneers l → All (Contains l.veneers.list) old
kept_from objects old veneers l kept made = subst (λ vs. All (Contains vs) old) (sym made.veneers_are) kept
