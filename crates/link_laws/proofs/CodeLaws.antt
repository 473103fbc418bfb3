-- The places of code, and what branches reach.
use Rattle.std.proofs.Common.{◌≡◌, ◌≢◌, ℕ, zero, suc, ◌+◌, ◌-◌, ◌*◌, ◌%◌, ◌^◌, ◌<◌, ◌≤◌, ◌⊎◌, ◌&&◌, ◌||◌, Bool, true, false, List, [], ◌∷◌, ◌++◌, length, map, get_or, All, Contains, Option, Some, None, IsSome, eqb, ltb, leb, nat_lt, nat_le, ◌==◌, codes, unwrap_or, slice_get, option_and_then, refl, sym, ap, ◌∙◌, subst, arith, inl, inr, ⊎_elim, rules, eq-eqb, lt-ltb, le-leb}
use Rattle.std.proofs.lemmas.Bool.{cases_lt}
use Rattle.std.proofs.lemmas.List.Elements.{All-weaker, All-contains}
use Rattle.std.proofs.lemmas.List.Sums.{AllPass-from_list_all}
use Rattle.cm_base.specs.declared.regions.TheConstants.{SECURE_ROM, NSC}
use Rattle.ns_types.specs.declared.event.Veneer.{Veneer}
use Rattle.ns_types.specs.Operators.{subtract}
use Rattle.v8m_isa.specs.Table.{is_offset}
use Rattle.elf_object.specs.declared.object.Home.{Home}
use Rattle.elf_object.specs.declared.object.Home.TheVariants.{Undefined, Text, Init, Absolute}
use Rattle.elf_object.specs.declared.object.Object.{Object}
use Rattle.elf_object.specs.declared.object.Reloc.{Reloc}
use Rattle.elf_object.specs.declared.object.Sited.{Sited}
use Rattle.elf_object.specs.declared.object.Symbol.{Symbol}
use Rattle.elf_object.specs.File.{CanWrite, reloc_fits}
use Rattle.elf_object.specs.CanLink.{HasValue, IsTarget, is_defined, CanLink, ObjectCanLink, RelocCanLink, EntryCanLink, DefinesCode, IsCode, definitions}
use Rattle.elf_object.specs.Linked.{or_else, veneer_of, place_in, place_named, place_of, reloc_place}
use Rattle.elf_object.specs.Placed.{IsSite, twin}
use Rattle.veneer_link.specs.Assign.{is_place}
use Rattle.veneer_laws.specs.Veneers.{AreVeneersOf}
use Rattle.veneer_laws.proofs.Places.{equal_numbers}
use Rattle.link_laws.specs.Resolve.{Reaches}
use Rattle.link_laws.specs.Sites.{sited}
use Rattle.link_laws.specs.Rom.{CanMake, LeadsToCode, CodeLaw}
use Rattle.link_laws.proofs.SiteLaws.{IsSited, Fits, fits, are_sited, objects_are, each}
use Rattle.link_laws.proofs.TextLaws.{and_left, and_right, at_most, less, ends_within}
use Rattle.link_laws.proofs.NameLaws.{code_named, some_named, veneer_all, veneer_none}

-- an even address of Secure ROM or of its Non-secure callable region, or the end of one of them
pub record IsReached (place : ℕ) : Type 0 where
  pub even : place % 2 ≡ 0
  pub low : SECURE_ROM.from ≤ place
  pub high : place ≤ NSC.to

both_true : (a b : Bool) → a ≡ true → b ≡ true → (a && b) ≡ true
both_true true true e f = refl
both_true true false e f = f
both_true false b e f = e

left_true : (a b : Bool) → a ≡ true → (a || b) ≡ true
left_true true b e = refl
left_true false b e = cc

right_true : (a b : Bool) → b ≡ true → (a || b) ≡ true
right_true true b e = refl
right_true false b e = e

offset_test : (o : ℕ) → o % 2 ≡ 0 → (o < 16777216) ⊎ ((4278190080 ≤ o) × (o < 4294967296)) → is_offset 24 o ≡ true
offset_test o e (inl lt) =
    both_true (eqb (o % 2) 0) (ltb o 16777216 || leb 4278190080 o && ltb o 4294967296) (eq-eqb (o % 2) 0 e)
    (left_true (ltb o 16777216) (leb 4278190080 o && ltb o 4294967296) (lt-ltb o 16777216 lt))
offset_test o e (inr w) =
    both_true (eqb (o % 2) 0) (ltb o 16777216 || leb 4278190080 o && ltb o 4294967296) (eq-eqb (o % 2) 0 e)
    (right_true (ltb o 16777216) (leb 4278190080 o && ltb o 4294967296) (both_true (leb 4278190080 o) (ltb o 4294967296) (le-leb 4278190080 o w.0) (lt-ltb o 4294967296 w.1)))

-- a branch from an address of Secure ROM reaches it
offset_is : (p a : ℕ) → p % 2 ≡ 0 → a % 2 ≡ 0 → SECURE_ROM.from ≤ p → p ≤ NSC.to → SECURE_ROM.from ≤ a → a + 4 ≤ NSC.to → is_offset 24 (subtract p (a + 4)) ≡ true
offset_is p a ep ea lp hp la ha =
    ⊎_elim
    (λ (lt : p < a + 4). offset_test (subtract p (a + 4)) (omega (arith, lt, ep, ea, lp, hp, la, ha)) (inr (omega (arith, lt, lp, hp, la, ha), omega (arith, lt, lp, hp, la, ha))))
    (λ (le : a + 4 ≤ p). offset_test (subtract p (a + 4)) (omega (arith, le, ep, ea, lp, hp, la, ha)) (inl (omega (arith, le, lp, hp, la, ha))))
    (cases_lt p (a + 4))

pub reached : (kind at place : ℕ) → at % 2 ≡ 0 → SECURE_ROM.from ≤ at → at + 4 ≤ NSC.to → IsReached place → Reaches kind at place
reached kind at place even low high is branch = offset_is place at is.even even is.low is.high low high

-- places of veneers are reached
place_reached : (a : ℕ) → is_place a ≡ true → IsReached a
place_reached a e =
    let low = at_most NSC.from a (and_left (nat_le NSC.from a) (nat_lt a NSC.to && (a % 8 == 0)) e) in
    let rest = and_right (nat_le NSC.from a) (nat_lt a NSC.to && (a % 8 == 0)) e in
    let high = less a NSC.to (and_left (nat_lt a NSC.to) (a % 8 == 0) rest) in
    let eight = equal_numbers (a % 8) 0 (and_right (nat_lt a NSC.to) (a % 8 == 0) rest) in
    record { even = omega (arith, eight); low = omega (arith, low); high = omega (arith, high) }

-- an address that is reached
pub record Reach (o : Option ℕ) : Type 0 where
  pub place : ℕ
  pub is : o ≡ Some place
  pub there : IsReached place

code_reach : (veneers : List Veneer) (name : List ℕ) (text_at size value : ℕ) → All (λ v. IsReached v.address) veneers → IsSite text_at size → value % 2 ≡ 0 → value ≤ size → Reach (or_else (veneer_of veneers name) (Some (text_at + value)))
code_reach veneers name text_at size value all site even le = by (veneer_of veneers name) refl
  where
    by : (o : Option ℕ) → veneer_of veneers name ≡ o → Reach (or_else o (Some (text_at + value)))
    by None e = record {
      place = text_at + value;
      is = refl;
      there = record {
        even = omega (arith, site.0, even);
        low = omega (arith, site.1);
        high = omega (arith, site.2, le);
      };
    }
    by (Some a) e = record { place = a; is = refl; there = veneer_all IsReached veneers name a all e }

from_map : {X Y : Type 0} (f : X → Y) (xs : List X) (y : Y) (k : ℕ) → k < length (map f xs) → get_or (map f xs) k y ≡ y → (x : X) × (k < length xs) × (get_or xs k x ≡ x) × (f x ≡ y)
from_map f [] y k lt e = absurd (omega (arith, lt))
from_map f (x ∷ xs) y zero lt e = (x, omega arith, refl, e)
from_map f (x ∷ xs) y (suc k) lt e =
    let r = from_map f xs y k (omega (arith, lt)) e in (r.0, omega (arith, r.1), r.2, r.3)

-- code has its value
code_value : (objects : List Object) (o : Object) (name : List ℕ) (value : ℕ) → ObjectCanLink objects o → DefinesCode o name value → (value % 2 ≡ 0) × (value ≤ length o.text)
code_value objects o name value can d =
    let has = All-contains (λ s. HasValue o s.value s.home) o.symbols d.symbol can.values d.among in
    let text : HasValue o d.symbol.value Text = subst (HasValue o d.symbol.value) d.home_is has in
    subst (λ v. (v % 2 ≡ 0) × (v ≤ length o.text)) d.value_is text

module _ (objects : List Object) (entries : List (List ℕ)) (veneers : List Veneer) (make : CanMake objects entries veneers) where
  abbrev can : CanLink objects entries
  can = make.can_link

  abbrev all : List Sited
  all = sited objects

  pub all_fit : Fits objects
  all_fit = fits objects can.few can.texts can.inits

  sites : All IsSited all
  sites = are_sited objects all_fit

  linkable : All (λ s. ObjectCanLink objects s.object) all
  linkable = each (ObjectCanLink objects) objects can.each

  writable : All (λ s. CanWrite s.object) all
  writable = each CanWrite objects make.writable

  pub reach_veneers : All (λ v. IsReached v.address) veneers
  reach_veneers =
      All-weaker (λ v. is_place v.address ≡ true) (λ v. IsReached v.address) (λ v. place_reached v.address) veneers make.are_veneers.places

  -- an object is one of those with their addresses
  home : (object : Object) → Contains objects object → (s : Sited) × (k : ℕ) × (k < length all) × (get_or all k s ≡ s) × (s.object ≡ object)
  home object among =
      let there : Contains (map (λ s. s.object) all) object = subst (λ os. Contains os object) (sym (objects_are objects)) among in
      let r = from_map (λ s. s.object) all object there.0 there.1 there.2 in
      (r.0, there.0, r.1, r.2, r.3)

  once : (name : List ℕ) → definitions objects name ≡ 1 → definitions (map (λ s. s.object) all) name ≤ 1
  once name e = subst (λ os. definitions os name ≤ 1) (sym (objects_are objects)) (omega (arith, e))

  -- a name that is defined once, as code, has a place that is reached
  pub code_there : (name : List ℕ) → IsCode objects name → definitions objects name ≡ 1 → Reach (place_named veneers all name)
  code_there name code e =
      let h = home code.object code.among in
      let d : DefinesCode h.0.object name code.value = subst (λ o. DefinesCode o name code.value) (sym h.4) code.defines in
      let among : Contains all h.0 = (h.1, h.2, h.3) in
      let site = All-contains IsSited all h.0 sites among in
      let v = code_value objects h.0.object name code.value (All-contains (λ s. ObjectCanLink objects s.object) all h.0 linkable among) d in
      let r = code_reach veneers name h.0.text_at (length h.0.object.text) code.value reach_veneers site.text v.0 v.1 in
      record {
        place = r.place;
        is = code_named veneers name all h.0 code.value h.1 h.2 h.3 d (once name e) ∙ r.is;
        there = r.there;
      }

  -- a symbol that a branch leads to has a place that is reached
  target : (s : Sited) (name : List ℕ) (value : ℕ) (h : Home) → IsSited s → HasValue s.object value h → (is_defined h ≡ false → definitions objects name ≡ 1) → IsTarget objects name h → Reach (or_else (place_in veneers s name value h) (place_named veneers all name))
  target s name value Undefined site has once_there is = code_there name is (once_there refl)
  target s name value Text site has once_there is =
      let r = code_reach veneers name s.text_at (length s.object.text) value reach_veneers site.text has.0 has.1 in
      record {
        place = r.place;
        is = ap (λ o. or_else o (place_named veneers all name)) r.is;
        there = r.there;
      }
  target s name value Init site has once_there is = absurd is
  target s name value Absolute site has once_there is = absurd is

  -- each symbol has a place
  has_place : (s : Sited) (name : List ℕ) (value : ℕ) (h : Home) → (is_defined h ≡ false → definitions objects name ≡ 1) → (p : ℕ) × (or_else (place_in veneers s name value h) (place_named veneers all name) ≡ Some p)
  has_place s name value Undefined one =
      some_named veneers name all (subst (λ os. 1 ≤ definitions os name) (sym (objects_are objects)) (omega (arith, one refl)))
  has_place s name value Text one = by (veneer_of veneers name)
    where
      by : (o : Option ℕ) → (p : ℕ) × (or_else (or_else o (Some (s.text_at + value))) (place_named veneers all name) ≡ Some p)
      by None = (s.text_at + value, refl)
      by (Some a) = (a, refl)
  has_place s name value Init one = by (veneer_of veneers name)
    where
      by : (o : Option ℕ) → (p : ℕ) × (or_else (or_else o (Some (s.init_at + value))) (place_named veneers all name) ≡ Some p)
      by None = (s.init_at + value, refl)
      by (Some a) = (a, refl)
  has_place s name value Absolute one = (value, refl)

  -- the place of a relocation's symbol is that of the symbol
  symbol_place : (s : Sited) (r : Reloc) (symbol : Symbol) → slice_get s.object.symbols r.symbol ≡ Some symbol → reloc_place veneers all s r ≡ or_else (place_in veneers s symbol.name symbol.value symbol.home) (place_named veneers all symbol.name)
  symbol_place s r symbol e = ap (option_and_then (place_of veneers all s)) e

  symbol_among : (xs : List Symbol) (k : ℕ) (x : Symbol) → slice_get xs k ≡ Some x → Contains xs x
  symbol_among [] k x e = cc
  symbol_among (y ∷ xs) zero x e = let same : y ≡ x = cc in (0, omega arith, same)
  symbol_among (y ∷ xs) (suc k) x e = let c = symbol_among xs k x e in (suc c.0, omega (arith, c.1), c.2)

  pub resolvable : All (λ s. All (λ r. IsSome (reloc_place veneers all s r)) s.object.relocs) all
  resolvable i d lt j e below =
      let s = get_or all i d in
      let o = linkable i d lt in
      let r = get_or s.object.relocs j e in
      let l = o.relocs j e below in
      let among = symbol_among s.object.symbols r.symbol l.symbol l.symbol_is in
      let p = has_place s l.symbol.name l.symbol.value l.symbol.home (All-contains (λ x. is_defined x.home ≡ false → definitions objects x.name ≡ 1) s.object.symbols l.symbol o.defined among) in
      subst IsSome (sym (symbol_place s r l.symbol l.symbol_is ∙ p.1)) (search rules)

  -- each branch reaches the place of its symbol
  pub each_reaches : All (λ s. All (λ r. Reaches r.kind (s.text_at + r.at) (unwrap_or (reloc_place veneers all s r) 0)) s.object.relocs) all
  each_reaches i d lt j e below branch =
      let s = get_or all i d in
      let o = linkable i d lt in
      let r = get_or s.object.relocs j e in
      let l = o.relocs j e below in
      let site = sites i d lt in
      let among = symbol_among s.object.symbols r.symbol l.symbol l.symbol_is in
      let has = All-contains (λ x. HasValue s.object x.value x.home) s.object.symbols l.symbol o.values among in
      let one = All-contains (λ x. is_defined x.home ≡ false → definitions objects x.name ≡ 1) s.object.symbols l.symbol o.defined among in
      let t = target s l.symbol.name l.symbol.value l.symbol.home site has one (l.target branch) in
      let fit = ends_within (length s.object.text) (length s.object.symbols) r (fits_at s j e below (writable i d lt)) in
      let place = ap (λ x. unwrap_or x 0) (symbol_place s r l.symbol l.symbol_is ∙ t.is) in
      subst (λ p. is_offset 24 (subtract p (s.text_at + r.at + 4)) ≡ true) (sym place)
      (reached r.kind (s.text_at + r.at) t.place (omega (arith, site.text.0, l.even)) (omega (arith, site.text.1)) (omega (arith, site.text.2, fit)) t.there branch)
    where
      fits_at : (s : Sited) (j : ℕ) (e : Reloc) → j < length s.object.relocs → CanWrite s.object → reloc_fits (length s.object.text) (length s.object.symbols) (get_or s.object.relocs j e) ≡ true
      fits_at s j e below w = AllPass-from_list_all (reloc_fits (length s.object.text) (length s.object.symbols)) s.object.relocs w.relocs j e below

  -- ---- entries

  -- no veneer has the name of an entry's code
  no_twin : (v : Veneer) → Contains entries v.name → veneer_of veneers (twin v.name) ≡ None
  no_twin v among =
      let differ = All-contains (λ name. All (λ other. codes "__acle_se_" ++ name ≢ other) entries) entries v.name can.twins among in
      veneer_none veneers (twin v.name) (All-weaker (λ w. Contains entries w.name) (λ w. w.name ≢ twin v.name) (λ w has e. All-contains (λ other. codes "__acle_se_" ++ v.name ≢ other) entries w.name differ has (sym e)) veneers make.are_veneers.named)

  pub leads : All (LeadsToCode veneers all) veneers
  leads i d lt =
      let v = get_or veneers i d in
      let among = make.are_veneers.named i d lt in
      let entry = All-contains (EntryCanLink objects) entries v.name can.entries_are among in
      let h = home entry.object entry.among in
      let code : DefinesCode h.0.object v.name entry.value = subst (λ o. DefinesCode o v.name entry.value) (sym h.4) entry.code in
      let other : DefinesCode h.0.object (twin v.name) entry.value = subst (λ o. DefinesCode o (twin v.name) entry.value) (sym h.4) entry.twin in
      let named = code_named veneers (twin v.name) all h.0 entry.value h.1 h.2 h.3 other (once (twin v.name) entry.twin_once) in
      record {
        home = h.0;
        among = (h.1, h.2, h.3);
        value = entry.value;
        code = code;
        twin_too = other;
        leads = named ∙ ap (λ o. or_else o (Some (h.0.text_at + entry.value))) (no_twin v among);
      }

  -- the code of an entry is reached
  pub twin_there : All (λ v. Reach (place_named veneers all (twin v.name))) veneers
  twin_there i d lt =
      let v = get_or veneers i d in
      let entry = All-contains (EntryCanLink objects) entries v.name can.entries_are (make.are_veneers.named i d lt) in
      code_there (twin v.name) (record { object = entry.object; among = entry.among; value = entry.value; defines = entry.twin }) entry.twin_once

pub code_law : CodeLaw
code_law objects entries veneers make = leads objects entries veneers make
