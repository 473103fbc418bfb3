-- The tables of names have the places that the symbols of linked objects have.
use Rattle.std.proofs.Common.{◌≡◌, ℕ, zero, suc, ◌+◌, Bool, true, false, cond, List, [], ◌∷◌, ◌++◌, map, fold, bytes_eq, Option, Some, None, is_some, unwrap_or, slice_get, slice_index, option_and_then, if◌then◌else◌, refl, sym, ap, ◌∙◌, true≢false}
use Rattle.std.specs.Map.{lookup}
use Rattle.std.proofs.lemmas.List.{map-append}
use Rattle.ns_types.specs.declared.event.Veneer.{Veneer}
use Rattle.elf_object.specs.declared.object.Home.{Home}
use Rattle.elf_object.specs.declared.object.Home.TheVariants.{Undefined, Text, Init, Absolute}
use Rattle.elf_object.specs.declared.object.Reloc.{Reloc}
use Rattle.elf_object.specs.declared.object.Sited.{Sited}
use Rattle.elf_object.specs.declared.object.Symbol.{Symbol}
use Rattle.elf_object.specs.Linked.{or_else, veneer_of, place_in, named_in, place_named, place_of, reloc_place, with_reloc, linked_text, resolved, with_bytes, register_at}
use Rattle.veneer_laws.proofs.Counts.{equal_names, bytes_eq-sym}
use Rattle.link_laws.specs.Resolve.{with_place, linked_by}
use Rattle.link_laws.proofs.Choices.{or_else_assoc, or_else_none, fold_same}
use Rattle.indexmap.specs.IndexMap.{insert_entry}
use Rattle.linker.specs.Table.{Names, found, added, added_if, veneer_names, place_by, with_symbol, with_object, defined, symbol_place, places_of}

-- ---- names as the keys of a map, seen through what each key holds

pub found_map : {K : Type 0} (f : K → List ℕ) (es : List (K × ℕ)) (name : List ℕ) → found (map (λ e. (f e.0, e.1)) es) name ≡ lookup (λ k. bytes_eq name (f k)) es
found_map f [] name = refl
found_map f (e ∷ es) name = ap (λ o. cond (bytes_eq name (f e.0)) (Some e.1) o) (found_map f es name)

pub new_entry : {K V : Type 0} (eq : K → K → Bool) (k : K) (v : V) (es : List (K × V)) → lookup (eq k) es ≡ None → insert_entry eq es k v ≡ es ++ (k, v) ∷ []
new_entry eq k v [] none = refl
new_entry eq k v (e ∷ es) none = by (eq k e.0) none (new_entry eq k v es)
  where
    by : (b : Bool) → cond b (Some e.1) (lookup (eq k) es) ≡ None → (lookup (eq k) es ≡ None → insert_entry eq es k v ≡ es ++ (k, v) ∷ []) → (if b then (e.0, v) ∷ es else e ∷ insert_entry eq es k v) ≡ e ∷ (es ++ (k, v) ∷ [])
    by true is ih = cc
    by false is ih = ap (λ l. e ∷ l) (ih is)

none_from : (o : Option ℕ) → is_some o ≡ false → o ≡ None
none_from None e = refl
none_from (Some x) e = absurd (true≢false e)

lookup_same : {K V : Type 0} (p q : K → Bool) → ((k : K) → p k ≡ q k) → (es : List (K × V)) → lookup p es ≡ lookup q es
lookup_same p q is [] = refl
lookup_same p q is (e ∷ es) = ap (λ b. cond b (Some e.1) (lookup p es)) (is e.0) ∙ ap (λ o. cond (q e.0) (Some e.1) o) (lookup_same p q is es)

-- a new key goes last
pub added_new : {K : Type 0} (f : K → List ℕ) (eq : K → K → Bool) (same : (a b : K) → eq a b ≡ bytes_eq (f a) (f b)) (k : K) (v : ℕ) (es : List (K × ℕ)) → is_some (lookup (λ x. bytes_eq (f k) (f x)) es) ≡ false → map (λ e. (f e.0, e.1)) (insert_entry eq es k v) ≡ added (map (λ e. (f e.0, e.1)) es) (f k) v
added_new f eq same k v es none =
    let gone : lookup (eq k) es ≡ None = lookup_same (eq k) (λ x. bytes_eq (f k) (f x)) (same k) es ∙ none_from (lookup (λ x. bytes_eq (f k) (f x)) es) none in
    let other : is_some (found (map (λ e. (f e.0, e.1)) es) (f k)) ≡ false = ap is_some (found_map f es (f k)) ∙ none in
    ap (map (λ e. (f e.0, e.1))) (new_entry eq k v es gone)
    ∙ (map-append (λ e. (f e.0, e.1)) es ((k, v) ∷ [])
    ∙ sym (ap (λ b. cond b (map (λ e. (f e.0, e.1)) es) (map (λ e. (f e.0, e.1)) es ++ (f k, v) ∷ [])) other))

-- ---- what is found after a name was added

found_append : (xs ys : Names) (name : List ℕ) → found (xs ++ ys) name ≡ or_else (found xs name) (found ys name)
found_append [] ys name = refl
found_append (e ∷ es) ys name = by (bytes_eq name e.0) (found_append es ys name)
  where
    by : (b : Bool) → found (es ++ ys) name ≡ or_else (found es name) (found ys name) → cond b (Some e.1) (found (es ++ ys) name) ≡ or_else (cond b (Some e.1) (found es name)) (found ys name)
    by true ih = refl
    by false ih = ih

pub found_added : (names : Names) (n : List ℕ) (place : ℕ) (m : List ℕ) → found (added names n place) m ≡ or_else (found names m) (cond (bytes_eq m n) (Some place) None)
found_added names n place m = by (found names n) refl (bytes_eq m n) refl
  where
    by : (o : Option ℕ) → found names n ≡ o → (b : Bool) → bytes_eq m n ≡ b → found (cond (is_some o) names (names ++ (n, place) ∷ [])) m ≡ or_else (found names m) (cond b (Some place) None)
    by None e b is = found_append names ((n, place) ∷ []) m ∙ ap (λ c. or_else (found names m) (cond c (Some place) None)) is
    by (Some p) e false is = sym (or_else_none (found names m))
    by (Some p) e true is =
        let there : found names m ≡ Some p = ap (found names) (equal_names m n is) ∙ e in there ∙ sym (ap (λ o. or_else o (Some place)) there)

found_added_if : (names : Names) (n : List ℕ) (o : Option ℕ) (m : List ℕ) → found (added_if names n o) m ≡ or_else (found names m) (cond (bytes_eq m n) o None)
found_added_if names n None m = by (bytes_eq m n)
  where
    by : (b : Bool) → found names m ≡ or_else (found names m) (cond b None None)
    by true = sym (or_else_none (found names m))
    by false = sym (or_else_none (found names m))
found_added_if names n (Some place) m = found_added names n place m

-- ---- entries

found_veneers : (names : Names) (vs : List Veneer) (m : List ℕ) → found (fold (λ names v. added names v.name v.address) names vs) m ≡ or_else (found names m) (veneer_of vs m)
found_veneers names [] m = sym (or_else_none (found names m))
found_veneers names (v ∷ vs) m =
    found_veneers (added names v.name v.address) vs m
    ∙ (ap (λ o. or_else o (veneer_of vs m)) (found_added names v.name v.address m)
    ∙ (or_else_assoc (found names m) (cond (bytes_eq m v.name) (Some v.address) None) (veneer_of vs m) ∙ ap (or_else (found names m)) (by (bytes_eq m v.name) ∙ ap (λ b. if b then Some v.address else veneer_of vs m) (bytes_eq-sym m v.name))))
  where
    by : (b : Bool) → or_else (cond b (Some v.address) None) (veneer_of vs m) ≡ (if b then Some v.address else veneer_of vs m)
    by true = refl
    by false = refl

pub entries_found : (veneers : List Veneer) (m : List ℕ) → found (veneer_names veneers) m ≡ veneer_of veneers m
entries_found veneers m = found_veneers [] veneers m

-- ---- symbols

module _ (veneers : List Veneer) where
  place_is : (s : Sited) (name : List ℕ) (value : ℕ) (h : Home) → place_by (veneer_names veneers) s name value h ≡ place_in veneers s name value h
  place_is s name value Undefined = refl
  place_is s name value Text = ap (λ o. or_else o (Some (s.text_at + value))) (entries_found veneers name)
  place_is s name value Init = ap (λ o. or_else o (Some (s.init_at + value))) (entries_found veneers name)
  place_is s name value Absolute = refl

  found_symbols : (s : Sited) (names : Names) (ss : List Symbol) (m : List ℕ) → found (fold (with_symbol (veneer_names veneers) s) names ss) m ≡ or_else (found names m) (named_in veneers s ss m)
  found_symbols s names [] m = sym (or_else_none (found names m))
  found_symbols s names (x ∷ ss) m =
      found_symbols s (with_symbol (veneer_names veneers) s names x) ss m
      ∙ (ap (λ o. or_else o (named_in veneers s ss m)) (found_added_if names x.name (place_by (veneer_names veneers) s x.name x.value x.home) m)
      ∙ (or_else_assoc (found names m) (cond (bytes_eq m x.name) (place_by (veneer_names veneers) s x.name x.value x.home) None) (named_in veneers s ss m)
      ∙ ap (λ o. or_else (found names m) (or_else o (named_in veneers s ss m))) (ap (λ p. cond (bytes_eq m x.name) p None) (place_is s x.name x.value x.home) ∙ ap (λ b. cond b (place_in veneers s x.name x.value x.home) None) (bytes_eq-sym m x.name))))

  found_objects : (names : Names) (all : List Sited) (m : List ℕ) → found (fold (with_object (veneer_names veneers)) names all) m ≡ or_else (found names m) (place_named veneers all m)
  found_objects names [] m = sym (or_else_none (found names m))
  found_objects names (s ∷ all) m =
      found_objects (with_object (veneer_names veneers) names s) all m
      ∙ (ap (λ o. or_else o (place_named veneers all m)) (found_symbols s names s.object.symbols m)
      ∙ or_else_assoc (found names m) (named_in veneers s s.object.symbols m) (place_named veneers all m))

  -- a name has the place of the symbol that an object defines
  pub name_found : (all : List Sited) (m : List ℕ) → found (defined (veneer_names veneers) all) m ≡ place_named veneers all m
  name_found all m = found_objects [] all m

  symbol_is : (all : List Sited) (s : Sited) (x : Symbol) → symbol_place (veneer_names veneers) (defined (veneer_names veneers) all) s x ≡ unwrap_or (place_of veneers all s x) 0
  symbol_is all s x =
      ap (λ o. unwrap_or (or_else o (found (defined (veneer_names veneers) all) x.name)) 0) (place_is s x.name x.value x.home)
      ∙ ap (λ o. unwrap_or (or_else (place_in veneers s x.name x.value x.home) o) 0) (name_found all x.name)

  at_number : (f : Symbol → ℕ) (g : Symbol → Option ℕ) → ((x : Symbol) → f x ≡ unwrap_or (g x) 0) → (xs : List Symbol) (k : ℕ) → slice_index (map f xs) k ≡ unwrap_or (option_and_then g (slice_get xs k)) 0
  at_number f g is [] k = refl
  at_number f g is (x ∷ xs) zero = is x
  at_number f g is (x ∷ xs) (suc k) = at_number f g is xs k

  -- a number has the place of its symbol
  pub number_place : (all : List Sited) (s : Sited) (r : Reloc) → slice_index (places_of (veneer_names veneers) (defined (veneer_names veneers) all) s) r.symbol ≡ unwrap_or (reloc_place veneers all s r) 0
  number_place all s r =
      at_number (symbol_place (veneer_names veneers) (defined (veneer_names veneers) all) s) (place_of veneers all s) (symbol_is all s) s.object.symbols r.symbol

  reloc_same : (all : List Sited) (s : Sited) (text : List ℕ) (r : Reloc) → with_place s.text_at text r (slice_index (places_of (veneer_names veneers) (defined (veneer_names veneers) all) s) r.symbol) ≡ with_reloc veneers all s text r
  unfolding with_place with_reloc
  reloc_same all s text r =
      ap (λ p. with_bytes text r.at (resolved r.kind (s.text_at + r.at) p (register_at text r.at))) (number_place all s r)

  -- a text is resolved as it is to be
  pub text_same : (all : List Sited) (s : Sited) → linked_by s.text_at (places_of (veneer_names veneers) (defined (veneer_names veneers) all) s) s.object.text s.object.relocs ≡ linked_text veneers all s
  text_same all s =
      fold_same (λ text r. with_place s.text_at text r (slice_index (places_of (veneer_names veneers) (defined (veneer_names veneers) all) s) r.symbol)) (with_reloc veneers all s) (reloc_same all s) s.object.text s.object.relocs
