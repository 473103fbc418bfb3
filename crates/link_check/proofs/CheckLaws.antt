-- Objects that pass the tests can be linked.
use Rattle.std.proofs.Common.{◌≡◌, ◌≢◌, ℕ, zero, suc, ◌+◌, ◌%◌, ◌^◌, ◌<◌, ◌≤◌, ◌⊎◌, ◌&&◌, ◌||◌, ◌==◌, Bool, true, false, not, List, [], ◌∷◌, ◌++◌, length, map, get_or, All, AllPairs, Contains, slice_get, bytes_eq, codes, Option, Some, None, refl, sym, ap, ◌∙◌, subst, true≢false, inl, inr, arith}
use Rattle.std.specs.Prelude.{nat_le}
use Rattle.std.specs.List.{list_all, list_any}
use Rattle.std.proofs.lemmas.List.Sums.{AllPass-from_list_all}
use Rattle.std.proofs.lemmas.List.Elements.{All-map}
use Rattle.std.proofs.lemmas.List.Folds.{list_any_at}
use Rattle.ns_types.specs.declared.event.Veneer.{Veneer}
use Rattle.ns_types.specs.Memory.{half_at}
use Rattle.v8m_isa.specs.Decoding.{decode_of}
use Rattle.elf_object.specs.declared.object.Object.{Object}
use Rattle.elf_object.specs.declared.object.Home.{Home}
use Rattle.elf_object.specs.declared.object.Home.TheVariants.{Undefined, Text, Init, Absolute}
use Rattle.elf_object.specs.declared.object.Symbol.{Symbol}
use Rattle.elf_object.specs.declared.object.Reloc.{Reloc}
use Rattle.elf_object.specs.CanLink.{HasValue, HasForm, AreApart, has_form, is_defined, definitions, DefinesCode, IsCode, IsTarget, RelocCanLink, ObjectCanLink, EntryCanLink, CanLink}
use Rattle.elf_object.specs.File.{CanWrite, HasWords}
use Rattle.elf_object.specs.Reading.{IsObjectFile, object_in}
use Rattle.elf_object.proofs.ReadBack.{object_in-object_file}
use Rattle.elf_object.specs.Placed.{twin}
use Rattle.veneer_laws.proofs.Counts.{same_name, equal_names}
use Rattle.veneer_laws.proofs.Places.{equal_numbers}
use Rattle.link_laws.proofs.TextLaws.{and_left, and_right, at_most, less}
use Rattle.link_check.specs.Checks.{value_fits, is_text, is_code, has_code, is_once, is_target, leads, stands, reloc_passes, are_apart, symbol_passes, object_passes, is_twin, has_twin, has_entry, is_apart, entry_passes, code_passes, text_size, init_size, sizes_pass, passes, names_differ, veneers_differ, is_word}

-- one that passes a test is in a list where some do
module _ {X : Type 0} (p : X → Bool) where
  found_step : (b : Bool) (x : X) (xs : List X) → p x ≡ b → (b || list_any p xs) ≡ true → (list_any p xs ≡ true → (y : X) × Contains xs y × (p y ≡ true)) → (y : X) × Contains (x ∷ xs) y × (p y ≡ true)
  found_step true x xs is e ih = (x, (0, omega arith, refl), is)
  found_step false x xs is e ih =
      let r = ih e in (r.0, (suc r.1.0, omega (arith, r.1.1), r.1.2), r.2)

  found : (xs : List X) → list_any p xs ≡ true → (y : X) × Contains xs y × (p y ≡ true)
  found [] e = absurd (true≢false (sym e))
  found (x ∷ xs) e = found_step (p x) x xs refl e (found xs)

or_cases : (a b : Bool) → (a || b) ≡ true → (a ≡ true) ⊎ (b ≡ true)
or_cases true b e = inl refl
or_cases false b e = inr e

not_true : (a : Bool) → not a ≡ true → a ≡ false
not_true true e = absurd (true≢false (sym e))
not_true false e = refl

has_value : (o : Object) (value : ℕ) (h : Home) → value_fits o value h ≡ true → HasValue o value h
has_value o value Undefined e = tt
has_value o value Text e =
    (equal_numbers (value % 2) 0 (and_left (value % 2 == 0) (nat_le value (length o.text)) e), at_most value (length o.text) (and_right (value % 2 == 0) (nat_le value (length o.text)) e))
has_value o value Init e = at_most value (length o.init) e
has_value o value Absolute e = tt

is_in_text : (h : Home) → is_text h ≡ true → h ≡ Text
is_in_text Text e = refl
is_in_text Undefined e = absurd (true≢false (sym e))
is_in_text Init e = absurd (true≢false (sym e))
is_in_text Absolute e = absurd (true≢false (sym e))

defines : (o : Object) (name : List ℕ) (s : Symbol) → Contains o.symbols s → is_code name s ≡ true → DefinesCode o name s.value
defines o name s among e = record {
  symbol = s;
  among = among;
  home_is = is_in_text s.home (and_right (bytes_eq s.name name) (is_text s.home) e);
  name_is = equal_names s.name name (and_left (bytes_eq s.name name) (is_text s.home) e);
  value_is = refl;
}

code : (objects : List Object) (name : List ℕ) → has_code objects name ≡ true → IsCode objects name
code objects name e =
    let o = found (λ o. list_any (is_code name) o.symbols) objects e in
    let s = found (is_code name) o.0.symbols o.2 in
    record { object = o.0; among = o.1; value = s.0.value; defines = defines o.0 name s.0 s.1 s.2 }

target : (objects : List Object) (name : List ℕ) (h : Home) → is_target objects name h ≡ true → IsTarget objects name h
target objects name Undefined e = code objects name e
target objects name Text e = tt
target objects name Init e = absurd (true≢false (sym e))
target objects name Absolute e = absurd (true≢false (sym e))

form : (text : List ℕ) (r : Reloc) → stands text r ≡ true → HasForm text r
form text r e = by (r.kind == 2) refl e
  where
    by : (b : Bool) → (r.kind == 2) ≡ b → (b || has_form r.kind (decode_of (half_at text r.at) (half_at text (r.at + 2)))) ≡ true → HasForm text r
    by true is g = inl (equal_numbers r.kind 2 is)
    by false is g = inr g

record Leads (objects : List Object) (o : Object) (r : Reloc) : Type 0 where
  symbol : Symbol
  symbol_is : slice_get o.symbols r.symbol ≡ Some symbol
  target : (r.kind ≡ 10) ⊎ (r.kind ≡ 30) → IsTarget objects symbol.name symbol.home

not_branch : (k : ℕ) → (k == 10 || k == 30) ≡ false → (k ≡ 10) ⊎ (k ≡ 30) → ⊥
not_branch k e (inl is) = absurd (true≢false (sym (ap (λ n. n == 10 || n == 30) is) ∙ e))
not_branch k e (inr is) = absurd (true≢false (sym (ap (λ n. n == 10 || n == 30) is) ∙ e))

leads_there : (objects : List Object) (o : Object) (r : Reloc) → leads objects r.kind (slice_get o.symbols r.symbol) ≡ true → Leads objects o r
leads_there objects o r e = by (slice_get o.symbols r.symbol) refl e
  where
    by : (s : Option Symbol) → slice_get o.symbols r.symbol ≡ s → leads objects r.kind s ≡ true → Leads objects o r
    by None is g = absurd (true≢false (sym g))
    by (Some s) is g = record { symbol = s; symbol_is = is; target = at (r.kind == 10 || r.kind == 30) refl g }
      where
        at : (b : Bool) → (r.kind == 10 || r.kind == 30) ≡ b → (not b || is_target objects s.name s.home) ≡ true → (r.kind ≡ 10) ⊎ (r.kind ≡ 30) → IsTarget objects s.name s.home
        at true is t branch = target objects s.name s.home t
        at false is t branch = absurd (not_branch r.kind is branch)

reloc : (objects : List Object) (o : Object) (r : Reloc) → reloc_passes objects o r ≡ true → RelocCanLink objects o r
reloc objects o r e =
    let rest = and_right (r.at % 2 == 0) (stands o.text r && leads objects r.kind (slice_get o.symbols r.symbol)) e in
    let l = leads_there objects o r (and_right (stands o.text r) (leads objects r.kind (slice_get o.symbols r.symbol)) rest) in
    record {
      even = equal_numbers (r.at % 2) 0 (and_left (r.at % 2 == 0) (stands o.text r && leads objects r.kind (slice_get o.symbols r.symbol)) e);
      form = form o.text r (and_left (stands o.text r) (leads objects r.kind (slice_get o.symbols r.symbol)) rest);
      symbol = l.symbol;
      symbol_is = l.symbol_is;
      target = l.target;
    }

-- relocations one behind the other share no byte
behind : (at : ℕ) (rs : List Reloc) → are_apart at rs ≡ true → (j : ℕ) (d : Reloc) → j < length rs → at ≤ (get_or rs j d).at
behind at [] e j d lt = absurd (omega (arith, lt))
behind at (r ∷ rs) e zero d lt = at_most at r.at (and_left (nat_le at r.at) (are_apart (r.at + 4) rs) e)
behind at (r ∷ rs) e (suc j) d lt =
    let first = at_most at r.at (and_left (nat_le at r.at) (are_apart (r.at + 4) rs) e) in
    let later = behind (r.at + 4) rs (and_right (nat_le at r.at) (are_apart (r.at + 4) rs) e) j d (omega (arith, lt)) in
    omega (arith, first, later)

apart : (at : ℕ) (rs : List Reloc) → are_apart at rs ≡ true → AllPairs AreApart rs
apart at [] e i j d lt below = absurd (omega (arith, below))
apart at (r ∷ rs) e i zero d lt below = absurd (omega (arith, lt))
apart at (r ∷ rs) e zero (suc j) d lt below =
    inl (behind (r.at + 4) rs (and_right (nat_le at r.at) (are_apart (r.at + 4) rs) e) j d (omega (arith, below)))
apart at (r ∷ rs) e (suc i) (suc j) d lt below =
    apart (r.at + 4) rs (and_right (nat_le at r.at) (are_apart (r.at + 4) rs) e) i j d (omega (arith, lt)) (omega (arith, below))

once_where : (objects : List Object) (s : Symbol) → (is_defined s.home || is_once objects s.name) ≡ true → is_defined s.home ≡ false → definitions objects s.name ≡ 1
once_where objects s e none =
    equal_numbers (definitions objects s.name) 1 (ap (λ b. b || is_once objects s.name) (sym none) ∙ e)

object : (objects : List Object) (o : Object) → object_passes objects o ≡ true → ObjectCanLink objects o
object objects o e =
    let symbols = AllPass-from_list_all (symbol_passes objects o) o.symbols (and_left (list_all (symbol_passes objects o) o.symbols) (list_all (reloc_passes objects o) o.relocs && are_apart 0 o.relocs) e) in
    let rest = and_right (list_all (symbol_passes objects o) o.symbols) (list_all (reloc_passes objects o) o.relocs && are_apart 0 o.relocs) e in
    let relocs = AllPass-from_list_all (reloc_passes objects o) o.relocs (and_left (list_all (reloc_passes objects o) o.relocs) (are_apart 0 o.relocs) rest) in
    record {
      values = λ k d lt. let s = get_or o.symbols k d in
          has_value o s.value s.home (and_left (value_fits o s.value s.home) (is_defined s.home || is_once objects s.name) (symbols k d lt));
      relocs = λ k d lt. reloc objects o (get_or o.relocs k d) (relocs k d lt);
      apart = apart 0 o.relocs (and_right (list_all (reloc_passes objects o) o.relocs) (are_apart 0 o.relocs) rest);
      defined = λ k d lt. let s = get_or o.symbols k d in
          once_where objects s (and_right (value_fits o s.value s.home) (is_defined s.home || is_once objects s.name) (symbols k d lt));
    }

others : (name : List ℕ) (entries : List (List ℕ)) → is_apart entries name ≡ true → All (λ other. codes "__acle_se_" ++ name ≢ other) entries
others name entries e k d lt same =
    let other = get_or entries k d in
    let differ = not_true (bytes_eq (twin name) other) (AllPass-from_list_all (λ o. not (bytes_eq (twin name) o)) entries e k d lt) in
    true≢false (sym (same_name other) ∙ (ap (λ n. bytes_eq n other) (sym same) ∙ differ))

entry : (objects : List Object) (entries : List (List ℕ)) (name : List ℕ) → entry_passes objects entries name ≡ true → EntryCanLink objects name × All (λ other. codes "__acle_se_" ++ name ≢ other) entries
entry objects entries name e =
    let o = found (has_entry name (twin name)) objects (and_left (list_any (has_entry name (twin name)) objects) (is_once objects name && (is_once objects (twin name) && is_apart entries name)) e) in
    let rest = and_right (list_any (has_entry name (twin name)) objects) (is_once objects name && (is_once objects (twin name) && is_apart entries name)) e in
    let more = and_right (is_once objects name) (is_once objects (twin name) && is_apart entries name) rest in
    let s = found (has_twin name (twin name) o.0.symbols) o.0.symbols o.2 in
    let t = found (is_twin (twin name) s.0.value) o.0.symbols (and_right (is_code name s.0) (list_any (is_twin (twin name) s.0.value) o.0.symbols) s.2) in
    let same = equal_numbers t.0.value s.0.value (and_right (is_code (twin name) t.0) (t.0.value == s.0.value) t.2) in (
      record {
        object = o.0;
        among = o.1;
        value = s.0.value;
        code = defines o.0 name s.0 s.1 (and_left (is_code name s.0) (list_any (is_twin (twin name) s.0.value) o.0.symbols) s.2);
        twin = subst (DefinesCode o.0 (twin name)) same (defines o.0 (twin name) t.0 t.1 (and_left (is_code (twin name) t.0) (t.0.value == s.0.value) t.2));
        once = equal_numbers (definitions objects name) 1 (and_left (is_once objects name) (is_once objects (twin name) && is_apart entries name) rest);
        twin_once = equal_numbers (definitions objects (twin name)) 1 (and_left (is_once objects (twin name)) (is_apart entries name) more);
      },
      others name entries (and_right (is_once objects (twin name)) (is_apart entries name) more),
    )

pub can : (objects : List Object) (entries : List (List ℕ)) → passes objects entries ≡ true → CanLink objects entries
can objects entries e =
    let start = codes ".start" in
    let stop = codes ".stop" in
    let ends = code_passes objects start && code_passes objects stop in
    let names = list_all (entry_passes objects entries) entries in
    let all = list_all (object_passes objects) objects in
    let sizes = and_left (sizes_pass objects) (all && (names && ends)) e in
    let e2 = and_right (sizes_pass objects) (all && (names && ends)) e in
    let e3 = and_right all (names && ends) e2 in
    let e4 = and_right names ends e3 in
    let each = AllPass-from_list_all (object_passes objects) objects (and_left all (names && ends) e2) in
    let entered = AllPass-from_list_all (entry_passes objects entries) entries (and_left names ends e3) in
    let room = and_right (nat_le (length objects) 33) (nat_le (text_size objects) 4100096 && nat_le (init_size objects) 49152) sizes in
    let begins = and_left (code_passes objects start) (code_passes objects stop) e4 in
    let stops = and_right (code_passes objects start) (code_passes objects stop) e4 in
    record {
      each = λ k d lt. object objects (get_or objects k d) (each k d lt);
      few = at_most (length objects) 33 (and_left (nat_le (length objects) 33) (nat_le (text_size objects) 4100096 && nat_le (init_size objects) 49152) sizes);
      texts = at_most (text_size objects) 4100096 (and_left (nat_le (text_size objects) 4100096) (nat_le (init_size objects) 49152) room);
      inits = at_most (init_size objects) 49152 (and_right (nat_le (text_size objects) 4100096) (nat_le (init_size objects) 49152) room);
      entries_are = λ k d lt. (entry objects entries (get_or entries k d) (entered k d lt)).0;
      twins = λ k d lt. (entry objects entries (get_or entries k d) (entered k d lt)).1;
      start = code objects start (and_left (has_code objects start) (is_once objects start) begins);
      start_once = equal_numbers (definitions objects start) 1 (and_right (has_code objects start) (is_once objects start) begins);
      stop = code objects stop (and_left (has_code objects stop) (is_once objects stop) stops);
      stop_once = equal_numbers (definitions objects stop) 1 (and_right (has_code objects stop) (is_once objects stop) stops);
    }

-- values that are tested to be of 32 bits are so
pub has_words : (o : Object) → list_all is_word o.symbols ≡ true → HasWords o
has_words o e k d lt = less (get_or o.symbols k d).value (2 ^ 32) (AllPass-from_list_all is_word o.symbols e k d lt)

-- what is read of object files can be written
file_object : (f : List ℕ) → IsObjectFile f → CanWrite (object_in f)
file_object f it =
    subst CanWrite (sym (ap object_in it.is.is ∙ object_in-object_file it.object it.is.writable it.words)) it.is.writable

pub read_objects : (objects : List Object) (files : List (List ℕ)) → objects ≡ map object_in files → All IsObjectFile files → All CanWrite objects
read_objects objects files e are =
    subst (All CanWrite) (sym e) (All-map CanWrite object_in files (λ k d lt. file_object (get_or files k d) (are k d lt)))

-- ---- names that differ

none_of : {X : Type 0} (name_of : X → List ℕ) (n : List ℕ) (xs : List X) → list_any (λ x. bytes_eq (name_of x) n) xs ≡ false → (j : ℕ) (d : X) → j < length xs → n ≢ name_of (get_or xs j d)
none_of name_of n xs e j d lt same =
    true≢false (sym (list_any_at (λ x. bytes_eq (name_of x) n) xs j d lt (ap (bytes_eq (name_of (get_or xs j d))) same ∙ same_name (name_of (get_or xs j d)))) ∙ e)

pub names_apart : (ns : List (List ℕ)) → names_differ ns ≡ true → AllPairs (λ a b. a ≢ b) ns
names_apart [] e i j d lt below = absurd (omega (arith, below))
names_apart (n ∷ ns) e i zero d lt below = absurd (omega (arith, lt))
names_apart (n ∷ ns) e zero (suc j) d lt below =
    none_of (λ m. m) n ns (not_true (list_any (λ m. bytes_eq m n) ns) (and_left (not (list_any (λ m. bytes_eq m n) ns)) (names_differ ns) e)) j d (omega (arith, below))
names_apart (n ∷ ns) e (suc i) (suc j) d lt below =
    names_apart ns (and_right (not (list_any (λ m. bytes_eq m n) ns)) (names_differ ns) e) i j d (omega (arith, lt)) (omega (arith, below))

pub veneers_apart : (vs : List Veneer) → veneers_differ vs ≡ true → AllPairs (λ v w. v.name ≢ w.name) vs
veneers_apart [] e i j d lt below = absurd (omega (arith, below))
veneers_apart (v ∷ vs) e i zero d lt below = absurd (omega (arith, lt))
veneers_apart (v ∷ vs) e zero (suc j) d lt below =
    none_of (λ w. w.name) v.name vs (not_true (list_any (λ w. bytes_eq w.name v.name) vs) (and_left (not (list_any (λ w. bytes_eq w.name v.name) vs)) (veneers_differ vs) e)) j d (omega (arith, below))
veneers_apart (v ∷ vs) e (suc i) (suc j) d lt below =
    veneers_apart vs (and_right (not (list_any (λ w. bytes_eq w.name v.name) vs)) (veneers_differ vs) e) i j d (omega (arith, lt)) (omega (arith, below))
