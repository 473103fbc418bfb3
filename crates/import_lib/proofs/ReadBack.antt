-- What is written is read back: the library of veneers lists them.
use Rattle.std.proofs.Common.{◌≡◌, ◌≢◌, ℕ, ◌+◌, ◌-◌, ◌*◌, ◌/◌, ◌%◌, ◌^◌, ◌<◌, ◌≤◌, ◌==◌, Bool, true, false, cond, nat_lt, Some, None, Ok, if◌then◌else◌, List, [], ◌∷◌, ◌++◌, length, take, drop, get_or, replicate, position, bytes_eq, All, refl, sym, subst, ap, ◌∙◌, arith, append_assoc, append-nil, length-append, lt-ltb}
use Rattle.std.specs.Prelude.{AllPairs, Contains}
use Rattle.std.specs.List.{list_any, position_or_len}
use Rattle.std.proofs.lemmas.Bool.{le-leb, ne_eqb}
use Rattle.std.proofs.Math.Seq.{get_or-append_seam}
use Rattle.std.proofs.lemmas.List.{take_at, drop_at, drop-drop, length-replicate, get_or_append_left}
use Rattle.std.proofs.lemmas.List.Elements.{All-head, All-tail}
use Rattle.std.proofs.lemmas.List.Folds.{list_any_none}
use Rattle.std.proofs.lemmas.List.Sums.{position_or_len_is}
use Rattle.std.proofs.lemmas.Slice.Eq.{bytes_eq-Decides}
use Rattle.elf32.specs.Constants.{SYMBOL_SIZE}
use Rattle.elf32.specs.Structures.{header_bytes, symbol_bytes, section_header_bytes, absolute_function}
use Rattle.elf32.specs.Tables.{names_of, with_name_at, symbols_from, symbol_table, strings, string_table, section_names, symbols_section, strings_section, table_sections_bytes, padding, aligned, padded}
use Rattle.elf32.specs.declared.structures.SectionHeader.{SectionHeader}
use Rattle.elf32.specs.declared.structures.Symbol.{Symbol}
use Rattle.elf32.specs.declared.tables.Tables.{Tables}
use Rattle.elf32.proofs.FieldLaws.{field32-le32, drop-past}
use Rattle.ns_types.specs.declared.event.Veneer.{Veneer}
use Rattle.import_lib.specs.Library.{symbols_of, library_header, tables_of, sections_at, library_of, CanWrite}
use Rattle.import_lib.specs.Reading.{◌>>=◌, test, some_or, word, shoff, shnum, identification_of, header_of, sections_of, section_in, section_place, section_of, first_table, is_strings, section_test, table_test, table_of, strings_of, part_of, symbol_in, is_listed, named, name_in, names_in, with_veneer, with_symbol, with_symbols, veneers_of}
use Rattle.import_lib.proofs.NameLaws.{list_any_map}

value : (v : ℕ) → v < 2 ^ 32 → v % 256 + 256 * (v / 256 % 256) + 65536 * (v / 65536 % 256) + 16777216 * (v / 16777216 % 256) ≡ v
value v lt = ap (λ o. elim o as (λ _. ℕ) [ None ↦ 0 | Some x ↦ x ]) (field32-le32 [] [] v lt)

-- Names

zero_there : (name more : List ℕ) → ¬ (Contains name 0) → position_or_len (λ b. b == 0) (name ++ 0 ∷ more) ≡ length name
zero_there name more none =
    let whole = name ++ 0 ∷ more in
    position_or_len_is (λ b. b == 0) whole (length name) 0 (omega (arith, length-append name (0 ∷ more)))
    (λ k lt. ap (λ b. b == 0) (get_or_append_left name (0 ∷ more) 0 k lt) ∙ ne_eqb (get_or name k 0) 0 (λ e. none (k, lt, e)))
    (λ _. ap (λ b. b == 0) (get_or-append_seam name 0 more 0))

name_back : (strs name more : List ℕ) (o : ℕ) → 0 < length name → ¬ (Contains name 0) → drop o strs ≡ (name ++ 0 ∷ []) ++ more → name_in strs o ≡ Some name
unfolding name_in
name_back strs name more o some none e =
    let whole = name ++ 0 ∷ more in
    let pos : position (λ b. b == 0) whole ≡ Some (length name) =
    ap (λ n. cond (nat_lt n (length whole)) (Some n) None) (zero_there name more none)
    ∙ ap (λ b. cond b (Some (length name)) None) (lt-ltb (length name) (length whole) (omega (arith, length-append name (0 ∷ more)))) in
    ap (λ t. named t (position (λ b. b == 0) t)) (e ∙ append_assoc name (0 ∷ []) more)
    ∙ (ap (named whole) pos
    ∙ (ap (λ b. if b then None else Some (take (length name) whole)) (ne_eqb (length name) 0 (λ z. omega arith))
    ∙ ap Some (take_at name (0 ∷ more) (length name) refl)))

-- a name that differs from all others is none of the earlier ones
no_other : (done rest : List Veneer) (v : Veneer) → AllPairs (λ v w. v.name ≢ w.name) (done ++ v ∷ rest) → list_any (bytes_eq v.name) (names_in done) ≡ false
no_other done rest v differ =
    list_any_map (λ w. w.name) (bytes_eq v.name) done
    ∙ list_any_none (λ w. bytes_eq v.name w.name) done (λ k d lt. by (bytes_eq v.name (get_or done k d).name) refl (λ same.
    differ k (length done) d lt (omega (arith, length-append done (v ∷ rest)))
    (ap (λ w. w.name) (get_or_append_left done (v ∷ rest) d k lt)
    ∙ (sym ((bytes_eq-Decides v.name (get_or done k d).name).0 same)
    ∙ sym (ap (λ w. w.name) (get_or-append_seam done v rest d))))))
  where
    by : (b : Bool) {c : Bool} → c ≡ b → (c ≡ true → ⊥) → c ≡ false
    by true e none = absurd (none e)
    by false e none = e

-- Symbols

same_symbol : (n m : ℕ) (s : Symbol) → n ≡ s.st_name → m ≡ s.st_value → (let x : Symbol = record s { st_name = n; st_value = m } in x) ≡ s
same_symbol n m s en em = rw (en, em) refl

abbrev placed : ℕ → ℕ → Symbol
placed o address = with_name_at o (absolute_function (address + 1) 8)

symbol_back : (o address : ℕ) (tail : List ℕ) → o < 2 ^ 32 → address + 1 < 2 ^ 32 → symbol_in (symbol_bytes (placed o address) ++ tail) ≡ placed o address
unfolding symbol_bytes symbol_in
symbol_back o address tail low fits = same_symbol _ _ (placed o address) (value o low) (value (address + 1) fits)

symbol_behind : (o address : ℕ) (tail : List ℕ) → drop 16 (symbol_bytes (placed o address) ++ tail) ≡ tail
unfolding symbol_bytes
symbol_behind o address tail = refl

listed_back : (strs : List ℕ) (v : Veneer) (o at : ℕ) (done : List Veneer) → v.address % 2 ≡ 0 → name_in strs o ≡ Some v.name → list_any (bytes_eq v.name) (names_in done) ≡ false → with_veneer strs (placed o v.address) at done ≡ Ok (done ++ v ∷ [])
unfolding with_veneer
listed_back strs v o at done even name new =
    let a : (v.address + 1) - (v.address + 1) % 2 ≡ v.address = omega arith in
    rw (name, new) (ap (λ n. Ok (done ++ (let w : Veneer = record { name = v.name; address = n } in w) ∷ [])) a)

step_back : (bytes tail strs : List ℕ) (table : SectionHeader) (v : Veneer) (k o : ℕ) (done : List Veneer) → drop (table.sh_offset + 16 * k) bytes ≡ symbol_bytes (placed o v.address) ++ tail → o < 2 ^ 32 → v.address < 2 ^ 32 → v.address % 2 ≡ 0 → name_in strs o ≡ Some v.name → list_any (bytes_eq v.name) (names_in done) ≡ false → with_symbol bytes table strs k done ≡ Ok (done ++ v ∷ [])
unfolding with_symbol
step_back bytes tail strs table v k o done e low word even name new =
    let at = table.sh_offset + 16 * k in
    let read : symbol_in (drop at bytes) ≡ placed o v.address = ap symbol_in e ∙ symbol_back o v.address tail low (omega arith) in
    ap (λ s. if is_listed s then with_veneer strs s at done else Ok done) read ∙ listed_back strs v o at done even name new

symbols_back : (bytes tail strs : List ℕ) (table : SectionHeader) (k o : ℕ) (done rest : List Veneer) → drop (table.sh_offset + 16 * k) bytes ≡ symbols_from o (symbols_of rest) ++ tail → drop o strs ≡ strings (names_of (symbols_of rest)) → o + length (strings (names_of (symbols_of rest))) < 2 ^ 32 → All (λ v. v.address < 2 ^ 32) rest → All (λ v. v.address % 2 ≡ 0) rest → All (λ v. (0 < length v.name) × ¬ (Contains v.name 0)) rest → AllPairs (λ v w. v.name ≢ w.name) (done ++ rest) → with_symbols bytes table strs (length rest) k done ≡ Ok (done ++ rest)
symbols_back bytes tail strs table k o done [] e1 e2 lt words even named differ = ap Ok (sym (append-nil done))
symbols_back bytes tail strs table k o done (v ∷ rest) e1 e2 lt words even named differ =
    let next = o + (length v.name + 1) in
    let more = symbols_from next (symbols_of rest) ++ tail in
    let texts = strings (names_of (symbols_of rest)) in
    let size : length ((v.name ++ 0 ∷ []) ++ texts) ≡ length v.name + 1 + length texts = omega (arith, length-append (v.name ++ 0 ∷ []) texts, length-append v.name (0 ∷ [])) in
    let here : drop (table.sh_offset + 16 * k) bytes ≡ symbol_bytes (placed o v.address) ++ more = e1 ∙ append_assoc (symbol_bytes (placed o v.address)) (symbols_from next (symbols_of rest)) tail in
    let name = All-head (λ v. (0 < length v.name) × ¬ (Contains v.name 0)) v rest named in
    let step = step_back bytes more strs table v k o done here (omega arith) (All-head (λ v. v.address < 2 ^ 32) v rest words) (All-head (λ v. v.address % 2 ≡ 0) v rest even) (name_back strs v.name texts o name.0 name.1 e2) (no_other done rest v differ) in
    let behind : drop (table.sh_offset + 16 * (k + 1)) bytes ≡ more =
    ap (λ n. drop n bytes) (let n : table.sh_offset + 16 * (k + 1) ≡ table.sh_offset + 16 * k + 16 = omega arith in n)
    ∙ (sym (drop-drop 16 (table.sh_offset + 16 * k) bytes) ∙ (ap (drop 16) here ∙ symbol_behind o v.address more)) in
    let past : drop next strs ≡ texts =
    sym (drop-drop (length v.name + 1) o strs) ∙ (ap (drop (length v.name + 1)) e2 ∙ drop_at (v.name ++ 0 ∷ []) texts (length v.name + 1) (length-append v.name (0 ∷ []))) in
    let all : AllPairs (λ v w. v.name ≢ w.name) ((done ++ v ∷ []) ++ rest) = subst (AllPairs (λ v w. v.name ≢ w.name)) (sym (append_assoc done (v ∷ []) rest)) differ in
    let tail_back = symbols_back bytes tail strs table (k + 1) next (done ++ v ∷ []) rest behind past (omega arith) (All-tail (λ v. v.address < 2 ^ 32) v rest words) (All-tail (λ v. v.address % 2 ≡ 0) v rest even) (All-tail (λ v. (0 < length v.name) × ¬ (Contains v.name 0)) v rest named) all in
    ap (λ r. r >>= with_symbols bytes table strs (length rest) (k + 1)) step ∙ (tail_back ∙ ap Ok (append_assoc done (v ∷ []) rest))

-- The parts of a file

module _ (h s t m x : List ℕ) (size : length h ≡ 52) where
  abbrev whole : List ℕ
  whole = h ++ (s ++ (t ++ (m ++ x)))

  symbols_there : drop 52 whole ≡ s ++ (t ++ (m ++ x))
  symbols_there = drop_at h (s ++ (t ++ (m ++ x))) 52 size

  strings_there : take (length t) (drop (52 + length s) whole) ≡ t
  strings_there =
      ap (λ f. take (length t) (drop (52 + length s) f)) (sym (append_assoc h s (t ++ (m ++ x))))
      ∙ (ap (take (length t)) (drop_at (h ++ s) (t ++ (m ++ x)) (52 + length s) (omega (arith, length-append h s))) ∙ take_at t (m ++ x) (length t) refl)

  whole_size : length whole ≡ 52 + length s + length t + length m + length x
  whole_size =
      omega (arith, length-append h (s ++ (t ++ (m ++ x))), length-append s (t ++ (m ++ x)), length-append t (m ++ x), length-append m x)

  sections_there : (at j : ℕ) → at ≡ 52 + length s + length t + length m → drop (at + j) whole ≡ drop j x
  sections_there at j e =
      let front : List ℕ = ((h ++ s) ++ t) ++ m in
      let same : whole ≡ front ++ x = simp append_assoc in
      let ends : at ≡ length front = omega (arith, length-append ((h ++ s) ++ t) m, length-append (h ++ s) t, length-append h s) in
      ap (drop (at + j)) same ∙ (ap (λ n. drop (n + j) (front ++ x)) ends ∙ drop-past front x j)

-- The file header

length_header : (at : ℕ) → length (header_bytes (library_header at)) ≡ 52
unfolding header_bytes
length_header at = refl

is_identified : (at : ℕ) (rest : List ℕ) → identification_of (header_bytes (library_header at) ++ rest) ≡ Ok tt
unfolding identification_of header_bytes
is_identified at rest = rw (le-leb 52 (length (header_bytes (library_header at) ++ rest)) (omega arith)) refl

has_header : (at : ℕ) (rest : List ℕ) → header_of (header_bytes (library_header at) ++ rest) ≡ Ok tt
unfolding header_of header_bytes
has_header at rest = refl

shoff_is : (at : ℕ) (rest : List ℕ) → at < 2 ^ 32 → shoff (header_bytes (library_header at) ++ rest) ≡ at
unfolding header_bytes
shoff_is at rest lt = value at lt

shnum_is : (at : ℕ) (rest : List ℕ) → shnum (header_bytes (library_header at) ++ rest) ≡ 4
unfolding header_bytes
shnum_is at rest = refl

-- The section headers

same_section : (a n : ℕ) (s : SectionHeader) → a ≡ s.sh_offset → n ≡ s.sh_size → (let x : SectionHeader = record s { sh_offset = a; sh_size = n } in x) ≡ s
same_section a n s ea en = rw (ea, en) refl

null_type : (l : Tables) → (section_in (drop 0 (table_sections_bytes l))).sh_type ≡ 0
unfolding table_sections_bytes section_header_bytes section_in
null_type l = refl

symbols_header : (l : Tables) → l.symbols_at < 2 ^ 32 → l.symbols_size < 2 ^ 32 → section_in (drop 40 (table_sections_bytes l)) ≡ symbols_section l
unfolding table_sections_bytes section_header_bytes section_in
symbols_header l low fits = same_section _ _ (symbols_section l) (value l.symbols_at low) (value l.symbols_size fits)

strings_header : (l : Tables) → l.strings_at < 2 ^ 32 → l.strings_size < 2 ^ 32 → section_in (drop 80 (table_sections_bytes l)) ≡ strings_section 9 l.strings_at l.strings_size
unfolding table_sections_bytes section_header_bytes section_in
strings_header l low fits = same_section _ _ (strings_section 9 l.strings_at l.strings_size) (value l.strings_at low) (value l.strings_size fits)

length_sections : (l : Tables) → length (table_sections_bytes l) ≡ 160
unfolding table_sections_bytes section_header_bytes
length_sections l = refl

section_back : (bytes x : List ℕ) (at k : ℕ) → shoff bytes ≡ at → drop (at + 40 * k) bytes ≡ drop (40 * k) x → section_of bytes k ≡ section_in (drop (40 * k) x)
unfolding section_of
section_back bytes x at k e there = ap (λ n. section_in (drop (n + 40 * k) bytes)) e ∙ ap section_in there

sections_fit : (bytes : List ℕ) (at : ℕ) → shoff bytes ≡ at → shnum bytes ≡ 4 → at + 160 ≤ length bytes → sections_of bytes ≡ Ok tt
unfolding sections_of
sections_fit bytes at e four fit =
    ap (λ b. test b (shoff bytes + 4 * ((length bytes - shoff bytes) / 4))) (le-leb (shoff bytes + 40 * shnum bytes) (length bytes) (omega arith))

section_fits : (bytes : List ℕ) (s : SectionHeader) (at : ℕ) → s.sh_flags ≡ 0 → s.sh_offset + s.sh_size ≤ length bytes → section_test bytes s at ≡ Ok tt
unfolding section_test
section_fits bytes s at plain inside = rw (plain, le-leb (s.sh_offset + s.sh_size) (length bytes) inside) refl

table_fits : (bytes : List ℕ) (s : SectionHeader) (at : ℕ) → section_test bytes s at ≡ Ok tt → s.sh_size % 16 ≡ 0 → is_strings bytes s.sh_link ≡ true → table_test bytes s at ≡ Ok tt
unfolding table_test
table_fits bytes s at fit whole strings = rw (fit, whole, strings) refl

table_back : (bytes : List ℕ) (s : SectionHeader) → shnum bytes ≡ 4 → (section_of bytes 0).sh_type ≡ 0 → section_of bytes 1 ≡ s → s.sh_type ≡ 2 → table_test bytes s (section_place bytes 1) ≡ Ok tt → table_of bytes ≡ Ok s
unfolding table_of
table_back bytes s four null is kind fit =
    let found : first_table bytes (shnum bytes) 0 ≡ Some 1 =
    ap (λ n. first_table bytes n 0) four
    ∙ (ap (λ k. if k == 2 then Some 0 else first_table bytes 3 1) null ∙ ap (λ k. if k == 2 then Some 1 else first_table bytes 2 2) (ap (λ x. x.sh_type) is ∙ kind)) in
    ap (λ o. some_or o 48 >>= λ k. table_test bytes (section_of bytes k) (section_place bytes k) >>= λ _. Ok (section_of bytes k)) found
    ∙ (ap (λ x. table_test bytes x (section_place bytes 1) >>= λ _. Ok x) is ∙ ap (λ r. r >>= λ _. Ok s) fit)

strings_back : (bytes : List ℕ) (table s : SectionHeader) → section_of bytes table.sh_link ≡ s → section_test bytes s (section_place bytes table.sh_link) ≡ Ok tt → strings_of bytes table ≡ Ok s
unfolding strings_of
strings_back bytes table s is fit =
    ap (λ x. section_test bytes x (section_place bytes table.sh_link) >>= λ _. Ok x) is ∙ ap (λ r. r >>= λ _. Ok s) fit

veneers_from : (bytes : List ℕ) (table strs : SectionHeader) (vs : List Veneer) → identification_of bytes ≡ Ok tt → header_of bytes ≡ Ok tt → sections_of bytes ≡ Ok tt → table_of bytes ≡ Ok table → strings_of bytes table ≡ Ok strs → with_symbols bytes table (part_of bytes strs) (table.sh_size / SYMBOL_SIZE - 1) 1 [] ≡ Ok vs → veneers_of bytes ≡ Ok vs
unfolding veneers_of
veneers_from bytes table strs vs ident header sections first second listed = rw (ident, header, sections, first, second, listed) refl

-- The sizes of the parts

length-symbols_from : (at : ℕ) (vs : List Veneer) → length (symbols_from at (symbols_of vs)) ≡ 16 * length vs
unfolding symbol_bytes
length-symbols_from at [] = refl
length-symbols_from at (v ∷ vs) = omega (arith, length-symbols_from (at + (length v.name + 1)) vs)

length-symbol_table : (vs : List Veneer) → length (symbol_table (symbols_of vs)) ≡ 16 * length vs + 16
unfolding symbol_table symbol_bytes
length-symbol_table vs = omega (arith, length-symbols_from 1 vs)

first_symbol : (vs : List Veneer) (rest : List ℕ) → drop 16 (symbol_table (symbols_of vs) ++ rest) ≡ symbols_from 1 (symbols_of vs) ++ rest
unfolding symbol_table symbol_bytes
first_symbol vs rest = refl

part_ends : (at : ℕ) (part : List ℕ) → at + length (padded at part) ≡ aligned (at + length part)
unfolding padded aligned
part_ends at part =
    omega (arith, length-append part (replicate (padding (at + length part)) 0), length-replicate {A = ℕ} (padding (at + length part)) 0)

pub reads_back : (vs : List Veneer) → CanWrite vs → All (λ v. v.address < 2 ^ 32) vs → veneers_of (library_of vs) ≡ Ok vs
unfolding library_of
reads_back vs can words =
    let s = symbol_table (symbols_of vs) in
    let texts = strings (names_of (symbols_of vs)) in
    let t = string_table (names_of (symbols_of vs)) in
    let l = tables_of vs in
    let m = padded l.names_at section_names in
    let x = table_sections_bytes l in
    let at = sections_at vs in
    let h = header_bytes (library_header at) in
    let rest = s ++ (t ++ (m ++ x)) in
    let file = h ++ rest in
    let size = length_header at in
    let ends : at ≡ 52 + length s + length t + length m = sym (part_ends l.names_at section_names) in
    let lt : at + 160 < 2 ^ 32 = can.fits in
    let long : length file ≡ at + 160 = omega (arith, whole_size h s t m x size, length_sections l) in
    let start = shoff_is at rest (omega arith) in
    let four = shnum_is at rest in
    let section = λ (k : ℕ). section_back file x at k start (sections_there h s t m x size at (40 * k) ends) in
    let table = symbols_section l in
    let strs = strings_section 9 l.strings_at l.strings_size in
    let first : section_of file 1 ≡ table = section 1 ∙ symbols_header l (omega arith) (omega arith) in
    let second : section_of file 2 ≡ strs = section 2 ∙ strings_header l (omega arith) (omega arith) in
    let count = length-symbol_table vs in
    let whole : length s % 16 ≡ 0 = omega arith in
    let linked : is_strings file 2 ≡ true = rw (four, second) refl in
    let found : table_of file ≡ Ok table =
    table_back file table four (ap (λ z. z.sh_type) (section 0) ∙ null_type l) first refl
    (table_fits file table (section_place file 1) (section_fits file table (section_place file 1) refl (omega arith)) whole linked) in
    let named : strings_of file table ≡ Ok strs = strings_back file table strs second (section_fits file strs (section_place file 2) refl (omega arith)) in
    let there : drop (52 + 16 * 1) file ≡ symbols_from 1 (symbols_of vs) ++ (t ++ (m ++ x)) =
    sym (drop-drop 16 52 file) ∙ (ap (drop 16) (symbols_there h s t m x size) ∙ first_symbol vs (t ++ (m ++ x))) in
    let listed : with_symbols file table (part_of file strs) (length s / 16 - 1) 1 [] ≡ Ok vs =
    ap (λ p. with_symbols file table p (length s / 16 - 1) 1 []) (strings_there h s t m x size)
    ∙ (ap (λ n. with_symbols file table t n 1 []) (let n : length s / 16 - 1 ≡ length vs = omega arith in n)
    ∙ symbols_back file (t ++ (m ++ x)) t table 1 1 [] vs there refl (omega arith) words can.even can.named can.differ) in
    veneers_from file table strs vs (is_identified at rest) (has_header at rest) (sections_fit file at start four (omega arith)) found named listed
