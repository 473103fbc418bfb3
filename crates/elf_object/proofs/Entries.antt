-- Relocation entries and symbols are read as what they were written from.
use Rattle.std.proofs.Common.{◌≡◌, ℕ, ◌+◌, ◌-◌, ◌*◌, ◌/◌, ◌%◌, ◌^◌, ◌<◌, ◌≤◌, ◌==◌, ◌&&◌, ◌||◌, Bool, true, false, not, cond, List, [], ◌∷◌, ◌++◌, length, take, drop, All, refl, sym, ap, ◌∙◌, arith, append_assoc, suc}
use Rattle.std.specs.Prelude.{unwrap_or, nat_lt, nat_le}
use Rattle.std.specs.List.{list_all, list_any}
use Rattle.std.proofs.lemmas.Bool.{false≢true}
use Rattle.std.proofs.lemmas.Bool.Decides.{nat_tests}
use Rattle.std.proofs.lemmas.List.{take_at, drop_at}
use Rattle.std.proofs.lemmas.List.Elements.{All-head, All-tail}
use Rattle.elf32.specs.Structures.{symbol_bytes}
use Rattle.elf32.specs.Tables.{names_of, symbols_from, strings, with_name_at}
use Rattle.elf32.proofs.FieldLaws.{field32-le32}
use Rattle.elf_object.specs.declared.object.Home.{Home}
use Rattle.elf_object.specs.declared.object.Home.TheVariants.{Undefined, Text, Init, Absolute}
use Rattle.elf_object.specs.declared.object.Symbol.{Symbol}
use Rattle.elf_object.specs.declared.object.Reloc.{Reloc}
use Rattle.elf_object.specs.Structures.{rel_bytes, rel_of, relocs_bytes, section_of, symbol_of, symbols_of}
use Rattle.elf_object.specs.File.{is_kind, reloc_fits, name_fits}
use Rattle.elf_object.specs.Reading.{word, half, reloc_of, relocs_in, name_size, home_of, symbol_in, symbols_in}

pub value : (v : ℕ) → v < 2 ^ 32 → v % 256 + 256 * (v / 256 % 256) + 65536 * (v / 65536 % 256) + 16777216 * (v / 16777216 % 256) ≡ v
value v lt = ap (λ o. unwrap_or o 0) (field32-le32 [] [] v lt)

and_left : (a b : Bool) → (a && b) ≡ true → a ≡ true
and_left true b e = refl
and_left false b e = e

and_right : (a b : Bool) → (a && b) ≡ true → b ≡ true
and_right true b e = e
and_right false b e = absurd (false≢true e)

kind_below : (k : ℕ) → is_kind k ≡ true → k < 256
kind_below k e = grind (arith, nat_tests)

below : (a b : ℕ) → nat_lt a b ≡ true → a < b
below a b e = grind (arith, nat_tests)

at_most : (a b : ℕ) → nat_le a b ≡ true → a ≤ b
at_most a b e = grind (arith, nat_tests)

same_reloc : (a k n : ℕ) (r : Reloc) → a ≡ r.at → k ≡ r.kind → n ≡ r.symbol → (let x : Reloc = record { at = a; kind = k; symbol = n } in x) ≡ r
same_reloc a k n r ea ek en = rw (ea, ek, en) refl

reloc_back : (r : Reloc) (rest : List ℕ) → r.at < 2 ^ 32 → r.kind < 256 → r.symbol < 16777215 → reloc_of (rel_bytes (rel_of r) ++ rest) ≡ r
unfolding rel_bytes
reloc_back r rest a k n =
    let v = value (256 * (r.symbol + 1) + r.kind) (omega arith) in
    same_reloc _ _ _ r (value r.at a) (ap (λ i. i % 256) v ∙ omega arith) (ap (λ i. i / 256 - 1) v ∙ omega arith)

behind : (r : Reloc) (rest : List ℕ) → drop 8 (rel_bytes (rel_of r) ++ rest) ≡ rest
unfolding rel_bytes
behind r rest = refl

pub relocs_back : (size count : ℕ) (rs : List Reloc) → size < 2 ^ 32 → count ≤ 16777215 → list_all (reloc_fits size count) rs ≡ true → relocs_in (length rs) (relocs_bytes rs) ≡ rs
relocs_back size count [] low few fit = refl
relocs_back size count (r ∷ rs) low few fit =
    let here = and_left (reloc_fits size count r) (list_all (reloc_fits size count) rs) fit in
    let places = and_right (is_kind r.kind) _ here in
    let n = below r.symbol count (and_left (nat_lt r.symbol count) (nat_le (r.at + 4) size) places) in
    let a = at_most (r.at + 4) size (and_right (nat_lt r.symbol count) (nat_le (r.at + 4) size) places) in
    let k = kind_below r.kind (and_left (is_kind r.kind) _ here) in
    let tail = relocs_back size count rs low few (and_right (reloc_fits size count r) (list_all (reloc_fits size count) rs) fit) in
    ap (λ x. x ∷ relocs_in (length rs) (drop 8 (rel_bytes (rel_of r) ++ relocs_bytes rs))) (reloc_back r (relocs_bytes rs) (omega arith) k (omega arith))
    ∙ ap (λ xs. r ∷ xs) (ap (relocs_in (length rs)) (behind r (relocs_bytes rs)) ∙ tail)

home_back : (h : Home) → home_of (section_of h % 256 + 256 * (section_of h / 256 % 256)) ≡ h
home_back Undefined = refl
home_back Text = refl
home_back Init = refl
home_back Absolute = refl

one_more : (t any : Bool) (n m : ℕ) → (not any ≡ true → n ≡ m) → not (t || any) ≡ true → cond (not t) (1 + n) 0 ≡ suc m
one_more true any n m rest e = absurd (false≢true e)
one_more false any n m rest e = omega (arith, rest e)

-- a name without a zero byte ends before the first one
size_of_name : (name rest : List ℕ) → not (list_any (λ b. b == 0) name) ≡ true → name_size ((name ++ 0 ∷ []) ++ rest) ≡ length name
size_of_name [] rest e = refl
size_of_name (b ∷ bs) rest e =
    one_more (b == 0) (list_any (λ b. b == 0) bs) (name_size ((bs ++ 0 ∷ []) ++ rest)) (length bs) (size_of_name bs rest) e

same_symbol : (n : List ℕ) (h : Home) (v : ℕ) (s : Symbol) → n ≡ s.name → h ≡ s.home → v ≡ s.value → (let x : Symbol = record { name = n; home = h; value = v } in x) ≡ s
same_symbol n h v s en eh ev = rw (en, eh, ev) refl

symbol_back : (s : Symbol) (at : ℕ) (table names : List ℕ) → s.value < 2 ^ 32 → name_fits s ≡ true → symbol_in (symbol_bytes (with_name_at at (symbol_of s).1) ++ table) ((s.name ++ 0 ∷ []) ++ names) ≡ s
unfolding symbol_bytes
symbol_back s at table names v fit =
    let n = size_of_name s.name names fit in
    let whole : take (name_size ((s.name ++ 0 ∷ []) ++ names)) ((s.name ++ 0 ∷ []) ++ names) ≡ s.name =
    ap (λ k. take k ((s.name ++ 0 ∷ []) ++ names)) n ∙ (ap (take (length s.name)) (append_assoc s.name (0 ∷ []) names) ∙ take_at s.name (0 ∷ names) (length s.name) refl) in
    same_symbol _ _ _ s whole (home_back s.home) (value s.value v)

entry_behind : (s : Symbol) (at : ℕ) (table : List ℕ) → drop 16 (symbol_bytes (with_name_at at (symbol_of s).1) ++ table) ≡ table
unfolding symbol_bytes
entry_behind s at table = refl

name_behind : (s : Symbol) (names : List ℕ) → name_fits s ≡ true → drop 1 (drop (name_size ((s.name ++ 0 ∷ []) ++ names)) ((s.name ++ 0 ∷ []) ++ names)) ≡ names
name_behind s names fit =
    ap (λ k. drop 1 (drop k ((s.name ++ 0 ∷ []) ++ names))) (size_of_name s.name names fit)
    ∙ ap (drop 1) (ap (drop (length s.name)) (append_assoc s.name (0 ∷ []) names) ∙ drop_at s.name (0 ∷ names) (length s.name) refl)

pub symbols_back : (at : ℕ) (ss : List Symbol) → All (λ s. s.value < 2 ^ 32) ss → list_all name_fits ss ≡ true → symbols_in (length ss) (symbols_from at (symbols_of ss)) (strings (names_of (symbols_of ss))) ≡ ss
symbols_back at [] words fit = refl
symbols_back at (s ∷ ss) words fit =
    let here = and_left (name_fits s) (list_all name_fits ss) fit in
    let next = at + (length s.name + 1) in
    let table = symbols_from next (symbols_of ss) in
    let names = strings (names_of (symbols_of ss)) in
    let entry = symbol_bytes (with_name_at at (symbol_of s).1) ++ table in
    let texts = (s.name ++ 0 ∷ []) ++ names in
    let tail = symbols_back next ss (All-tail (λ s. s.value < 2 ^ 32) s ss words) (and_right (name_fits s) (list_all name_fits ss) fit) in
    ap (λ x. x ∷ symbols_in (length ss) (drop 16 entry) (drop 1 (drop (name_size texts) texts))) (symbol_back s at table names (All-head (λ s. s.value < 2 ^ 32) s ss words) here)
    ∙ ap (λ xs. s ∷ xs) (ap (λ t. symbols_in (length ss) t (drop 1 (drop (name_size texts) texts))) (entry_behind s at table)
    ∙ (ap (λ t. symbols_in (length ss) table t) (name_behind s names here) ∙ tail))

-- one step of a loop that reads entries
pub relocs_step : (n i : ℕ) (old new total : List Reloc) (rest rest2 : List ℕ) (r : Reloc) → i < n → old ++ relocs_in (n - i) rest ≡ total → new ≡ old ++ r ∷ [] → r ≡ reloc_of rest → rest2 ≡ drop 8 rest → new ++ relocs_in (n - (i + 1)) rest2 ≡ total
relocs_step n i old new total rest rest2 r lt inv en er e2 =
    let k : n - i ≡ suc (n - (i + 1)) = omega arith in
    let more : relocs_in (n - i) rest ≡ reloc_of rest ∷ relocs_in (n - (i + 1)) (drop 8 rest) = ap (λ m. relocs_in m rest) k in
    ap (λ xs. xs ++ relocs_in (n - (i + 1)) rest2) (en ∙ ap (λ x. old ++ x ∷ []) er)
    ∙ (ap (λ b. (old ++ reloc_of rest ∷ []) ++ relocs_in (n - (i + 1)) b) e2
    ∙ (append_assoc old (reloc_of rest ∷ []) (relocs_in (n - (i + 1)) (drop 8 rest))
    ∙ (ap (λ xs. old ++ xs) (sym more) ∙ inv)))

abbrev pub with_name : List ℕ → List ℕ → Symbol
with_name entry name = record { name = name; home = home_of (half entry 14); value = word entry 4 }

pub symbols_step : (n i k : ℕ) (old new total : List Symbol) (rest rest2 names more names2 name : List ℕ) (s : Symbol) → i < n → old ++ symbols_in (n - i) rest names ≡ total → new ≡ old ++ s ∷ [] → s ≡ with_name rest name → k ≡ name_size names → name ≡ take k names → more ≡ drop k names → rest2 ≡ drop 16 rest → names2 ≡ drop 1 more → new ++ symbols_in (n - (i + 1)) rest2 names2 ≡ total
symbols_step n i k old new total rest rest2 names more names2 name s lt inv en es ek ename emore er e2 =
    let m : n - i ≡ suc (n - (i + 1)) = omega arith in
    let next : symbols_in (n - i) rest names ≡ symbol_in rest names ∷ symbols_in (n - (i + 1)) (drop 16 rest) (drop 1 (drop (name_size names) names)) = ap (λ j. symbols_in j rest names) m in
    let here : s ≡ symbol_in rest names = es ∙ ap (with_name rest) (ename ∙ ap (λ j. take j names) ek) in
    let behind : names2 ≡ drop 1 (drop (name_size names) names) = e2 ∙ ap (drop 1) (emore ∙ ap (λ j. drop j names) ek) in
    ap (λ xs. xs ++ symbols_in (n - (i + 1)) rest2 names2) (en ∙ ap (λ x. old ++ x ∷ []) here)
    ∙ (ap (λ b. (old ++ symbol_in rest names ∷ []) ++ symbols_in (n - (i + 1)) b names2) er
    ∙ (ap (λ b. (old ++ symbol_in rest names ∷ []) ++ symbols_in (n - (i + 1)) (drop 16 rest) b) behind
    ∙ (append_assoc old (symbol_in rest names ∷ []) (symbols_in (n - (i + 1)) (drop 16 rest) (drop 1 (drop (name_size names) names)))
    ∙ (ap (λ xs. old ++ xs) (sym next) ∙ inv))))
