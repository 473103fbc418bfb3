-- What the crates above know of instructions and their halfwords.
use Rattle.std.proofs.Common.{◌≡◌, ℕ, ◌/◌, ◌%◌, ◌^◌, ◌<◌, ◌≤◌, true, false, ◌⊎◌, refl, sym, ap, ◌∙◌, subst, ⊎_elim, inl, inr, arith, Option, Some, None, IfSome, eq-eqb}
use Rattle.std.specs.Prelude.{eqb, option_map, is_some, IfNone}
use Rattle.std.proofs.lemmas.Bool.Decides.{nat_tests}
use Rattle.v8m_isa.specs.declared.instr.Instr.{Instr}
use Rattle.v8m_isa.specs.Table.{in_range_of, size_of, code_of, IsReadAs, IsNoInstr}
use Rattle.v8m_isa.specs.Decoding.{Decoded, decode_of, is_of_two_bytes, is_narrow, pair_of, read_by}
use Rattle.v8m_isa.specs.declared.table.Opcode.{Opcode}
use Rattle.v8m_isa.specs.Choice.{chosen, choices}
use Rattle.v8m_isa.proofs.TableLaws as table
use Rattle.v8m_isa.proofs.TableLaws.{size_by_top}
use Rattle.v8m_isa.proofs.Encodings as encodings
use Rattle.v8m_isa.proofs.Encodings.{decode-code_of, code_of-decode, size_of_cases}

-- An instruction in range is what its halfwords are read as.
pub decode_of-code_of : (i : Instr) → in_range_of i ≡ true → decode_of (code_of i).first (code_of i).second ≡ Some (record { instr = i; size = size_of i })
decode_of-code_of i h = decode-code_of i (code_of i).second h (encodings.code_of_second i h) (inr refl)

-- With one halfword it is so whatever comes next.
pub decode_of-code_of_narrow : (i : Instr) (b : ℕ) → in_range_of i ≡ true → size_of i ≡ 2 → b < 2 ^ 16 → decode_of (code_of i).first b ≡ Some (record { instr = i; size = size_of i })
decode_of-code_of_narrow i b h e lb = decode-code_of i b h lb (inl e)

-- What is read has these halfwords, and is in range.
pub code_of-decode_of : (a b : ℕ) (d : Decoded) → b < 2 ^ 16 → decode_of a b ≡ Some d → IsReadAs a b d.instr d.size
code_of-decode_of a b d lb e = code_of-decode a b d lb e

-- Halfwords are read as an instruction of this size where they are its halfwords.
pub decode_of-read : (a b : ℕ) (i : Instr) (size : ℕ) → b < 2 ^ 16 → IsReadAs a b i size → decode_of a b ≡ Some (record { instr = i; size = size })
decode_of-read a b i size lb r =
    let same : size_of i ≡ size = sym (encodings.code_of_size i) ∙ r.has_size in
    let has : (size_of i ≡ 2) ⊎ (b ≡ (code_of i).second) = ⊎_elim (λ s. inl s) (λ s. inr (sym (r.has_second (sym same ∙ s)))) (size_of_cases i) in
    subst (λ x. decode_of x b ≡ Some (record { instr = i; size = size })) r.has_first
    (decode-code_of i b r.in_range lb has ∙ ap (λ n. let d : Decoded = record { instr = i; size = n } in Some d) same)

pub size_of_two_or_four : (i : Instr) → (size_of i ≡ 2) ⊎ (size_of i ≡ 4)
size_of_two_or_four i = size_of_cases i

pub size-code_of : (i : Instr) → (code_of i).size ≡ size_of i
size-code_of i = encodings.code_of_size i

pub first-code_of_lt : (i : Instr) → in_range_of i ≡ true → (code_of i).first < 2 ^ 16
first-code_of_lt i h = encodings.code_of_first i h

pub second-code_of_lt : (i : Instr) → in_range_of i ≡ true → (code_of i).second < 2 ^ 16
second-code_of_lt i h = encodings.code_of_second i h

pub second-code_of_narrow : (i : Instr) → in_range_of i ≡ true → size_of i ≡ 2 → (code_of i).second ≡ 0
second-code_of_narrow i h e = encodings.code_of_narrow i h e

-- The size of what is read is that of the instruction.
pub size-decode_of : (a b : ℕ) (d : Decoded) → b < 2 ^ 16 → decode_of a b ≡ Some d → d.size ≡ size_of d.instr
size-decode_of a b d lb e = sym (code_of-decode a b d lb e).has_size ∙ encodings.code_of_size d.instr

-- Whether a halfword is an instruction by itself.
some_decoded : (c d : Decoded) → Some c ≡ Some d → c ≡ d
some_decoded c d e = cc

two_bytes : (x : Option Decoded) → is_of_two_bytes x ≡ true → (d : Decoded) × (x ≡ Some d) × (d.size ≡ 2)
two_bytes None h = cc
two_bytes (Some d) h = (d, refl, grind (arith, nat_tests))

two_bytes_some : (x : Option Decoded) (d : Decoded) → x ≡ Some d → is_of_two_bytes x ≡ eqb d.size 2
two_bytes_some x d e = ap is_of_two_bytes e

narrow_reads : (a b : ℕ) → is_narrow a ≡ true → b < 2 ^ 16 → (d : Decoded) × (decode_of a b ≡ Some d) × (decode_of a 0 ≡ Some d) × (d.size ≡ 2)
unfolding is_narrow
narrow_reads a b h lb =
    let s = two_bytes (decode_of a 0) h in
    let r = code_of-decode a 0 s.0 (omega arith) s.1 in
    let size : size_of s.0.instr ≡ 2 = sym (encodings.code_of_size s.0.instr) ∙ r.has_size ∙ s.2 in
    let again = decode-code_of s.0.instr b r.in_range lb (inl size) in
    let none_more = decode-code_of s.0.instr 0 r.in_range (omega arith) (inl size) in
    let at_b : decode_of a b ≡ Some (record { instr = s.0.instr; size = size_of s.0.instr }) = subst (λ x. decode_of x b ≡ Some (record { instr = s.0.instr; size = size_of s.0.instr })) r.has_first again in
    let at_0 : decode_of a 0 ≡ Some (record { instr = s.0.instr; size = size_of s.0.instr }) = subst (λ x. decode_of x 0 ≡ Some (record { instr = s.0.instr; size = size_of s.0.instr })) r.has_first none_more in
    (s.0, at_b ∙ sym at_0 ∙ s.1, s.1, s.2)

-- What begins with such a halfword doesn't rest on the next one.
pub decode_of_narrow : (a b c : ℕ) → is_narrow a ≡ true → b < 2 ^ 16 → c < 2 ^ 16 → decode_of a b ≡ decode_of a c
decode_of_narrow a b c h lb lc =
    let s = narrow_reads a b h lb in
    let t = narrow_reads a c h lc in
    s.1 ∙ sym s.2 ∙ t.2 ∙ sym t.1

pub size-decode_of_narrow : (a b : ℕ) (d : Decoded) → is_narrow a ≡ true → b < 2 ^ 16 → decode_of a b ≡ Some d → d.size ≡ 2
size-decode_of_narrow a b d h lb e =
    let s = narrow_reads a b h lb in
    ap (λ (x : Decoded). x.size) (some_decoded d s.0 (sym e ∙ s.1)) ∙ s.3

-- What begins with another one has two.
pub size-decode_of_wide : (a b : ℕ) (d : Decoded) → is_narrow a ≡ false → b < 2 ^ 16 → decode_of a b ≡ Some d → d.size ≡ 4
unfolding is_narrow
size-decode_of_wide a b d h lb e =
    ⊎_elim
    (λ s. let r = code_of-decode a b d lb e in
    let size : size_of d.instr ≡ 2 = sym (encodings.code_of_size d.instr) ∙ r.has_size ∙ s.0 in
    let at_0 : decode_of a 0 ≡ Some (record { instr = d.instr; size = size_of d.instr }) = subst (λ x. decode_of x 0 ≡ Some (record { instr = d.instr; size = size_of d.instr })) r.has_first (decode-code_of d.instr 0 r.in_range (omega arith) (inl size)) in
    let two = two_bytes_some (decode_of a 0) (record { instr = d.instr; size = size_of d.instr }) at_0 in
    let yes_two : eqb (size_of d.instr) 2 ≡ true = eq-eqb (size_of d.instr) 2 size in
    cc)
    (λ s. s.0)
    (size_by_top a b d lb e)

-- The first halfword of an instruction tells whether it is one by itself.
pub is_narrow-code_of : (i : Instr) → in_range_of i ≡ true → is_narrow (code_of i).first ≡ eqb (size_of i) 2
unfolding is_narrow
is_narrow-code_of i h =
    ⊎_elim
    (λ s. two_bytes_some (decode_of (code_of i).first 0) (record { instr = i; size = size_of i }) (decode-code_of i 0 h (omega arith) (inl s)))
    (λ s. not_two (decode_of (code_of i).first 0) refl s)
    (size_of_cases i)
  where
    not_two : (x : Option Decoded) → decode_of (code_of i).first 0 ≡ x → size_of i ≡ 4 → is_of_two_bytes x ≡ eqb (size_of i) 2
    not_two None e s = grind (arith, nat_tests)
    not_two (Some d) e s =
        let own = size_by_top (code_of i).first (code_of i).second (record { instr = i; size = size_of i }) (encodings.code_of_second i h) (decode_of-code_of i h) in
        let at_0 = size_by_top (code_of i).first 0 d (omega arith) e in
        grind (arith, nat_tests)

-- A halfword is an instruction by itself exactly where it is one of size 2.
pub is_narrow-read : (a b : ℕ) (i : Instr) → IsReadAs a b i 2 → is_narrow a ≡ true
unfolding is_narrow
is_narrow-read a b i r =
    let alone : IsReadAs a 0 i 2 = record { in_range = r.in_range; has_size = r.has_size; has_first = r.has_first; has_second = λ e. absurd (omega arith) } in
    two_bytes_some (decode_of a 0) (record { instr = i; size = 2 }) (decode_of-read a 0 i 2 (omega arith) alone)

pub read-is_narrow : (a : ℕ) → is_narrow a ≡ true → (i : Instr) × IsReadAs a 0 i 2
unfolding is_narrow
read-is_narrow a h =
    let s = two_bytes (decode_of a 0) h in
    (s.0.instr, subst (λ n. IsReadAs a 0 s.0.instr n) s.2 (code_of-decode a 0 s.0 (omega arith) s.1))

-- The bodies: what `decode` and `is_narrow` promise, from the value that they give.
pub back : (a b : ℕ) (r : Option (Instr × ℕ)) → r ≡ option_map pair_of (decode_of a b) → b < 2 ^ 16 → IfSome r (λ p. IsReadAs a b p.0 p.1)
back a b r e lb = subst (λ q. IfSome q (λ p. IsReadAs a b p.0 p.1)) (sym e) (at (decode_of a b) refl)
  where
    at : (x : Option Decoded) → decode_of a b ≡ x → IfSome (option_map pair_of x) (λ p. IsReadAs a b p.0 p.1)
    at None f = tt
    at (Some d) f = code_of-decode a b d lb f

pub no_instr : (a b : ℕ) (r : Option (Instr × ℕ)) → r ≡ option_map pair_of (decode_of a b) → b < 2 ^ 16 → IfNone r (IsNoInstr a b)
no_instr a b r e lb = subst (λ q. IfNone q (IsNoInstr a b)) (sym e) (at (decode_of a b) refl)
  where
    at : (x : Option Decoded) → decode_of a b ≡ x → IfNone (option_map pair_of x) (IsNoInstr a b)
    at (Some d) f = tt
    at None f = λ i r. let g = decode_of-read a b i (size_of i) lb r in cc

pub chosen_none : (a b : ℕ) → b < 2 ^ 16 → chosen choices a b ≡ None → option_map pair_of (decode_of a b) ≡ None
chosen_none a b lb e = ap (option_map pair_of) (table.decode_is a b lb ∙ ap (λ c. table.read_of c a b) e)

pub chosen_some : (a b : ℕ) (o : Opcode) → b < 2 ^ 16 → chosen choices a b ≡ Some o → option_map pair_of (decode_of a b) ≡ option_map pair_of (read_by o a b)
chosen_some a b o lb e = ap (option_map pair_of) (table.decode_is a b lb ∙ ap (λ c. table.read_of c a b) e)

pub narrow_below : (a : ℕ) (r : Option (Instr × ℕ)) → a / 2 ^ 11 % 2 ^ 5 < 29 → r ≡ option_map pair_of (decode_of a 0) → is_some r ≡ is_narrow a
unfolding is_narrow
narrow_below a r lt f = ap is_some f ∙ at (decode_of a 0) refl
  where
    at : (x : Option Decoded) → decode_of a 0 ≡ x → is_some (option_map pair_of x) ≡ is_of_two_bytes x
    at None g = refl
    at (Some d) g = let s = size_by_top a 0 d (omega arith) g in grind (arith, nat_tests)

pub narrow_above : (a : ℕ) → 29 ≤ a / 2 ^ 11 % 2 ^ 5 → false ≡ is_narrow a
unfolding is_narrow
narrow_above a le = at (decode_of a 0) refl
  where
    at : (x : Option Decoded) → decode_of a 0 ≡ x → false ≡ is_of_two_bytes x
    at None g = refl
    at (Some d) g = let s = size_by_top a 0 d (omega arith) g in grind (arith, nat_tests)
