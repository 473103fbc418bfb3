-- The tests of the table, and the two ways between instructions and halfwords.
use Rattle.std.proofs.Common.{◌≡◌, ℕ, ◌+◌, ◌-◌, ◌*◌, ◌/◌, ◌%◌, ◌^◌, ◌<◌, ◌≤◌, Bool, true, false, cond, ◌&&◌, ◌||◌, ◌⊎◌, List, [], ◌∷◌, refl, sym, ap, ◌∙◌, subst, ⊎_elim, inl, inr, arith, bit_or, Option, Some, None, eq-eqb}
use Rattle.std.specs.Prelude.{eqb, ltb, leb, slice_index, slice_index_or, option_map}
use Rattle.std.specs.Int.Bits.{or_zero_l}
use Rattle.std.proofs.lemmas.Bool.Decides.{nat_tests}
use Rattle.std.proofs.Math.Nat.{mod-one}
use Rattle.std.proofs.lemmas.Nat.{shr-shr, or_shifted, div-mul-add, mod-mul-add}
use Rattle.v8m_isa.specs.declared.instr.Instr.{Instr}
use Rattle.v8m_isa.specs.declared.instr.Instr.TheVariants.{Nop, Mov, Bx, Bxns, Blxns, Udf, Sg, Movw, Movt, Addw, Subw, Add, Sub, Rsb, Cmp, And, Bic, Orr, Eor, Mvn, Lsl, Lsr, Asr, Sxtb, Sxth, Uxtb, Uxth, Mul, Mls, Sdiv, Udiv, Ldr, Ldrb, Ldrh, Ldrsb, Ldrsh, Str, Strb, Strh, Stmdb, Ldmia, B, Bl, Bc, Msr, Mrs, Tt, Ttt, Tta, Ttat}
use Rattle.v8m_isa.specs.declared.instr.Code.{Code}
use Rattle.v8m_isa.specs.declared.form.Field.{Field}
use Rattle.v8m_isa.specs.declared.table.Opcode.{Opcode}
use Rattle.v8m_isa.specs.declared.table.Opcode.TheVariants as op
use Rattle.v8m_isa.specs.declared.operand.TheConstants.{BLANK, CONDITION}
use Rattle.v8m_isa.specs.Form.{Row, got_all, number_of, takes, field_takes, field_of, fields_got, all_taken, is_kept, row_takes, all_in_word, word_of, row_size, row_code, word_in, fits}
use Rattle.v8m_isa.specs.Rows.{opcodes, row_of, opcode_of, numbers_of, instr_of}
use Rattle.v8m_isa.specs.Decoding.{Decoded, read_by, or_else, first_of, decode_of}
use Rattle.v8m_isa.specs.Choice.{Choice, none, only, first_is, second_is, chosen, choices}
use Rattle.v8m_isa.proofs.PieceLaws.{and_parts, or_parts, slot, slot_or, above, got_all-show}
use Rattle.v8m_isa.proofs.RowLaws.{is_clear_of, are_sound, slot-word_of, fields_got-word_of, word_of_lt}

-- an instruction's range, size and halfwords by its row
unfoldable pub taken_of : Instr → Bool
taken_of i = row_takes (row_of (opcode_of i)) (numbers_of i)

unfoldable pub row_size_of : Instr → ℕ
row_size_of i = row_size (row_of (opcode_of i))

unfoldable pub row_code_of : Instr → Code
row_code_of i = row_code (row_of (opcode_of i)) (numbers_of i)

pub record IsRowOf (first second : ℕ) (i : Instr) (size : ℕ) : Type 0 where
  pub in_range : taken_of i ≡ true
  pub has_size : (row_code_of i).size ≡ size
  pub has_first : (row_code_of i).first ≡ first
  pub has_second : size ≡ 4 → (row_code_of i).second ≡ second

-- rows by their places in the manual's order
abbrev pub number : Opcode → ℕ
number op.Nop = 0
number op.Mov = 1
number op.Bx = 2
number op.Bxns = 3
number op.Blxns = 4
number op.Udf = 5
number op.Sg = 6
number op.Movw = 7
number op.Movt = 8
number op.Addw = 9
number op.Subw = 10
number op.Add = 11
number op.Sub = 12
number op.Rsb = 13
number op.Cmp = 14
number op.And = 15
number op.Bic = 16
number op.Orr = 17
number op.Eor = 18
number op.Mvn = 19
number op.Lsl = 20
number op.Lsr = 21
number op.Asr = 22
number op.Sxtb = 23
number op.Sxth = 24
number op.Uxtb = 25
number op.Uxth = 26
number op.Mul = 27
number op.Mls = 28
number op.Sdiv = 29
number op.Udiv = 30
number op.Ldr = 31
number op.Ldrb = 32
number op.Ldrh = 33
number op.Ldrsb = 34
number op.Ldrsh = 35
number op.Str = 36
number op.Strb = 37
number op.Strh = 38
number op.Stmdb = 39
number op.Ldmia = 40
number op.B = 41
number op.Bl = 42
number op.Bc = 43
number op.Msr = 44
number op.Mrs = 45
number op.Tt = 46
number op.Ttt = 47
number op.Tta = 48
number op.Ttat = 49

opcode_at-number : (o : Opcode) → slice_index_or opcodes (number o) op.Mov ≡ o
opcode_at-number op.Mov = refl
opcode_at-number _ = refl

number_same : (o q : Opcode) → number o ≡ number q → o ≡ q
number_same o q e = sym (opcode_at-number o) ∙ ap (λ n. slice_index_or opcodes n op.Mov) e ∙ opcode_at-number q

abbrev has : ℕ → List Opcode → Bool
has n [] = false
has n (o ∷ os) = eqb (number o) n || has n os

all_there : (o : Opcode) → has (number o) opcodes ≡ true
all_there op.Mov = refl
all_there _ = refl

-- the tests of a choice on the fixed bits of a row come to the row
abbrev by_test : Bool → Bool → Bool → Bool → Bool
by_test fixed same this other = cond fixed (cond same this other) (this && other)

-- the condition of B is none of 14 and 15
abbrev is_never : ℕ → ℕ → ℕ → ℕ → Bool
is_never n at wide x = eqb n (number op.Bc) && (eqb at 7 && (eqb wide 3 && eqb x 7))

abbrev reaches : Row → ℕ → Choice → Bool
reaches r n none = false
reaches r n (only o) = eqb (number o) n
reaches r n (first_is at wide x this other) = cond (is_never n at wide x) (reaches r n other) (by_test (is_clear_of (16 + at) wide r.fields) (eqb (slot (16 + at) wide r.base) x) (reaches r n this) (reaches r n other))
reaches r n (second_is at wide x this other) = by_test (r.wide && (leb (at + wide) 16 && is_clear_of at wide r.fields)) (eqb (slot at wide r.base) x) (reaches r n this) (reaches r n other)

-- a row of one halfword has no bit below bit 16, and one of two halfwords begins with 11101, 11110 or 11111
abbrev is_placed : Row → Bool
is_placed r = (r.wide || (is_clear_of 0 16 r.fields && eqb (slot 0 16 r.base) 0)) && (is_clear_of 27 5 r.fields && cond r.wide (leb 29 (slot 27 5 r.base)) (ltb (slot 27 5 r.base) 29))

abbrev is_good : Row → ℕ → Bool
is_good r n = are_sound r.base r.fields && (ltb r.base 4294967296 && (all_in_word r.fields && (is_placed r && reaches r n choices)))

-- the test of the whole table
table_is_good : (o : Opcode) → is_good (row_of o) (number o) ≡ true
unfolding row_of field_of choices
table_is_good op.Mov = refl
table_is_good _ = refl

pub record IsGood (r : Row) (n : ℕ) : Type 0 where
  pub sound : are_sound r.base r.fields ≡ true
  base : r.base < 2 ^ 32
  in_word : all_in_word r.fields ≡ true
  low : (r.wide || (is_clear_of 0 16 r.fields && eqb (slot 0 16 r.base) 0)) ≡ true
  top : is_clear_of 27 5 r.fields ≡ true
  top_of : cond r.wide (leb 29 (slot 27 5 r.base)) (ltb (slot 27 5 r.base) 29) ≡ true
  reach : reaches r n choices ≡ true

good_parts : (r : Row) (n : ℕ) → is_good r n ≡ true → IsGood r n
good_parts r n h =
    let a = and_parts (are_sound r.base r.fields) _ h in
    let b = and_parts (ltb r.base 4294967296) _ a.1 in
    let c = and_parts (all_in_word r.fields) _ b.1 in
    let d = and_parts (is_placed r) (reaches r n choices) c.1 in
    let e = and_parts (r.wide || (is_clear_of 0 16 r.fields && eqb (slot 0 16 r.base) 0)) _ d.0 in
    let f = and_parts (is_clear_of 27 5 r.fields) _ e.1 in
    record { sound = a.0; base = (let t = b.0 in grind (arith, nat_tests)); in_word = c.0; low = e.0; top = f.0; top_of = f.1; reach = d.1 }

pub good_row : (o : Opcode) → IsGood (row_of o) (number o)
good_row o = good_parts (row_of o) (number o) (table_is_good o)

-- the word that is held against a row, by its halfwords
low_lt : (t : Bool) (b : ℕ) → b < 2 ^ 16 → cond t b 0 < 2 ^ 16
low_lt true b h = h
low_lt false b h = omega arith

first_slot : (r : Row) (a b at wide : ℕ) → b < 2 ^ 16 → slot (16 + at) wide (word_in r a b) ≡ slot at wide a
first_slot r a b at wide lb =
    ap (λ x. x % 2 ^ wide)
    (sym (shr-shr (word_in r a b) 16 at) ∙ ap (λ x. x / 2 ^ at) (div-mul-add a (2 ^ 16) (cond r.wide b 0) (low_lt r.wide b lb)))

second_slot : (a b at wide : ℕ) → b < 2 ^ 16 → at + wide ≤ 16 → slot at wide (a * 2 ^ 16 + b) ≡ slot at wide b
second_slot a b at wide lb le =
    let k : 16 ≡ at + wide + (16 - (at + wide)) = omega arith in
    let none_of : slot at wide (a * 2 ^ 16) ≡ 0 = ap (λ n. slot at wide (a * 2 ^ n)) k ∙ above at wide (16 - (at + wide)) a in
    ap (slot at wide) (sym (or_shifted a 16 b lb)) ∙ slot_or at wide (a * 2 ^ 16) b ∙ ap (λ x. bit_or x (slot at wide b)) none_of ∙ or_zero_l (slot at wide b)

wide_second : (t : Bool) (b : ℕ) → t ≡ true → cond t b 0 ≡ b
wide_second t b e = ap (λ u. cond u b 0) e

each_taken : (r : Row) (vs : List ℕ) → row_takes r vs ≡ true → all_taken r.fields vs ≡ true
each_taken r vs t = (and_parts (all_taken r.fields vs) (is_kept r.rule vs) t).0

-- a word that fits a row has the row's fixed bits
pub record Fits (r : Row) (w : ℕ) : Type 0 where
  pub taken : row_takes r (fields_got r.fields w) ≡ true
  pub is_word : word_of r (fields_got r.fields w) ≡ w

fits_parts : (r : Row) (w : ℕ) → fits r w ≡ true → Fits r w
fits_parts r w h =
    let parts = and_parts (row_takes r (fields_got r.fields w)) (eqb (word_of r (fields_got r.fields w)) w) h in
    record { taken = parts.0; is_word = (let t = parts.1 in grind (arith, nat_tests)) }

fixed_slot : (r : Row) (w at wide : ℕ) → Fits r w → is_clear_of at wide r.fields ≡ true → slot at wide w ≡ slot at wide r.base
fixed_slot r w at wide f h = ap (slot at wide) (sym f.is_word) ∙ slot-word_of at wide r (fields_got r.fields w) h

-- the choice comes to the row that the halfwords fit
by_test_means : (fixed same this other : Bool) → by_test fixed same this other ≡ true → ((fixed ≡ true) × (same ≡ true) × (this ≡ true)) ⊎ (((fixed ≡ true) × (same ≡ false) × (other ≡ true)) ⊎ ((this ≡ true) × (other ≡ true)))
by_test_means true true this other h = inl (refl, refl, h)
by_test_means true false this other h = inr (inl (refl, refl, h))
by_test_means false same this other h = inr (inr (and_parts this other h))

cond_both : {A : Type 0} (t : Bool) (x y z : A) → x ≡ z → y ≡ z → cond t x y ≡ z
cond_both true x y z e f = e
cond_both false x y z e f = f

three_parts : (a b c : Bool) → (a && (b && c)) ≡ true → (a ≡ true) × (b ≡ true) × (c ≡ true)
three_parts a b c h = let p = and_parts a (b && c) h in let q = and_parts b c p.1 in (p.0, q.0, q.1)

cond_parts : (t other rest : Bool) → cond t other rest ≡ true → ((t ≡ true) × (other ≡ true)) ⊎ (rest ≡ true)
cond_parts true other rest h = inl (refl, h)
cond_parts false other rest h = inr h

-- the condition of a branch, as its word shows it
condition_got : (w : ℕ) → got_all CONDITION.pieces w ≡ slot 22 4 w
condition_got w =
    let here : slot 22 4 w ≡ slot 22 4 w / 2 ^ 0 % 2 ^ 4 = omega arith in
    let none_there : slot 0 0 w ≡ slot 22 4 w / 2 ^ 0 % 2 ^ 0 = mod-one _ ∙ sym (mod-one _) in
    got_all-show CONDITION.pieces w (slot 22 4 w) refl (here, (none_there, (none_there, (none_there, (none_there, tt)))))
    ∙ mod_again w
  where
    mod_again : (w : ℕ) → slot 22 4 w % 2 ^ 4 ≡ slot 22 4 w
    mod_again w = omega arith

condition_lt : (w : ℕ) → Fits (row_of op.Bc) w → slot 22 4 w < 14
unfolding row_of field_of all_taken takes number_of
condition_lt w f =
    let taken = each_taken (row_of op.Bc) (fields_got (row_of op.Bc).fields w) f.taken in
    let lt : ltb (got_all CONDITION.pieces w) 14 ≡ true = (and_parts _ _ taken).0 in
    let e = condition_got w in
    grind (arith, nat_tests)

never_seven : (a : ℕ) → slot 6 4 a < 14 → eqb (slot 7 3 a) 7 ≡ false
never_seven a h = grind (arith, nat_tests)

never : (r : Row) (o : Opcode) (at wide x a b : ℕ) → r ≡ row_of o → b < 2 ^ 16 → Fits r (word_in r a b) → is_never (number o) at wide x ≡ true → eqb (slot at wide a) x ≡ false
never r o at wide x a b is lb f h =
    let p = and_parts (eqb (number o) (number op.Bc)) _ h in
    let q = three_parts (eqb at 7) (eqb wide 3) (eqb x 7) p.1 in
    let branch : o ≡ op.Bc = number_same o op.Bc (let t = p.0 in grind (arith, nat_tests)) in
    let row_is : r ≡ row_of op.Bc = is ∙ ap row_of branch in
    let low : slot 22 4 (word_in r a b) < 14 = condition_lt (word_in r a b) (subst (λ s. Fits s (word_in r a b)) row_is f) in
    let high : slot 22 4 (word_in r a b) ≡ slot 6 4 a = first_slot r a b 6 4 lb in
    let seven : eqb (slot 7 3 a) 7 ≡ false = never_seven a (subst (λ y. y < 14) high low) in
    let at_is : at ≡ 7 = (let t = q.0 in grind (arith, nat_tests)) in
    let wide_is : wide ≡ 3 = (let t = q.1 in grind (arith, nat_tests)) in
    let x_is : x ≡ 7 = (let t = q.2 in grind (arith, nat_tests)) in
    ap (λ y. eqb (slot y wide a) x) at_is ∙ ap (λ y. eqb (slot 7 y a) x) wide_is ∙ ap (λ y. eqb (slot 7 3 a) y) x_is ∙ seven

reach : (t : Choice) (r : Row) (o : Opcode) (a b : ℕ) → r ≡ row_of o → b < 2 ^ 16 → Fits r (word_in r a b) → reaches r (number o) t ≡ true → chosen t a b ≡ Some o
reach none r o a b is lb f h = cc
reach (only q) r o a b is lb f h = ap Some (number_same q o (grind (arith, nat_tests)))
reach (first_is at wide x this other) r o a b is lb f h =
    ⊎_elim
    (λ n. ap (λ t. cond t (chosen this a b) (chosen other a b)) (never r o at wide x a b is lb f n.0) ∙ reach other r o a b is lb f n.1)
    (λ g. ⊎_elim
    (λ s. let e : slot at wide a ≡ slot (16 + at) wide r.base = sym (first_slot r a b at wide lb) ∙ fixed_slot r (word_in r a b) (16 + at) wide f s.0 in
    ap (λ v. cond (eqb v x) (chosen this a b) (chosen other a b)) e ∙ ap (λ t. cond t (chosen this a b) (chosen other a b)) s.1 ∙ reach this r o a b is lb f s.2)
    (λ m. ⊎_elim
    (λ s. let e : slot at wide a ≡ slot (16 + at) wide r.base = sym (first_slot r a b at wide lb) ∙ fixed_slot r (word_in r a b) (16 + at) wide f s.0 in
    ap (λ v. cond (eqb v x) (chosen this a b) (chosen other a b)) e ∙ ap (λ t. cond t (chosen this a b) (chosen other a b)) s.1 ∙ reach other r o a b is lb f s.2)
    (λ s. cond_both (eqb (slot at wide a) x) (chosen this a b) (chosen other a b) (Some o) (reach this r o a b is lb f s.0) (reach other r o a b is lb f s.1))
    m)
    (by_test_means (is_clear_of (16 + at) wide r.fields) (eqb (slot (16 + at) wide r.base) x) (reaches r (number o) this) (reaches r (number o) other) g))
    (cond_parts (is_never (number o) at wide x) (reaches r (number o) other) (by_test (is_clear_of (16 + at) wide r.fields) (eqb (slot (16 + at) wide r.base) x) (reaches r (number o) this) (reaches r (number o) other)) h)
reach (second_is at wide x this other) r o a b is lb f h =
    let same : (r.wide && (leb (at + wide) 16 && is_clear_of at wide r.fields)) ≡ true → slot at wide b ≡ slot at wide r.base = λ g.
    let p = three_parts r.wide (leb (at + wide) 16) (is_clear_of at wide r.fields) g in
    let le : at + wide ≤ 16 = (let q = p.1 in grind (arith, nat_tests)) in
    sym (second_slot a b at wide lb le) ∙ ap (λ l. slot at wide (a * 2 ^ 16 + l)) (sym (wide_second r.wide b p.0)) ∙ fixed_slot r (word_in r a b) at wide f p.2
    in
    ⊎_elim
    (λ s. ap (λ v. cond (eqb v x) (chosen this a b) (chosen other a b)) (same s.0) ∙ ap (λ t. cond t (chosen this a b) (chosen other a b)) s.1 ∙ reach this r o a b is lb f s.2)
    (λ m. ⊎_elim
    (λ s. ap (λ v. cond (eqb v x) (chosen this a b) (chosen other a b)) (same s.0) ∙ ap (λ t. cond t (chosen this a b) (chosen other a b)) s.1 ∙ reach other r o a b is lb f s.2)
    (λ s. cond_both (eqb (slot at wide b) x) (chosen this a b) (chosen other a b) (Some o) (reach this r o a b is lb f s.0) (reach other r o a b is lb f s.1))
    m)
    (by_test_means (r.wide && (leb (at + wide) 16 && is_clear_of at wide r.fields)) (eqb (slot at wide r.base) x) (reaches r (number o) this) (reaches r (number o) other) h)

-- what a row reads
none_some : {A : Type 0} (d : A) → None ≡ Some d → ⊥
none_some d e = cc

some_same : {A : Type 0} (c d : A) → Some c ≡ Some d → c ≡ d
some_same c d e = cc

abbrev made : Opcode → List ℕ → Decoded
made o v = record { instr = instr_of o v; size = row_size (row_of o) }

mapped : (t : Bool) (o : Opcode) (v : List ℕ) (d : Decoded) → option_map (made o) (cond t (Some v) None) ≡ Some d → (t ≡ true) × (made o v ≡ d)
mapped true o v d e = (refl, some_same (made o v) d e)
mapped false o v d e = absurd (none_some d e)

abbrev word_by : Opcode → ℕ → ℕ → ℕ
word_by o a b = word_in (row_of o) a b

abbrev numbers_by : Opcode → ℕ → ℕ → List ℕ
numbers_by o a b = fields_got (row_of o).fields (word_by o a b)

read_some : (o : Opcode) (a b : ℕ) (d : Decoded) → read_by o a b ≡ Some d → (fits (row_of o) (word_by o a b) ≡ true) × (made o (numbers_by o a b) ≡ d)
unfolding read_by
read_some o a b d e = mapped (fits (row_of o) (word_by o a b)) o (numbers_by o a b) d e

read_fits : (o : Opcode) (a b : ℕ) → fits (row_of o) (word_by o a b) ≡ true → read_by o a b ≡ Some (made o (numbers_by o a b))
unfolding read_by
read_fits o a b h = ap (λ t. option_map (made o) (cond t (Some (numbers_by o a b)) None)) h

-- only the chosen row can read the halfwords
pub read_chosen : (o : Opcode) (a b : ℕ) (d : Decoded) → b < 2 ^ 16 → read_by o a b ≡ Some d → chosen choices a b ≡ Some o
read_chosen o a b d lb e = reach choices (row_of o) o a b refl lb (fits_parts (row_of o) (word_by o a b) (read_some o a b d e).0) (good_row o).reach

else_step : (x rest : Option Decoded) (d : Decoded) → (x ≡ None → rest ≡ Some d) → ((e : Decoded) → x ≡ Some e → x ≡ Some d) → or_else x rest ≡ Some d
else_step None rest d n s = n refl
else_step (Some e) rest d n s = s e refl

else_some : (x rest : Option Decoded) (d : Decoded) → or_else x rest ≡ Some d → (x ≡ Some d) ⊎ (rest ≡ Some d)
else_some None rest d e = inr e
else_some (Some c) rest d e = inl e

else_none : (x rest : Option Decoded) → x ≡ None → rest ≡ None → or_else x rest ≡ None
else_none None rest e f = f
else_none (Some c) rest e f = cc

first_found : (os : List Opcode) (k : Opcode) (a b : ℕ) (d : Decoded) → ((o : Opcode) (e : Decoded) → read_by o a b ≡ Some e → o ≡ k) → read_by k a b ≡ Some d → has (number k) os ≡ true → first_of os a b ≡ Some d
unfolding first_of
first_found [] k a b d u r h = cc
first_found (o ∷ os) k a b d u r h =
    else_step (read_by o a b) (first_of os a b) d
    (λ e. ⊎_elim
    (λ n. let same : o ≡ k = number_same o k (grind (arith, nat_tests)) in absurd (none_some d (sym e ∙ ap (λ q. read_by q a b) same ∙ r)))
    (λ more. first_found os k a b d u r more)
    (or_parts (eqb (number o) (number k)) (has (number k) os) h))
    (λ x e. ap (λ q. read_by q a b) (u o x e) ∙ r)

first_none : (os : List Opcode) (a b : ℕ) → ((o : Opcode) → read_by o a b ≡ None) → first_of os a b ≡ None
unfolding first_of
first_none [] a b h = refl
first_none (o ∷ os) a b h = else_none (read_by o a b) (first_of os a b) (h o) (first_none os a b h)

first_some : (os : List Opcode) (a b : ℕ) (d : Decoded) → first_of os a b ≡ Some d → (o : Opcode) × (read_by o a b ≡ Some d)
unfolding first_of
first_some [] a b d e = absurd (none_some d e)
first_some (o ∷ os) a b d e = ⊎_elim (λ f. (o, f)) (λ f. first_some os a b d f) (else_some (read_by o a b) (first_of os a b) d e)

-- the halfwords are what the chosen row reads
abbrev pub read_of : Option Opcode → ℕ → ℕ → Option Decoded
read_of None a b = None
read_of (Some o) a b = read_by o a b

none_or_some : {A : Type 0} (x : Option A) → (x ≡ None) ⊎ ((d : A) × (x ≡ Some d))
none_or_some None = inl refl
none_or_some (Some d) = inr (d, refl)

read_not : (o : Opcode) (a b : ℕ) → ((d : Decoded) → read_by o a b ≡ Some d → ⊥) → read_by o a b ≡ None
read_not o a b h = ⊎_elim (λ e. e) (λ s. absurd (h s.0 s.1)) (none_or_some (read_by o a b))

at_chosen : (c : Option Opcode) (a b : ℕ) → b < 2 ^ 16 → chosen choices a b ≡ c → decode_of a b ≡ read_of c a b
unfolding decode_of
at_chosen None a b lb h = first_none opcodes a b (λ o. read_not o a b (λ d e. none_some o (sym h ∙ read_chosen o a b d lb e)))
at_chosen (Some k) a b lb h =
    let same : (o : Opcode) (e : Decoded) → read_by o a b ≡ Some e → o ≡ k = λ o e q. some_same o k (sym (read_chosen o a b e lb q) ∙ h) in
    ⊎_elim
    (λ n. first_none opcodes a b (λ o. read_not o a b (λ d e. none_some d (sym n ∙ ap (λ q. read_by q a b) (sym (same o d e)) ∙ e))) ∙ sym n)
    (λ s. first_found opcodes k a b s.0 same s.1 (all_there k) ∙ sym s.1)
    (none_or_some (read_by k a b))

pub decode_is : (a b : ℕ) → b < 2 ^ 16 → decode_of a b ≡ read_of (chosen choices a b) a b
decode_is a b lb = at_chosen (chosen choices a b) a b lb refl

-- a row's word, by its halfwords, fits the row
own_fits : (r : Row) (vs : List ℕ) → are_sound r.base r.fields ≡ true → row_takes r vs ≡ true → fits r (word_of r vs) ≡ true
own_fits r vs s t =
    ap (λ us. row_takes r us && eqb (word_of r us) (word_of r vs)) (fields_got-word_of r vs s (each_taken r vs t))
    ∙ ap (λ x. x && eqb (word_of r vs) (word_of r vs)) t
    ∙ eq-eqb (word_of r vs) (word_of r vs) refl

low_zero : (r : Row) (n : ℕ) (vs : List ℕ) → IsGood r n → r.wide ≡ false → word_of r vs % 2 ^ 16 ≡ 0
low_zero r n vs g e =
    let low : (is_clear_of 0 16 r.fields && eqb (slot 0 16 r.base) 0) ≡ true = sym (ap (λ t. t || (is_clear_of 0 16 r.fields && eqb (slot 0 16 r.base) 0)) e) ∙ g.low in
    let parts = and_parts (is_clear_of 0 16 r.fields) (eqb (slot 0 16 r.base) 0) low in
    let zero_base : slot 0 16 r.base ≡ 0 = (let t = parts.1 in grind (arith, nat_tests)) in
    let here = slot-word_of 0 16 r vs parts.0 in
    omega arith

own_word : (r : Row) (n : ℕ) (vs : List ℕ) (b : ℕ) → IsGood r n → (row_size r ≡ 2) ⊎ (b ≡ word_of r vs % 2 ^ 16) → word_in r (word_of r vs / 2 ^ 16) b ≡ word_of r vs
own_word r n vs b g h = at r.wide refl
  where
    at : (t : Bool) → r.wide ≡ t → word_in r (word_of r vs / 2 ^ 16) b ≡ word_of r vs
    at true e =
        ap (λ t. word_of r vs / 2 ^ 16 * 2 ^ 16 + cond t b 0) e
        ∙ ⊎_elim (λ two. let four : row_size r ≡ 4 = ap (λ t. cond t 4 2) e in absurd (omega arith)) (λ is. omega arith) h
    at false e = ap (λ t. word_of r vs / 2 ^ 16 * 2 ^ 16 + cond t b 0) e ∙ (let z = low_zero r n vs g e in omega arith)

instr_back : (i : Instr) → instr_of (opcode_of i) (numbers_of i) ≡ i
unfolding instr_of opcode_of numbers_of
instr_back Nop = refl
instr_back (Mov d m) = refl
instr_back (Bx m) = refl
instr_back (Bxns m) = refl
instr_back (Blxns m) = refl
instr_back (Udf i) = refl
instr_back Sg = refl
instr_back (Movw d i) = refl
instr_back (Movt d i) = refl
instr_back (Addw d n i) = refl
instr_back (Subw d n i) = refl
instr_back (Add d n m) = refl
instr_back (Sub d n m) = refl
instr_back (Rsb d n m) = refl
instr_back (Cmp n m) = refl
instr_back (And d n m) = refl
instr_back (Bic d n m) = refl
instr_back (Orr d n m) = refl
instr_back (Eor d n m) = refl
instr_back (Mvn d m) = refl
instr_back (Lsl d n m) = refl
instr_back (Lsr d n m) = refl
instr_back (Asr d n m) = refl
instr_back (Sxtb d m) = refl
instr_back (Sxth d m) = refl
instr_back (Uxtb d m) = refl
instr_back (Uxth d m) = refl
instr_back (Mul d n m) = refl
instr_back (Mls d n m a) = refl
instr_back (Sdiv d n m) = refl
instr_back (Udiv d n m) = refl
instr_back (Ldr t n i) = refl
instr_back (Ldrb t n i) = refl
instr_back (Ldrh t n i) = refl
instr_back (Ldrsb t n i) = refl
instr_back (Ldrsh t n i) = refl
instr_back (Str t n i) = refl
instr_back (Strb t n i) = refl
instr_back (Strh t n i) = refl
instr_back (Stmdb list) = refl
instr_back (Ldmia list) = refl
instr_back (B off) = refl
instr_back (Bl off) = refl
instr_back (Bc c off) = refl
instr_back (Msr s n) = refl
instr_back (Mrs d s) = refl
instr_back (Tt d n) = refl
instr_back (Ttt d n) = refl
instr_back (Tta d n) = refl
instr_back (Ttat d n) = refl

abbrev decoded : Instr → Decoded
decoded i = record { instr = i; size = row_size_of i }

read_own : (i : Instr) (b : ℕ) → taken_of i ≡ true → (row_size_of i ≡ 2) ⊎ (b ≡ (row_code_of i).second) → read_by (opcode_of i) (row_code_of i).first b ≡ Some (decoded i)
unfolding taken_of row_size_of row_code_of
read_own i b h s =
    let o = opcode_of i in
    let r = row_of (opcode_of i) in
    let g = good_row (opcode_of i) in
    let w : word_in (row_of (opcode_of i)) (word_of (row_of (opcode_of i)) (numbers_of i) / 2 ^ 16) b ≡ word_of (row_of (opcode_of i)) (numbers_of i) = own_word r (number o) (numbers_of i) b g s in
    let f : fits (row_of (opcode_of i)) (word_in (row_of (opcode_of i)) (word_of (row_of (opcode_of i)) (numbers_of i) / 2 ^ 16) b) ≡ true = ap (fits r) w ∙ own_fits r (numbers_of i) g.sound h in
    read_fits o (word_of r (numbers_of i) / 2 ^ 16) b f
    ∙ ap (λ x. Some (made o (fields_got r.fields x))) w
    ∙ ap (λ v. Some (made o v)) (fields_got-word_of r (numbers_of i) g.sound (each_taken r (numbers_of i) h))
    ∙ ap (λ j. Some (record { instr = j; size = row_size r })) (instr_back i)

-- an instruction's halfwords are read as the instruction, with any second one where it has one halfword
pub decode-code_of : (i : Instr) (b : ℕ) → taken_of i ≡ true → b < 2 ^ 16 → (row_size_of i ≡ 2) ⊎ (b ≡ (row_code_of i).second) → decode_of (row_code_of i).first b ≡ Some (record { instr = i; size = row_size_of i })
unfolding decode_of
decode-code_of i b h lb s =
    let own = read_own i b h s in
    first_found opcodes (opcode_of i) (row_code_of i).first b (decoded i)
    (λ o e q. some_same o (opcode_of i) (sym (read_chosen o (row_code_of i).first b e lb q) ∙ read_chosen (opcode_of i) (row_code_of i).first b (decoded i) lb own))
    own (all_there (opcode_of i))

-- the numbers that a row takes are those of its instruction
record Four (a b c d : Field) (vs : List ℕ) : Type 0 where
  is : slice_index vs 0 ∷ slice_index vs 1 ∷ slice_index vs 2 ∷ slice_index vs 3 ∷ [] ≡ vs
  first : field_takes a (slice_index vs 0) ≡ true
  second : field_takes b (slice_index vs 1) ≡ true
  third : field_takes c (slice_index vs 2) ≡ true
  fourth : field_takes d (slice_index vs 3) ≡ true

no_more : (t : Bool) → (t && false) ≡ true → ⊥
no_more true h = cc
no_more false h = cc

four : (a b c d : Field) (vs : List ℕ) → all_taken (a ∷ b ∷ c ∷ d ∷ []) vs ≡ true → Four a b c d vs
unfolding all_taken
four a b c d [] h = cc
four a b c d (v ∷ []) h = absurd (no_more (field_takes a v) h)
four a b c d (v ∷ w ∷ []) h = absurd (no_more (field_takes b w) (and_parts (field_takes a v) _ h).1)
four a b c d (v ∷ w ∷ x ∷ []) h = absurd (no_more (field_takes c x) (and_parts (field_takes b w) _ (and_parts (field_takes a v) _ h).1).1)
four a b c d (v ∷ w ∷ x ∷ y ∷ []) h =
    let p = and_parts (field_takes a v) _ h in
    let q = and_parts (field_takes b w) _ p.1 in
    let r = and_parts (field_takes c x) _ q.1 in
    let s = and_parts (field_takes d y) true r.1 in
    record { is = refl; first = p.0; second = q.0; third = r.0; fourth = s.0 }
four a b c d (v ∷ w ∷ x ∷ y ∷ z ∷ vs) h =
    absurd (no_more (field_takes d y) (and_parts (field_takes c x) _ (and_parts (field_takes b w) _ (and_parts (field_takes a v) _ h).1).1).1)

blank : (v : ℕ) → field_takes BLANK v ≡ true → v ≡ 0
unfolding takes
blank v h = grind (arith, nat_tests)

with_four : (a b c d : Field) (vs : List ℕ) → all_taken (a ∷ b ∷ c ∷ d ∷ []) vs ≡ true → slice_index vs 0 ∷ slice_index vs 1 ∷ slice_index vs 2 ∷ slice_index vs 3 ∷ [] ≡ vs
with_four a b c d vs h = (four a b c d vs h).is

with_three : (a b c : Field) (vs : List ℕ) → all_taken (a ∷ b ∷ c ∷ BLANK ∷ []) vs ≡ true → slice_index vs 0 ∷ slice_index vs 1 ∷ slice_index vs 2 ∷ 0 ∷ [] ≡ vs
with_three a b c vs h = let f = four a b c BLANK vs h in ap (λ x. slice_index vs 0 ∷ slice_index vs 1 ∷ slice_index vs 2 ∷ x ∷ []) (sym (blank (slice_index vs 3) f.fourth)) ∙ f.is

with_two : (a b : Field) (vs : List ℕ) → all_taken (a ∷ b ∷ BLANK ∷ BLANK ∷ []) vs ≡ true → slice_index vs 0 ∷ slice_index vs 1 ∷ 0 ∷ 0 ∷ [] ≡ vs
with_two a b vs h = let f = four a b BLANK BLANK vs h in ap (λ x. slice_index vs 0 ∷ slice_index vs 1 ∷ x ∷ 0 ∷ []) (sym (blank (slice_index vs 2) f.third)) ∙ with_three a b BLANK vs h

with_one : (a : Field) (vs : List ℕ) → all_taken (a ∷ BLANK ∷ BLANK ∷ BLANK ∷ []) vs ≡ true → slice_index vs 0 ∷ 0 ∷ 0 ∷ 0 ∷ [] ≡ vs
with_one a vs h = let f = four a BLANK BLANK BLANK vs h in ap (λ x. slice_index vs 0 ∷ x ∷ 0 ∷ 0 ∷ []) (sym (blank (slice_index vs 1) f.second)) ∙ with_two a BLANK vs h

with_none : (vs : List ℕ) → all_taken (BLANK ∷ BLANK ∷ BLANK ∷ BLANK ∷ []) vs ≡ true → 0 ∷ 0 ∷ 0 ∷ 0 ∷ [] ≡ vs
with_none vs h = let f = four BLANK BLANK BLANK BLANK vs h in ap (λ x. x ∷ 0 ∷ 0 ∷ 0 ∷ []) (sym (blank (slice_index vs 0) f.first)) ∙ with_one BLANK vs h

opcode_back : (o : Opcode) (vs : List ℕ) → opcode_of (instr_of o vs) ≡ o
unfolding opcode_of instr_of
opcode_back op.Mov vs = refl
opcode_back _ vs = refl

numbers_back : (o : Opcode) (vs : List ℕ) → all_taken (row_of o).fields vs ≡ true → numbers_of (instr_of o vs) ≡ vs
unfolding numbers_of instr_of row_of field_of
numbers_back op.Nop vs h = with_none vs h
numbers_back op.Mov vs h = with_two _ _ vs h
numbers_back op.Bx vs h = with_one _ vs h
numbers_back op.Bxns vs h = with_one _ vs h
numbers_back op.Blxns vs h = with_one _ vs h
numbers_back op.Udf vs h = with_one _ vs h
numbers_back op.Sg vs h = with_none vs h
numbers_back op.Movw vs h = with_two _ _ vs h
numbers_back op.Movt vs h = with_two _ _ vs h
numbers_back op.Addw vs h = with_three _ _ _ vs h
numbers_back op.Subw vs h = with_three _ _ _ vs h
numbers_back op.Add vs h = with_three _ _ _ vs h
numbers_back op.Sub vs h = with_three _ _ _ vs h
numbers_back op.Rsb vs h = with_three _ _ _ vs h
numbers_back op.Cmp vs h = with_two _ _ vs h
numbers_back op.And vs h = with_three _ _ _ vs h
numbers_back op.Bic vs h = with_three _ _ _ vs h
numbers_back op.Orr vs h = with_three _ _ _ vs h
numbers_back op.Eor vs h = with_three _ _ _ vs h
numbers_back op.Mvn vs h = with_two _ _ vs h
numbers_back op.Lsl vs h = with_three _ _ _ vs h
numbers_back op.Lsr vs h = with_three _ _ _ vs h
numbers_back op.Asr vs h = with_three _ _ _ vs h
numbers_back op.Sxtb vs h = with_two _ _ vs h
numbers_back op.Sxth vs h = with_two _ _ vs h
numbers_back op.Uxtb vs h = with_two _ _ vs h
numbers_back op.Uxth vs h = with_two _ _ vs h
numbers_back op.Mul vs h = with_three _ _ _ vs h
numbers_back op.Mls vs h = with_four _ _ _ _ vs h
numbers_back op.Sdiv vs h = with_three _ _ _ vs h
numbers_back op.Udiv vs h = with_three _ _ _ vs h
numbers_back op.Ldr vs h = with_three _ _ _ vs h
numbers_back op.Ldrb vs h = with_three _ _ _ vs h
numbers_back op.Ldrh vs h = with_three _ _ _ vs h
numbers_back op.Ldrsb vs h = with_three _ _ _ vs h
numbers_back op.Ldrsh vs h = with_three _ _ _ vs h
numbers_back op.Str vs h = with_three _ _ _ vs h
numbers_back op.Strb vs h = with_three _ _ _ vs h
numbers_back op.Strh vs h = with_three _ _ _ vs h
numbers_back op.Stmdb vs h = with_one _ vs h
numbers_back op.Ldmia vs h = with_one _ vs h
numbers_back op.B vs h = with_one _ vs h
numbers_back op.Bl vs h = with_one _ vs h
numbers_back op.Bc vs h = with_two _ _ vs h
numbers_back op.Msr vs h = with_two _ _ vs h
numbers_back op.Mrs vs h = with_two _ _ vs h
numbers_back op.Tt vs h = with_two _ _ vs h
numbers_back op.Ttt vs h = with_two _ _ vs h
numbers_back op.Tta vs h = with_two _ _ vs h
numbers_back op.Ttat vs h = with_two _ _ vs h

four_is_wide : (t : Bool) → ◌≡◌ {A = ℕ} (cond t 4 2) 4 → t ≡ true
four_is_wide true h = refl
four_is_wide false h = absurd (omega arith)

made_back : (o : Opcode) (a b : ℕ) → b < 2 ^ 16 → Fits (row_of o) (word_by o a b) → IsRowOf a b (instr_of o (numbers_by o a b)) (row_size (row_of o))
unfolding taken_of row_code_of row_size_of
made_back o a b lb f =
    let r = row_of o in
    let i = instr_of o (numbers_by o a b) in
    let numbers = numbers_back o (numbers_by o a b) (each_taken r (numbers_by o a b) f.taken) in
    let code : row_code (row_of (opcode_of (instr_of o (numbers_by o a b)))) (numbers_of (instr_of o (numbers_by o a b))) ≡ row_code (row_of o) (numbers_by o a b) =
    ap (λ q. row_code (row_of q) (numbers_of i)) (opcode_back o (numbers_by o a b)) ∙ ap (row_code r) numbers
    in
    let low = low_lt r.wide b lb in
    let high : word_by o a b / 2 ^ 16 ≡ a = div-mul-add a (2 ^ 16) (cond (row_of o).wide b 0) low in
    let rest : word_by o a b % 2 ^ 16 ≡ cond (row_of o).wide b 0 = mod-mul-add a (2 ^ 16) (cond (row_of o).wide b 0) low in
    record {
      in_range = ap (λ q. row_takes (row_of q) (numbers_of i)) (opcode_back o (numbers_by o a b)) ∙ ap (row_takes r) numbers ∙ f.taken;
      has_size = ap (λ (c : Code). c.size) code;
      has_first = ap (λ (c : Code). c.first) code ∙ ap (λ x. x / 2 ^ 16) f.is_word ∙ high;
      has_second = λ s. ap (λ (c : Code). c.second) code ∙ ap (λ x. x % 2 ^ 16) f.is_word ∙ rest ∙ wide_second r.wide b (four_is_wide r.wide s);
    }

-- what halfwords are read as has these halfwords
pub code_of-decode : (a b : ℕ) (d : Decoded) → b < 2 ^ 16 → decode_of a b ≡ Some d → IsRowOf a b d.instr d.size
unfolding decode_of
code_of-decode a b d lb e =
    let s = first_some opcodes a b d e in
    let t = read_some s.0 a b d s.1 in
    subst (λ (x : Decoded). IsRowOf a b x.instr x.size) t.1 (made_back s.0 a b lb (fits_parts (row_of s.0) (word_by s.0 a b) t.0))

-- sizes, and the halfwords' bounds
two_or_four : (t : Bool) → ◌≡◌ {A = ℕ} (cond t 4 2) 2 ⊎ ◌≡◌ {A = ℕ} (cond t 4 2) 4
two_or_four true = inr refl
two_or_four false = inl refl

pub size_of_cases : (i : Instr) → (row_size_of i ≡ 2) ⊎ (row_size_of i ≡ 4)
unfolding row_size_of
size_of_cases i = two_or_four (row_of (opcode_of i)).wide

pub code_of_size : (i : Instr) → (row_code_of i).size ≡ row_size_of i
unfolding row_code_of row_size_of
code_of_size i = refl

pub code_of_first : (i : Instr) → (row_code_of i).first < 2 ^ 16
unfolding row_code_of
code_of_first i = let g = good_row (opcode_of i) in let lt = word_of_lt (row_of (opcode_of i)) (numbers_of i) g.base g.in_word in omega arith

pub code_of_second : (i : Instr) → (row_code_of i).second < 2 ^ 16
unfolding row_code_of
code_of_second i = omega arith

two_is_narrow : (t : Bool) → ◌≡◌ {A = ℕ} (cond t 4 2) 2 → t ≡ false
two_is_narrow true h = absurd (omega arith)
two_is_narrow false h = refl

pub code_of_narrow : (i : Instr) → row_size_of i ≡ 2 → (row_code_of i).second ≡ 0
unfolding row_code_of row_size_of
code_of_narrow i h = low_zero (row_of (opcode_of i)) (number (opcode_of i)) (numbers_of i) (good_row (opcode_of i)) (two_is_narrow (row_of (opcode_of i)).wide h)

-- the top five bits of the first halfword tell the size
top_of : (t : Bool) (x : ℕ) → cond t (leb 29 x) (ltb x 29) ≡ true → (◌≡◌ {A = ℕ} (cond t 4 2) 2 × (x < 29)) ⊎ (◌≡◌ {A = ℕ} (cond t 4 2) 4 × (29 ≤ x))
top_of true x h = inr (refl, grind (arith, nat_tests))
top_of false x h = inl (refl, grind (arith, nat_tests))

pub size_by_top : (a b : ℕ) (d : Decoded) → b < 2 ^ 16 → decode_of a b ≡ Some d → ((d.size ≡ 2) × (a / 2 ^ 11 % 2 ^ 5 < 29)) ⊎ ((d.size ≡ 4) × (29 ≤ a / 2 ^ 11 % 2 ^ 5))
unfolding decode_of
size_by_top a b d lb e =
    let s = first_some opcodes a b d e in
    let t = read_some s.0 a b d s.1 in
    let r = row_of s.0 in
    let g = good_row s.0 in
    let f = fits_parts (row_of s.0) (word_by s.0 a b) t.0 in
    let top : slot 27 5 (row_of s.0).base ≡ a / 2 ^ 11 % 2 ^ 5 = sym (fixed_slot r (word_by s.0 a b) 27 5 f g.top) ∙ first_slot r a b 11 5 lb in
    subst (λ (x : Decoded). ((x.size ≡ 2) × (a / 2 ^ 11 % 2 ^ 5 < 29)) ⊎ ((x.size ≡ 4) × (29 ≤ a / 2 ^ 11 % 2 ^ 5))) t.1
    (subst (λ y. (◌≡◌ {A = ℕ} (row_size (row_of s.0)) 2 × (y < 29)) ⊎ (◌≡◌ {A = ℕ} (row_size (row_of s.0)) 4 × (29 ≤ y))) top (top_of r.wide (slot 27 5 r.base) g.top_of))
