-- The rows give the halfwords and ranges that the manual has.
use Rattle.std.proofs.Common.{◌≡◌, ℕ, ◌+◌, ◌*◌, ◌/◌, ◌%◌, ◌^◌, ◌<◌, Bool, true, false, cond, ◌&&◌, ◌⊎◌, List, [], ◌∷◌, refl, sym, ap, ◌∙◌, subst, ⊎_elim, inl, inr, arith, Some}
use Rattle.std.specs.Prelude.{ltb}
use Rattle.std.proofs.lemmas.Bool.Decides.{nat_tests}
use Rattle.std.proofs.lemmas.Nat.{div-mul-add, mod-mul-add}
use Rattle.v8m_isa.specs.declared.instr.Instr.{Instr}
use Rattle.v8m_isa.specs.declared.instr.Instr.TheVariants.{Nop, Mov, Bx, Bxns, Blxns, Udf, Sg, Movw, Movt, Addw, Subw, Add, Sub, Rsb, Cmp, And, Bic, Orr, Eor, Mvn, Lsl, Lsr, Asr, Sxtb, Sxth, Uxtb, Uxth, Mul, Mls, Sdiv, Udiv, Ldr, Ldrb, Ldrh, Ldrsb, Ldrsh, Str, Strb, Strh, Stmdb, Ldmia, B, Bl, Bc, Msr, Mrs, Tt, Ttt, Tta, Ttat}
use Rattle.v8m_isa.specs.declared.instr.Code.{Code}
use Rattle.v8m_isa.specs.declared.table.Opcode.{Opcode}
use Rattle.v8m_isa.specs.declared.table.Opcode.TheVariants as op
use Rattle.v8m_isa.specs.declared.operand.Operand.{Operand}
use Rattle.v8m_isa.specs.declared.operand.Operand.TheVariants as operand
use Rattle.v8m_isa.specs.Form.{turn, takes, bits_of, field_of, fields_of, fields_put, put_all, all_taken, is_kept, word_of, row_code}
use Rattle.v8m_isa.specs.Table.{is_register, is_register_or_sp, is_condition, is_number, is_special, is_list, is_offset, is_sp_from_sp, in_range_of, size_of, code_of, narrow, wide, part, half_of, plus_number, on_registers, of_register, at_address, not_xor, branch, branch_if, IsReadAs}
use Rattle.v8m_isa.specs.Rows.{row_of, opcode_of, numbers_of}
use Rattle.v8m_isa.specs.Decoding.{Decoded, decode_of}
use Rattle.v8m_isa.proofs.PieceLaws.{and_parts}
use Rattle.v8m_isa.proofs.KindLaws.{turned_parts}
use Rattle.v8m_isa.proofs.RowLaws.{sum_put, fields_sum, word_of-sum}
use Rattle.v8m_isa.proofs.TableLaws as table
use Rattle.v8m_isa.proofs.TableLaws.{taken_of, row_size_of, row_code_of, good_row}

-- ranges
and_true : (a : Bool) → (a && true) ≡ a
and_true true = refl
and_true false = refl

one : (a : Bool) → ((a && true) && true) ≡ a
one a = and_true (a && true) ∙ and_true a

two : (a b : Bool) → ((a && (b && true)) && true) ≡ (a && b)
two a b = and_true (a && (b && true)) ∙ ap (λ x. a && x) (and_true b)

three : (a b c : Bool) → ((a && (b && (c && true))) && true) ≡ (a && (b && c))
three a b c = and_true (a && (b && (c && true))) ∙ ap (λ x. a && (b && x)) (and_true c)

four : (a b c d : Bool) → ((a && (b && (c && (d && true)))) && true) ≡ (a && (b && (c && d)))
four a b c d = and_true (a && (b && (c && (d && true)))) ∙ ap (λ x. a && (b && (c && x))) (and_true d)

with_rule : (a b c d : Bool) → ((a && (b && (c && true))) && d) ≡ (a && (b && (c && d)))
with_rule true true true d = refl
with_rule true true false d = refl
with_rule true false c d = refl
with_rule false b c d = refl

pub taken_is : (i : Instr) → taken_of i ≡ in_range_of i
unfolding taken_of in_range_of row_of opcode_of numbers_of field_of all_taken takes is_kept
taken_is Nop = refl
taken_is (Mov d m) = two (is_register_or_sp d) (is_register_or_sp m)
taken_is (Bx m) = one (is_register m)
taken_is (Bxns m) = one (is_register m)
taken_is (Blxns m) = one (is_register m)
taken_is (Udf i) = one (is_number 8 i)
taken_is Sg = refl
taken_is (Movw d i) = two (is_register d) (is_number 16 i)
taken_is (Movt d i) = two (is_register d) (is_number 16 i)
taken_is (Addw d n i) = with_rule (is_register_or_sp d) (is_register_or_sp n) (is_number 12 i) (is_sp_from_sp d n)
taken_is (Subw d n i) = with_rule (is_register_or_sp d) (is_register_or_sp n) (is_number 12 i) (is_sp_from_sp d n)
taken_is (Add d n m) = three (is_register d) (is_register n) (is_register m)
taken_is (Sub d n m) = three (is_register d) (is_register n) (is_register m)
taken_is (Rsb d n m) = three (is_register d) (is_register n) (is_register m)
taken_is (Cmp n m) = two (is_register n) (is_register m)
taken_is (And d n m) = three (is_register d) (is_register n) (is_register m)
taken_is (Bic d n m) = three (is_register d) (is_register n) (is_register m)
taken_is (Orr d n m) = three (is_register d) (is_register n) (is_register m)
taken_is (Eor d n m) = three (is_register d) (is_register n) (is_register m)
taken_is (Mvn d m) = two (is_register d) (is_register m)
taken_is (Lsl d n m) = three (is_register d) (is_register n) (is_register m)
taken_is (Lsr d n m) = three (is_register d) (is_register n) (is_register m)
taken_is (Asr d n m) = three (is_register d) (is_register n) (is_register m)
taken_is (Sxtb d m) = two (is_register d) (is_register m)
taken_is (Sxth d m) = two (is_register d) (is_register m)
taken_is (Uxtb d m) = two (is_register d) (is_register m)
taken_is (Uxth d m) = two (is_register d) (is_register m)
taken_is (Mul d n m) = three (is_register d) (is_register n) (is_register m)
taken_is (Mls d n m a) = four (is_register d) (is_register n) (is_register m) (is_register a)
taken_is (Sdiv d n m) = three (is_register d) (is_register n) (is_register m)
taken_is (Udiv d n m) = three (is_register d) (is_register n) (is_register m)
taken_is (Ldr t n i) = three (is_register t) (is_register_or_sp n) (is_number 12 i)
taken_is (Ldrb t n i) = three (is_register t) (is_register_or_sp n) (is_number 12 i)
taken_is (Ldrh t n i) = three (is_register t) (is_register_or_sp n) (is_number 12 i)
taken_is (Ldrsb t n i) = three (is_register t) (is_register_or_sp n) (is_number 12 i)
taken_is (Ldrsh t n i) = three (is_register t) (is_register_or_sp n) (is_number 12 i)
taken_is (Str t n i) = three (is_register t) (is_register_or_sp n) (is_number 12 i)
taken_is (Strb t n i) = three (is_register t) (is_register_or_sp n) (is_number 12 i)
taken_is (Strh t n i) = three (is_register t) (is_register_or_sp n) (is_number 12 i)
taken_is (Stmdb list) = one (is_list list)
taken_is (Ldmia list) = one (is_list list)
taken_is (B off) = one (is_offset 24 off)
taken_is (Bl off) = one (is_offset 24 off)
taken_is (Bc c off) = two (is_condition c) (is_offset 20 off)
taken_is (Msr s n) = two (is_special s) (is_register n)
taken_is (Mrs d s) = two (is_register d) (is_special s)
taken_is (Tt d n) = two (is_register d) (is_register n)
taken_is (Ttt d n) = two (is_register d) (is_register n)
taken_is (Tta d n) = two (is_register d) (is_register n)
taken_is (Ttat d n) = two (is_register d) (is_register n)

pub size_is : (i : Instr) → row_size_of i ≡ size_of i
unfolding row_size_of size_of row_of opcode_of
size_is Nop = refl
size_is _ = refl

-- what a field adds to the word first:second
abbrev placed : Operand → ℕ → ℕ
placed operand.Blank v = 0
placed operand.NarrowRdOrSp v = part v 3 1 * 2 ^ 23 + part v 0 3 * 2 ^ 16
placed operand.NarrowRm v = part v 0 4 * 2 ^ 19
placed operand.NarrowRmOrSp v = part v 0 4 * 2 ^ 19
placed operand.NarrowImm8 v = part v 0 8 * 2 ^ 16
placed operand.Rd v = part v 0 4 * 2 ^ 8
placed operand.RdOrSp v = part v 0 4 * 2 ^ 8
placed operand.Rn v = part v 0 4 * 2 ^ 16
placed operand.RnOrSp v = part v 0 4 * 2 ^ 16
placed operand.Rm v = part v 0 4
placed operand.Ra v = part v 0 4 * 2 ^ 12
placed operand.Rt v = part v 0 4 * 2 ^ 12
placed operand.Imm12 v = part v 0 12
placed operand.SplitImm12 v = part v 11 1 * 2 ^ 26 + part v 8 3 * 2 ^ 12 + part v 0 8
placed operand.Imm16 v = part v 12 4 * 2 ^ 16 + part v 11 1 * 2 ^ 26 + part v 8 3 * 2 ^ 12 + part v 0 8
placed operand.List v = part v 0 16
placed operand.Far v = part v 24 1 * 2 ^ 26 + not_xor (part v 23 1) (part v 24 1) * 2 ^ 13 + not_xor (part v 22 1) (part v 24 1) * 2 ^ 11 + part v 12 10 * 2 ^ 16 + part v 1 11
placed operand.Near v = part v 20 1 * 2 ^ 26 + part v 19 1 * 2 ^ 11 + part v 18 1 * 2 ^ 13 + part v 12 6 * 2 ^ 16 + part v 1 11
placed operand.Condition v = part v 0 4 * 2 ^ 22
placed operand.Special v = part v 0 8

far_sum : (x a b c d e : ℕ) → turn x / 2 ^ 23 % 2 ≡ a → turn x / 2 ^ 22 % 2 ≡ b → turn x / 2 ^ 21 % 2 ≡ c → turn x / 2 ^ 11 % 2 ^ 10 ≡ d → turn x % 2 ^ 11 ≡ e → sum_put (field_of operand.Far).pieces (turn x) ≡ a * 2 ^ 26 + b * 2 ^ 13 + c * 2 ^ 11 + d * 2 ^ 16 + e
unfolding field_of
far_sum x a b c d e ea eb ec ed ee = omega arith

placed_is : (o : Operand) (v : ℕ) → sum_put (field_of o).pieces (bits_of (field_of o).kind v) ≡ placed o v
unfolding field_of bits_of
placed_is operand.Far v =
    let lt : v / 2 % 2 ^ 24 < 2 ^ 24 = omega arith in
    let t = turned_parts (v / 2 % 2 ^ 24) lt in
    let sign : v / 2 % 2 ^ 24 / 2 ^ 23 % 2 ≡ part v 24 1 = omega arith in
    let second : v / 2 % 2 ^ 24 / 2 ^ 22 % 2 ≡ part v 23 1 = omega arith in
    let third : v / 2 % 2 ^ 24 / 2 ^ 21 % 2 ≡ part v 22 1 = omega arith in
    let high : v / 2 % 2 ^ 24 / 2 ^ 11 % 2 ^ 10 ≡ part v 12 10 = omega arith in
    let low : v / 2 % 2 ^ 24 % 2 ^ 11 ≡ part v 1 11 = omega arith in
    far_sum (v / 2 % 2 ^ 24) (part v 24 1) (not_xor (part v 23 1) (part v 24 1)) (not_xor (part v 22 1) (part v 24 1)) (part v 12 10) (part v 1 11)
    (t.sign ∙ sign) (t.second ∙ ap (λ y. not_xor y (v / 2 % 2 ^ 24 / 2 ^ 23 % 2)) second ∙ ap (not_xor (part v 23 1)) sign) (t.third ∙ ap (λ y. not_xor y (v / 2 % 2 ^ 24 / 2 ^ 23 % 2)) third ∙ ap (not_xor (part v 22 1)) sign) (t.high ∙ high) (t.low ∙ low)
placed_is operand.Blank v = omega arith
placed_is _ v = omega arith

abbrev all_placed : List Operand → List ℕ → ℕ
all_placed [] vs = 0
all_placed (o ∷ os) [] = 0
all_placed (o ∷ os) (v ∷ vs) = placed o v + all_placed os vs

sum_placed : (os : List Operand) (vs : List ℕ) → fields_sum (fields_of os) vs ≡ all_placed os vs
sum_placed [] vs = refl
sum_placed (o ∷ os) [] = refl
sum_placed (o ∷ os) (v ∷ vs) = ap (λ x. x + fields_sum (fields_of os) vs) (placed_is o v) ∙ ap (λ x. placed o v + x) (sum_placed os vs)

-- a row with these fields and these halfwords, 0 in the fields
record Has (o : Opcode) (os : List Operand) (is_wide : Bool) (bits : ℕ) : Type 0 where
  fields : (row_of o).fields ≡ fields_of os
  size : (row_of o).wide ≡ is_wide
  base : (row_of o).base ≡ bits

abbrev made_of : ℕ → ℕ → ℕ → Code
made_of first second size = record { first = first; second = second; size = size }

abbrev row_parts : ℕ → ℕ → Code
row_parts w size = made_of (w / 2 ^ 16) (w % 2 ^ 16) size

word_is : (o : Opcode) (os : List Operand) (t : Bool) (bits : ℕ) (vs : List ℕ) → Has o os t bits → word_of (row_of o) vs ≡ bits + all_placed os vs
word_is o os t bits vs h =
    word_of-sum (row_of o) vs (good_row o).sound
    ∙ ap (λ x. x + fields_sum (row_of o).fields vs) h.base
    ∙ ap (λ fs. bits + fields_sum fs vs) h.fields
    ∙ ap (λ x. bits + x) (sum_placed os vs)

wide_is : (o : Opcode) (os : List Operand) (bits : ℕ) (vs : List ℕ) (first second : ℕ) → Has o os true bits → bits + all_placed os vs ≡ first * 2 ^ 16 + second → second < 2 ^ 16 → row_code (row_of o) vs ≡ wide first second
wide_is o os bits vs first second h e lt =
    ap (λ (w : ℕ). row_parts w (cond (row_of o).wide 4 2)) (word_is o os true bits vs h ∙ e)
    ∙ ap (λ t. row_parts (first * 2 ^ 16 + second) (cond t 4 2)) h.size
    ∙ ap (λ x. made_of x ((first * 2 ^ 16 + second) % 2 ^ 16) 4) (div-mul-add first (2 ^ 16) second lt)
    ∙ ap (λ x. made_of first x 4) (mod-mul-add first (2 ^ 16) second lt)

narrow_is : (o : Opcode) (os : List Operand) (bits : ℕ) (vs : List ℕ) (first : ℕ) → Has o os false bits → bits + all_placed os vs ≡ first * 2 ^ 16 → row_code (row_of o) vs ≡ narrow first
narrow_is o os bits vs first h e =
    let whole : bits + all_placed os vs ≡ first * 2 ^ 16 + 0 = omega arith in
    ap (λ (w : ℕ). row_parts w (cond (row_of o).wide 4 2)) (word_is o os false bits vs h ∙ whole)
    ∙ ap (λ t. row_parts (first * 2 ^ 16 + 0) (cond t 4 2)) h.size
    ∙ ap (λ x. made_of x ((first * 2 ^ 16 + 0) % 2 ^ 16) 2) (div-mul-add first (2 ^ 16) 0 (omega arith))
    ∙ ap (λ x. made_of first x 2) (mod-mul-add first (2 ^ 16) 0 (omega arith))

-- small numbers
register_lt : (r : ℕ) → is_register r ≡ true → r < 15
register_lt r h = grind (arith, nat_tests)

register_or_sp_lt : (r : ℕ) → is_register_or_sp r ≡ true → r < 15
register_or_sp_lt r h = grind (arith, nat_tests)

number_lt : (n i : ℕ) → is_number n i ≡ true → i < 2 ^ n
number_lt n i h = grind (arith, nat_tests)

list_lt : (l : ℕ) → is_list l ≡ true → l < 2 ^ 16
list_lt l h = let t : ltb l (2 ^ 15) ≡ true = (and_parts (ltb l (2 ^ 15)) _ h).0 in grind (arith, nat_tests)

special_lt : (s : ℕ) → is_special s ≡ true → s < 256
special_lt s h = grind (arith, nat_tests)

condition_lt : (c : ℕ) → is_condition c ≡ true → c < 14
condition_lt c h = grind (arith, nat_tests)

two_parts : (a b : Bool) → (a && b) ≡ true → (a ≡ true) × (b ≡ true)
two_parts a b h = and_parts a b h

three_parts : (a b c : Bool) → (a && (b && c)) ≡ true → (a ≡ true) × (b ≡ true) × (c ≡ true)
three_parts a b c h = let p = and_parts a (b && c) h in let q = and_parts b c p.1 in (p.0, q.0, q.1)

four_parts : (a b c d : Bool) → (a && (b && (c && d))) ≡ true → (a ≡ true) × (b ≡ true) × (c ≡ true) × (d ≡ true)
four_parts a b c d h = let p = and_parts a (b && (c && d)) h in let q = three_parts b c d p.1 in (p.0, q.0, q.1, q.2)

-- the rows by their shapes
mov_is : (d m : ℕ) → Has op.Mov (operand.NarrowRdOrSp ∷ operand.NarrowRmOrSp ∷ operand.Blank ∷ operand.Blank ∷ []) false (0x4600 * 2 ^ 16) → (is_register_or_sp d && is_register_or_sp m) ≡ true → row_code (row_of op.Mov) (d ∷ m ∷ 0 ∷ 0 ∷ []) ≡ narrow (0x4600 + 0x80 * (d / 8) + 8 * m + d % 8)
mov_is d m h r =
    let p = two_parts (is_register_or_sp d) (is_register_or_sp m) r in
    let ld = register_or_sp_lt d p.0 in
    let lm = register_or_sp_lt m p.1 in
    narrow_is op.Mov _ _ _ (0x4600 + 0x80 * (d / 8) + 8 * m + d % 8) h (omega arith)

bx_is : (o : Opcode) (first m : ℕ) → Has o (operand.NarrowRm ∷ operand.Blank ∷ operand.Blank ∷ operand.Blank ∷ []) false (first * 2 ^ 16) → is_register m ≡ true → row_code (row_of o) (m ∷ 0 ∷ 0 ∷ 0 ∷ []) ≡ narrow (first + 8 * m)
bx_is o first m h r =
    let lm = register_lt m r in
    narrow_is o _ _ _ (first + 8 * m) h (omega arith)

udf_is : (i : ℕ) → Has op.Udf (operand.NarrowImm8 ∷ operand.Blank ∷ operand.Blank ∷ operand.Blank ∷ []) false (0xDE00 * 2 ^ 16) → is_number 8 i ≡ true → row_code (row_of op.Udf) (i ∷ 0 ∷ 0 ∷ 0 ∷ []) ≡ narrow (0xDE00 + i)
udf_is i h r =
    let li = number_lt 8 i r in
    narrow_is op.Udf _ _ _ (0xDE00 + i) h (omega arith)

half_is : (o : Opcode) (first d i : ℕ) → Has o (operand.Rd ∷ operand.Imm16 ∷ operand.Blank ∷ operand.Blank ∷ []) true (first * 2 ^ 16) → (is_register d && is_number 16 i) ≡ true → row_code (row_of o) (d ∷ i ∷ 0 ∷ 0 ∷ []) ≡ half_of first d i
half_is o first d i h r =
    let p = two_parts (is_register d) (is_number 16 i) r in
    let ld = register_lt d p.0 in
    let e : part d 0 4 ≡ d = omega arith in
    wide_is o _ _ _ _ _ h (omega arith) (omega arith)

plus_is : (o : Opcode) (first d n i : ℕ) → Has o (operand.RdOrSp ∷ operand.RnOrSp ∷ operand.SplitImm12 ∷ operand.Blank ∷ []) true (first * 2 ^ 16) → (is_register_or_sp d && (is_register_or_sp n && (is_number 12 i && is_sp_from_sp d n))) ≡ true → row_code (row_of o) (d ∷ n ∷ i ∷ 0 ∷ []) ≡ plus_number first d n i
plus_is o first d n i h r =
    let p = four_parts (is_register_or_sp d) (is_register_or_sp n) (is_number 12 i) (is_sp_from_sp d n) r in
    let ld = register_or_sp_lt d p.0 in
    let ln = register_or_sp_lt n p.1 in
    wide_is o _ _ _ _ _ h (omega arith) (omega arith)

registers_is : (o : Opcode) (first second d n m : ℕ) → Has o (operand.Rd ∷ operand.Rn ∷ operand.Rm ∷ operand.Blank ∷ []) true (first * 2 ^ 16 + second) → second < 0xF100 → (is_register d && (is_register n && is_register m)) ≡ true → row_code (row_of o) (d ∷ n ∷ m ∷ 0 ∷ []) ≡ on_registers first second d n m
registers_is o first second d n m h lt r =
    let p = three_parts (is_register d) (is_register n) (is_register m) r in
    let ld = register_lt d p.0 in
    let ln = register_lt n p.1 in
    let lm = register_lt m p.2 in
    wide_is o _ _ _ _ _ h (omega arith) (omega arith)

cmp_is : (n m : ℕ) → Has op.Cmp (operand.Rn ∷ operand.Rm ∷ operand.Blank ∷ operand.Blank ∷ []) true (0xEBB0 * 2 ^ 16 + 0x0F00) → (is_register n && is_register m) ≡ true → row_code (row_of op.Cmp) (n ∷ m ∷ 0 ∷ 0 ∷ []) ≡ wide (0xEBB0 + n) (0x0F00 + m)
cmp_is n m h r =
    let p = two_parts (is_register n) (is_register m) r in
    let ln = register_lt n p.0 in
    let lm = register_lt m p.1 in
    wide_is op.Cmp _ _ _ _ _ h (omega arith) (omega arith)

register_is : (o : Opcode) (first second d m : ℕ) → Has o (operand.Rd ∷ operand.Rm ∷ operand.Blank ∷ operand.Blank ∷ []) true (first * 2 ^ 16 + second) → second < 0xF100 → (is_register d && is_register m) ≡ true → row_code (row_of o) (d ∷ m ∷ 0 ∷ 0 ∷ []) ≡ of_register first second d m
register_is o first second d m h lt r =
    let p = two_parts (is_register d) (is_register m) r in
    let ld = register_lt d p.0 in
    let lm = register_lt m p.1 in
    wide_is o _ _ _ _ _ h (omega arith) (omega arith)

mls_is : (d n m a : ℕ) → Has op.Mls (operand.Rd ∷ operand.Rn ∷ operand.Rm ∷ operand.Ra ∷ []) true (0xFB00 * 2 ^ 16 + 0x0010) → (is_register d && (is_register n && (is_register m && is_register a))) ≡ true → row_code (row_of op.Mls) (d ∷ n ∷ m ∷ a ∷ []) ≡ wide (0xFB00 + n) (0x0010 + 0x1000 * a + 0x100 * d + m)
mls_is d n m a h r =
    let p = four_parts (is_register d) (is_register n) (is_register m) (is_register a) r in
    let ld = register_lt d p.0 in
    let ln = register_lt n p.1 in
    let lm = register_lt m p.2 in
    let la = register_lt a p.3 in
    wide_is op.Mls _ _ _ _ _ h (omega arith) (omega arith)

address_is : (o : Opcode) (first t n i : ℕ) → Has o (operand.Rt ∷ operand.RnOrSp ∷ operand.Imm12 ∷ operand.Blank ∷ []) true (first * 2 ^ 16) → (is_register t && (is_register_or_sp n && is_number 12 i)) ≡ true → row_code (row_of o) (t ∷ n ∷ i ∷ 0 ∷ []) ≡ at_address first t n i
address_is o first t n i h r =
    let p = three_parts (is_register t) (is_register_or_sp n) (is_number 12 i) r in
    let lt = register_lt t p.0 in
    let ln = register_or_sp_lt n p.1 in
    let li = number_lt 12 i p.2 in
    wide_is o _ _ _ _ _ h (omega arith) (omega arith)

list_is : (o : Opcode) (first l : ℕ) → Has o (operand.List ∷ operand.Blank ∷ operand.Blank ∷ operand.Blank ∷ []) true (first * 2 ^ 16) → is_list l ≡ true → row_code (row_of o) (l ∷ 0 ∷ 0 ∷ 0 ∷ []) ≡ wide first l
list_is o first l h r =
    let ll = list_lt l r in
    wide_is o _ _ _ _ _ h (omega arith) (omega arith)

branch_is : (o : Opcode) (first second off : ℕ) → Has o (operand.Far ∷ operand.Blank ∷ operand.Blank ∷ operand.Blank ∷ []) true (first * 2 ^ 16 + second) → second < 0xD001 → row_code (row_of o) (off ∷ 0 ∷ 0 ∷ 0 ∷ []) ≡ branch first second off
branch_is o first second off h lt =
    let lj : not_xor (part off 23 1) (part off 24 1) < 2 = omega arith in
    let lk : not_xor (part off 22 1) (part off 24 1) < 2 = omega arith in
    let li : part off 1 11 < 2048 = omega arith in
    wide_is o _ _ _ _ _ h (omega arith) (omega arith)

branch_if_is : (c off : ℕ) → Has op.Bc (operand.Condition ∷ operand.Near ∷ operand.Blank ∷ operand.Blank ∷ []) true (0xF000 * 2 ^ 16 + 0x8000) → (is_condition c && is_offset 20 off) ≡ true → row_code (row_of op.Bc) (c ∷ off ∷ 0 ∷ 0 ∷ []) ≡ branch_if 0xF000 0x8000 c off
branch_if_is c off h r =
    let p = two_parts (is_condition c) (is_offset 20 off) r in
    let lc = condition_lt c p.0 in
    let lj : part off 18 1 < 2 = omega arith in
    let lk : part off 19 1 < 2 = omega arith in
    let li : part off 1 11 < 2048 = omega arith in
    wide_is op.Bc _ _ _ _ _ h (omega arith) (omega arith)

msr_is : (s n : ℕ) → Has op.Msr (operand.Special ∷ operand.Rn ∷ operand.Blank ∷ operand.Blank ∷ []) true (0xF380 * 2 ^ 16 + 0x8800) → (is_special s && is_register n) ≡ true → row_code (row_of op.Msr) (s ∷ n ∷ 0 ∷ 0 ∷ []) ≡ wide (0xF380 + n) (0x8800 + s)
msr_is s n h r =
    let p = two_parts (is_special s) (is_register n) r in
    let ls = special_lt s p.0 in
    let ln = register_lt n p.1 in
    wide_is op.Msr _ _ _ _ _ h (omega arith) (omega arith)

mrs_is : (d s : ℕ) → Has op.Mrs (operand.Rd ∷ operand.Special ∷ operand.Blank ∷ operand.Blank ∷ []) true (0xF3EF * 2 ^ 16 + 0x8000) → (is_register d && is_special s) ≡ true → row_code (row_of op.Mrs) (d ∷ s ∷ 0 ∷ 0 ∷ []) ≡ wide 0xF3EF (0x8000 + 0x100 * d + s)
mrs_is d s h r =
    let p = two_parts (is_register d) (is_special s) r in
    let ld = register_lt d p.0 in
    let ls = special_lt s p.1 in
    wide_is op.Mrs _ _ _ _ _ h (omega arith) (omega arith)

tt_is : (o : Opcode) (first second d n : ℕ) → Has o (operand.Rd ∷ operand.Rn ∷ operand.Blank ∷ operand.Blank ∷ []) true (first * 2 ^ 16 + second) → second < 0xF100 → (is_register d && is_register n) ≡ true → row_code (row_of o) (d ∷ n ∷ 0 ∷ 0 ∷ []) ≡ wide (first + n) (second + 0x100 * d)
tt_is o first second d n h lt r =
    let p = two_parts (is_register d) (is_register n) r in
    let ld = register_lt d p.0 in
    let ln = register_lt n p.1 in
    wide_is o _ _ _ _ _ h (omega arith) (omega arith)

pub code_is : (i : Instr) → in_range_of i ≡ true → row_code_of i ≡ code_of i
unfolding row_code_of in_range_of code_of row_of opcode_of numbers_of field_of word_of fields_put put_all bits_of
code_is Nop h = refl
code_is (Mov d m) h = mov_is d m (record { fields = refl; size = refl; base = refl }) h
code_is (Bx m) h = bx_is op.Bx 0x4700 m (record { fields = refl; size = refl; base = refl }) h
code_is (Bxns m) h = bx_is op.Bxns 0x4704 m (record { fields = refl; size = refl; base = refl }) h
code_is (Blxns m) h = bx_is op.Blxns 0x4784 m (record { fields = refl; size = refl; base = refl }) h
code_is (Udf i) h = udf_is i (record { fields = refl; size = refl; base = refl }) h
code_is Sg h = refl
code_is (Movw d i) h = half_is op.Movw 0xF240 d i (record { fields = refl; size = refl; base = refl }) h
code_is (Movt d i) h = half_is op.Movt 0xF2C0 d i (record { fields = refl; size = refl; base = refl }) h
code_is (Addw d n i) h = plus_is op.Addw 0xF200 d n i (record { fields = refl; size = refl; base = refl }) h
code_is (Subw d n i) h = plus_is op.Subw 0xF2A0 d n i (record { fields = refl; size = refl; base = refl }) h
code_is (Add d n m) h = registers_is op.Add 0xEB00 0x0000 d n m (record { fields = refl; size = refl; base = refl }) (omega arith) h
code_is (Sub d n m) h = registers_is op.Sub 0xEBA0 0x0000 d n m (record { fields = refl; size = refl; base = refl }) (omega arith) h
code_is (Rsb d n m) h = registers_is op.Rsb 0xEBC0 0x0000 d n m (record { fields = refl; size = refl; base = refl }) (omega arith) h
code_is (Cmp n m) h = cmp_is n m (record { fields = refl; size = refl; base = refl }) h
code_is (And d n m) h = registers_is op.And 0xEA00 0x0000 d n m (record { fields = refl; size = refl; base = refl }) (omega arith) h
code_is (Bic d n m) h = registers_is op.Bic 0xEA20 0x0000 d n m (record { fields = refl; size = refl; base = refl }) (omega arith) h
code_is (Orr d n m) h = registers_is op.Orr 0xEA40 0x0000 d n m (record { fields = refl; size = refl; base = refl }) (omega arith) h
code_is (Eor d n m) h = registers_is op.Eor 0xEA80 0x0000 d n m (record { fields = refl; size = refl; base = refl }) (omega arith) h
code_is (Mvn d m) h = register_is op.Mvn 0xEA6F 0x0000 d m (record { fields = refl; size = refl; base = refl }) (omega arith) h
code_is (Lsl d n m) h = registers_is op.Lsl 0xFA00 0xF000 d n m (record { fields = refl; size = refl; base = refl }) (omega arith) h
code_is (Lsr d n m) h = registers_is op.Lsr 0xFA20 0xF000 d n m (record { fields = refl; size = refl; base = refl }) (omega arith) h
code_is (Asr d n m) h = registers_is op.Asr 0xFA40 0xF000 d n m (record { fields = refl; size = refl; base = refl }) (omega arith) h
code_is (Sxtb d m) h = register_is op.Sxtb 0xFA4F 0xF080 d m (record { fields = refl; size = refl; base = refl }) (omega arith) h
code_is (Sxth d m) h = register_is op.Sxth 0xFA0F 0xF080 d m (record { fields = refl; size = refl; base = refl }) (omega arith) h
code_is (Uxtb d m) h = register_is op.Uxtb 0xFA5F 0xF080 d m (record { fields = refl; size = refl; base = refl }) (omega arith) h
code_is (Uxth d m) h = register_is op.Uxth 0xFA1F 0xF080 d m (record { fields = refl; size = refl; base = refl }) (omega arith) h
code_is (Mul d n m) h = registers_is op.Mul 0xFB00 0xF000 d n m (record { fields = refl; size = refl; base = refl }) (omega arith) h
code_is (Mls d n m a) h = mls_is d n m a (record { fields = refl; size = refl; base = refl }) h
code_is (Sdiv d n m) h = registers_is op.Sdiv 0xFB90 0xF0F0 d n m (record { fields = refl; size = refl; base = refl }) (omega arith) h
code_is (Udiv d n m) h = registers_is op.Udiv 0xFBB0 0xF0F0 d n m (record { fields = refl; size = refl; base = refl }) (omega arith) h
code_is (Ldr t n i) h = address_is op.Ldr 0xF8D0 t n i (record { fields = refl; size = refl; base = refl }) h
code_is (Ldrb t n i) h = address_is op.Ldrb 0xF890 t n i (record { fields = refl; size = refl; base = refl }) h
code_is (Ldrh t n i) h = address_is op.Ldrh 0xF8B0 t n i (record { fields = refl; size = refl; base = refl }) h
code_is (Ldrsb t n i) h = address_is op.Ldrsb 0xF990 t n i (record { fields = refl; size = refl; base = refl }) h
code_is (Ldrsh t n i) h = address_is op.Ldrsh 0xF9B0 t n i (record { fields = refl; size = refl; base = refl }) h
code_is (Str t n i) h = address_is op.Str 0xF8C0 t n i (record { fields = refl; size = refl; base = refl }) h
code_is (Strb t n i) h = address_is op.Strb 0xF880 t n i (record { fields = refl; size = refl; base = refl }) h
code_is (Strh t n i) h = address_is op.Strh 0xF8A0 t n i (record { fields = refl; size = refl; base = refl }) h
code_is (Stmdb list) h = list_is op.Stmdb 0xE92D list (record { fields = refl; size = refl; base = refl }) h
code_is (Ldmia list) h = list_is op.Ldmia 0xE8BD list (record { fields = refl; size = refl; base = refl }) h
code_is (B off) h = branch_is op.B 0xF000 0x9000 off (record { fields = refl; size = refl; base = refl }) (omega arith)
code_is (Bl off) h = branch_is op.Bl 0xF000 0xD000 off (record { fields = refl; size = refl; base = refl }) (omega arith)
code_is (Bc c off) h = branch_if_is c off (record { fields = refl; size = refl; base = refl }) h
code_is (Msr s n) h = msr_is s n (record { fields = refl; size = refl; base = refl }) h
code_is (Mrs d s) h = mrs_is d s (record { fields = refl; size = refl; base = refl }) h
code_is (Tt d n) h = tt_is op.Tt 0xE840 0xF000 d n (record { fields = refl; size = refl; base = refl }) (omega arith) h
code_is (Ttt d n) h = tt_is op.Ttt 0xE840 0xF040 d n (record { fields = refl; size = refl; base = refl }) (omega arith) h
code_is (Tta d n) h = tt_is op.Tta 0xE840 0xF080 d n (record { fields = refl; size = refl; base = refl }) (omega arith) h
code_is (Ttat d n) h = tt_is op.Ttat 0xE840 0xF0C0 d n (record { fields = refl; size = refl; base = refl }) (omega arith) h

-- the two ways, and sizes, in the manual's words
pub decode-code_of : (i : Instr) (b : ℕ) → in_range_of i ≡ true → b < 2 ^ 16 → (size_of i ≡ 2) ⊎ (b ≡ (code_of i).second) → decode_of (code_of i).first b ≡ Some (record { instr = i; size = size_of i })
decode-code_of i b h lb s =
    let code = code_is i h in
    let by_row : (row_size_of i ≡ 2) ⊎ (b ≡ (row_code_of i).second) = ⊎_elim (λ e. inl (size_is i ∙ e)) (λ e. inr (e ∙ ap (λ (c : Code). c.second) (sym code))) s in
    ap (λ (c : Code). decode_of c.first b) (sym code)
    ∙ table.decode-code_of i b (taken_is i ∙ h) lb by_row
    ∙ ap (λ n. Some (record { instr = i; size = n })) (size_is i)

pub code_of-decode : (a b : ℕ) (d : Decoded) → b < 2 ^ 16 → decode_of a b ≡ Some d → IsReadAs a b d.instr d.size
code_of-decode a b d lb e =
    let r = table.code_of-decode a b d lb e in
    let range = sym (taken_is d.instr) ∙ r.in_range in
    let code = sym (code_is d.instr range) in
    record {
      in_range = range;
      has_size = ap (λ (c : Code). c.size) code ∙ r.has_size;
      has_first = ap (λ (c : Code). c.first) code ∙ r.has_first;
      has_second = λ s. ap (λ (c : Code). c.second) code ∙ r.has_second s;
    }

pub size_of_cases : (i : Instr) → (size_of i ≡ 2) ⊎ (size_of i ≡ 4)
size_of_cases i = subst (λ n. (n ≡ 2) ⊎ (n ≡ 4)) (size_is i) (table.size_of_cases i)

pub code_of_size : (i : Instr) → (code_of i).size ≡ size_of i
unfolding code_of size_of
code_of_size Nop = refl
code_of_size _ = refl

pub code_of_first : (i : Instr) → in_range_of i ≡ true → (code_of i).first < 2 ^ 16
code_of_first i h = subst (λ (c : Code). c.first < 2 ^ 16) (code_is i h) (table.code_of_first i)

pub code_of_second : (i : Instr) → in_range_of i ≡ true → (code_of i).second < 2 ^ 16
code_of_second i h = subst (λ (c : Code). c.second < 2 ^ 16) (code_is i h) (table.code_of_second i)

pub code_of_narrow : (i : Instr) → in_range_of i ≡ true → size_of i ≡ 2 → (code_of i).second ≡ 0
code_of_narrow i h e = subst (λ (c : Code). c.second ≡ 0) (code_is i h) (table.code_of_narrow i (size_is i ∙ e))
