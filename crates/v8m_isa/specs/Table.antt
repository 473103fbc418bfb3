-- The instructions as the manual has them (DDI0553, part C): each one's ranges, its size and its halfwords, in plain
-- arithmetic. The decoder is proved to read exactly these (`manual_halfwords`), so this file alone tells what it does.
use Rattle.std.specs.Prelude.{◌≡◌, ℕ, ◌+◌, ◌-◌, ◌*◌, ◌/◌, ◌%◌, ◌^◌, Bool, true, ◌&&◌, ◌||◌, not, eqb, ltb, leb, count_ones}
use Rattle.v8m_isa.specs.declared.instr.Instr.{Instr}
use Rattle.v8m_isa.specs.declared.instr.Instr.TheVariants.{Nop, Mov, Bx, Bxns, Blxns, Udf, Sg, Movw, Movt, Addw, Subw, Add, Sub, Rsb, Cmp, And, Bic, Orr, Eor, Mvn, Lsl, Lsr, Asr, Sxtb, Sxth, Uxtb, Uxth, Mul, Mls, Sdiv, Udiv, Ldr, Ldrb, Ldrh, Ldrsb, Ldrsh, Str, Strb, Strh, Stmdb, Ldmia, B, Bl, Bc, Msr, Mrs, Tt, Ttt, Tta, Ttat}
use Rattle.v8m_isa.specs.declared.instr.Code.{Code}

-- a register other than SP and PC
abbrev pub is_register : ℕ → Bool
is_register r = ltb r 13 || eqb r 14

-- a register other than PC
abbrev pub is_register_or_sp : ℕ → Bool
is_register_or_sp r = ltb r 15

-- a condition other than AL
abbrev pub is_condition : ℕ → Bool
is_condition c = ltb c 14

-- a number of n bits
abbrev pub is_number : ℕ → ℕ → Bool
is_number n i = ltb i (2 ^ n)

-- APSR, MSP, PSP, MSPLIM, PSPLIM, MSP_NS or PSP_NS
abbrev pub is_special : ℕ → Bool
is_special s = eqb s 0 || (eqb s 8 || (eqb s 9 || (eqb s 10 || (eqb s 11 || (eqb s 136 || eqb s 137)))))

-- two registers at least, neither SP nor PC, as bits
abbrev pub is_list : ℕ → Bool
is_list l = ltb l (2 ^ 15) && (eqb (l / 2 ^ 13 % 2) 0 && leb 2 (count_ones l))

-- an even number from -2 ^ n up to 2 ^ n, as a number modulo 2 ^ 32
abbrev pub is_offset : ℕ → ℕ → Bool
is_offset n off = eqb (off % 2) 0 && (ltb off (2 ^ n) || leb (2 ^ 32 - 2 ^ n) off && ltb off (2 ^ 32))

-- SP is written only from SP
abbrev pub is_sp_from_sp : ℕ → ℕ → Bool
is_sp_from_sp d n = not (eqb d 13) || eqb n 13

-- each field of an instruction is in its range
unfoldable pub in_range_of : Instr → Bool
in_range_of Nop = true
in_range_of (Mov d m) = is_register_or_sp d && is_register_or_sp m
in_range_of (Bx m) = is_register m
in_range_of (Bxns m) = is_register m
in_range_of (Blxns m) = is_register m
in_range_of (Udf i) = is_number 8 i
in_range_of Sg = true
in_range_of (Movw d i) = is_register d && is_number 16 i
in_range_of (Movt d i) = is_register d && is_number 16 i
in_range_of (Addw d n i) = is_register_or_sp d && (is_register_or_sp n && (is_number 12 i && is_sp_from_sp d n))
in_range_of (Subw d n i) = is_register_or_sp d && (is_register_or_sp n && (is_number 12 i && is_sp_from_sp d n))
in_range_of (Add d n m) = is_register d && (is_register n && is_register m)
in_range_of (Sub d n m) = is_register d && (is_register n && is_register m)
in_range_of (Rsb d n m) = is_register d && (is_register n && is_register m)
in_range_of (Cmp n m) = is_register n && is_register m
in_range_of (And d n m) = is_register d && (is_register n && is_register m)
in_range_of (Bic d n m) = is_register d && (is_register n && is_register m)
in_range_of (Orr d n m) = is_register d && (is_register n && is_register m)
in_range_of (Eor d n m) = is_register d && (is_register n && is_register m)
in_range_of (Mvn d m) = is_register d && is_register m
in_range_of (Lsl d n m) = is_register d && (is_register n && is_register m)
in_range_of (Lsr d n m) = is_register d && (is_register n && is_register m)
in_range_of (Asr d n m) = is_register d && (is_register n && is_register m)
in_range_of (Sxtb d m) = is_register d && is_register m
in_range_of (Sxth d m) = is_register d && is_register m
in_range_of (Uxtb d m) = is_register d && is_register m
in_range_of (Uxth d m) = is_register d && is_register m
in_range_of (Mul d n m) = is_register d && (is_register n && is_register m)
in_range_of (Mls d n m a) = is_register d && (is_register n && (is_register m && is_register a))
in_range_of (Sdiv d n m) = is_register d && (is_register n && is_register m)
in_range_of (Udiv d n m) = is_register d && (is_register n && is_register m)
in_range_of (Ldr t n i) = is_register t && (is_register_or_sp n && is_number 12 i)
in_range_of (Ldrb t n i) = is_register t && (is_register_or_sp n && is_number 12 i)
in_range_of (Ldrh t n i) = is_register t && (is_register_or_sp n && is_number 12 i)
in_range_of (Ldrsb t n i) = is_register t && (is_register_or_sp n && is_number 12 i)
in_range_of (Ldrsh t n i) = is_register t && (is_register_or_sp n && is_number 12 i)
in_range_of (Str t n i) = is_register t && (is_register_or_sp n && is_number 12 i)
in_range_of (Strb t n i) = is_register t && (is_register_or_sp n && is_number 12 i)
in_range_of (Strh t n i) = is_register t && (is_register_or_sp n && is_number 12 i)
in_range_of (Stmdb list) = is_list list
in_range_of (Ldmia list) = is_list list
in_range_of (B off) = is_offset 24 off
in_range_of (Bl off) = is_offset 24 off
in_range_of (Bc c off) = is_condition c && is_offset 20 off
in_range_of (Msr s n) = is_special s && is_register n
in_range_of (Mrs d s) = is_register d && is_special s
in_range_of (Tt d n) = is_register d && is_register n
in_range_of (Ttt d n) = is_register d && is_register n
in_range_of (Tta d n) = is_register d && is_register n
in_range_of (Ttat d n) = is_register d && is_register n

-- the size of an instruction in bytes, 2 or 4
unfoldable pub size_of : Instr → ℕ
size_of Nop = 2
size_of (Mov d m) = 2
size_of (Bx m) = 2
size_of (Bxns m) = 2
size_of (Blxns m) = 2
size_of (Udf i) = 2
size_of Sg = 4
size_of (Movw d i) = 4
size_of (Movt d i) = 4
size_of (Addw d n i) = 4
size_of (Subw d n i) = 4
size_of (Add d n m) = 4
size_of (Sub d n m) = 4
size_of (Rsb d n m) = 4
size_of (Cmp n m) = 4
size_of (And d n m) = 4
size_of (Bic d n m) = 4
size_of (Orr d n m) = 4
size_of (Eor d n m) = 4
size_of (Mvn d m) = 4
size_of (Lsl d n m) = 4
size_of (Lsr d n m) = 4
size_of (Asr d n m) = 4
size_of (Sxtb d m) = 4
size_of (Sxth d m) = 4
size_of (Uxtb d m) = 4
size_of (Uxth d m) = 4
size_of (Mul d n m) = 4
size_of (Mls d n m a) = 4
size_of (Sdiv d n m) = 4
size_of (Udiv d n m) = 4
size_of (Ldr t n i) = 4
size_of (Ldrb t n i) = 4
size_of (Ldrh t n i) = 4
size_of (Ldrsb t n i) = 4
size_of (Ldrsh t n i) = 4
size_of (Str t n i) = 4
size_of (Strb t n i) = 4
size_of (Strh t n i) = 4
size_of (Stmdb list) = 4
size_of (Ldmia list) = 4
size_of (B off) = 4
size_of (Bl off) = 4
size_of (Bc c off) = 4
size_of (Msr s n) = 4
size_of (Mrs d s) = 4
size_of (Tt d n) = 4
size_of (Ttt d n) = 4
size_of (Tta d n) = 4
size_of (Ttat d n) = 4

-- the code of an instruction of one halfword, and of one of two
abbrev pub narrow : ℕ → Code
narrow first = record { first = first; second = 0; size = 2 }

abbrev pub wide : ℕ → ℕ → Code
wide first second = record { first = first; second = second; size = 4 }

-- n bits of a number, from bit `at`
abbrev pub part : ℕ → ℕ → ℕ → ℕ
part x at n = x / 2 ^ at % 2 ^ n

-- MOVW and MOVT: imm4:i:imm3:imm8
abbrev pub half_of : ℕ → ℕ → ℕ → Code
half_of first d i = wide (first + 0x400 * part i 11 1 + part i 12 4) (0x1000 * part i 8 3 + 0x100 * d + part i 0 8)

-- ADDW and SUBW: i:imm3:imm8
abbrev pub plus_number : ℕ → ℕ → ℕ → ℕ → Code
plus_number first d n i = wide (first + 0x400 * part i 11 1 + n) (0x1000 * part i 8 3 + 0x100 * d + part i 0 8)

-- d, n and m in their places
abbrev pub on_registers : ℕ → ℕ → ℕ → ℕ → ℕ → Code
on_registers first second d n m = wide (first + n) (second + 0x100 * d + m)

-- d and m in theirs
abbrev pub of_register : ℕ → ℕ → ℕ → ℕ → Code
of_register first second d m = wide first (second + 0x100 * d + m)

-- a load or a store: t, the base register n and a number of 12 bits
abbrev pub at_address : ℕ → ℕ → ℕ → ℕ → Code
at_address first t n i = wide (first + n) (0x1000 * t + i)

-- NOT (I EOR S)
abbrev pub not_xor : ℕ → ℕ → ℕ
not_xor i s = (1 + i + s) % 2

-- B and BL: S:I1:I2:imm10:imm11:0, with J1 = NOT (I1 EOR S) and J2 = NOT (I2 EOR S)
abbrev pub branch : ℕ → ℕ → ℕ → Code
branch first second off =
    wide (first + 0x400 * part off 24 1 + part off 12 10)
    (second + 0x2000 * not_xor (part off 23 1) (part off 24 1) + 0x800 * not_xor (part off 22 1) (part off 24 1) + part off 1 11)

-- B under a condition: S:J2:J1:imm6:imm11:0
abbrev pub branch_if : ℕ → ℕ → ℕ → ℕ → Code
branch_if first second c off =
    wide (first + 0x400 * part off 20 1 + 0x40 * c + part off 12 6) (second + 0x2000 * part off 18 1 + 0x800 * part off 19 1 + part off 1 11)

-- the halfwords of an instruction
unfoldable pub code_of : Instr → Code
code_of Nop = narrow 0xBF00
code_of (Mov d m) = narrow (0x4600 + 0x80 * (d / 8) + 8 * m + d % 8)
code_of (Bx m) = narrow (0x4700 + 8 * m)
code_of (Bxns m) = narrow (0x4704 + 8 * m)
code_of (Blxns m) = narrow (0x4784 + 8 * m)
code_of (Udf i) = narrow (0xDE00 + i)
code_of Sg = wide 0xE97F 0xE97F
code_of (Movw d i) = half_of 0xF240 d i
code_of (Movt d i) = half_of 0xF2C0 d i
code_of (Addw d n i) = plus_number 0xF200 d n i
code_of (Subw d n i) = plus_number 0xF2A0 d n i
code_of (Add d n m) = on_registers 0xEB00 0x0000 d n m
code_of (Sub d n m) = on_registers 0xEBA0 0x0000 d n m
code_of (Rsb d n m) = on_registers 0xEBC0 0x0000 d n m
code_of (Cmp n m) = wide (0xEBB0 + n) (0x0F00 + m)
code_of (And d n m) = on_registers 0xEA00 0x0000 d n m
code_of (Bic d n m) = on_registers 0xEA20 0x0000 d n m
code_of (Orr d n m) = on_registers 0xEA40 0x0000 d n m
code_of (Eor d n m) = on_registers 0xEA80 0x0000 d n m
code_of (Mvn d m) = of_register 0xEA6F 0x0000 d m
code_of (Lsl d n m) = on_registers 0xFA00 0xF000 d n m
code_of (Lsr d n m) = on_registers 0xFA20 0xF000 d n m
code_of (Asr d n m) = on_registers 0xFA40 0xF000 d n m
code_of (Sxtb d m) = of_register 0xFA4F 0xF080 d m
code_of (Sxth d m) = of_register 0xFA0F 0xF080 d m
code_of (Uxtb d m) = of_register 0xFA5F 0xF080 d m
code_of (Uxth d m) = of_register 0xFA1F 0xF080 d m
code_of (Mul d n m) = on_registers 0xFB00 0xF000 d n m
code_of (Mls d n m a) = wide (0xFB00 + n) (0x0010 + 0x1000 * a + 0x100 * d + m)
code_of (Sdiv d n m) = on_registers 0xFB90 0xF0F0 d n m
code_of (Udiv d n m) = on_registers 0xFBB0 0xF0F0 d n m
code_of (Ldr t n i) = at_address 0xF8D0 t n i
code_of (Ldrb t n i) = at_address 0xF890 t n i
code_of (Ldrh t n i) = at_address 0xF8B0 t n i
code_of (Ldrsb t n i) = at_address 0xF990 t n i
code_of (Ldrsh t n i) = at_address 0xF9B0 t n i
code_of (Str t n i) = at_address 0xF8C0 t n i
code_of (Strb t n i) = at_address 0xF880 t n i
code_of (Strh t n i) = at_address 0xF8A0 t n i
code_of (Stmdb list) = wide 0xE92D list
code_of (Ldmia list) = wide 0xE8BD list
code_of (B off) = branch 0xF000 0x9000 off
code_of (Bl off) = branch 0xF000 0xD000 off
code_of (Bc c off) = branch_if 0xF000 0x8000 c off
code_of (Msr s n) = wide (0xF380 + n) (0x8800 + s)
code_of (Mrs d s) = wide 0xF3EF (0x8000 + 0x100 * d + s)
code_of (Tt d n) = wide (0xE840 + n) (0xF000 + 0x100 * d)
code_of (Ttt d n) = wide (0xE840 + n) (0xF040 + 0x100 * d)
code_of (Tta d n) = wide (0xE840 + n) (0xF080 + 0x100 * d)
code_of (Ttat d n) = wide (0xE840 + n) (0xF0C0 + 0x100 * d)

-- an instruction in range of this size has these halfwords, the second one where it has two
pub record IsReadAs (first second : ℕ) (i : Instr) (size : ℕ) : Type 0 where
  pub in_range : in_range_of i ≡ true
  pub has_size : (code_of i).size ≡ size
  pub has_first : (code_of i).first ≡ first
  pub has_second : size ≡ 4 → (code_of i).second ≡ second

-- no instruction in range has these halfwords
abbrev pub IsNoInstr : ℕ → ℕ → Type 0
IsNoInstr first second = (i : Instr) → IsReadAs first second i (size_of i) → ⊥
