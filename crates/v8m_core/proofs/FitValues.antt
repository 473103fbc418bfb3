-- What instructions compute are words where their operands are.
use Rattle.std.proofs.Common.{◌≡◌, ℕ, zero, suc, ◌+◌, ◌-◌, ◌*◌, ◌/◌, ◌%◌, ◌^◌, ◌<◌, ◌≤◌, Bool, true, false, cond, Option, Some, None, arith}
use Rattle.std.specs.Prelude.{eqb, ltb, leb, not, ◌&&◌}
use Rattle.std.proofs.Math.Nat.{mod-le, div-le_self}
use Rattle.std.proofs.lemmas.Nat.{shr_le, or_lt, xor_lt}
use Rattle.std.specs.Int.Bits.{and_lt}
use Rattle.std.proofs.lemmas.Bool.{ltb-true}
use Rattle.v8m_isa.specs.declared.instr.Instr.{Instr}
use Rattle.v8m_isa.specs.declared.instr.Instr.TheVariants.{Nop, Mov, Bx, Bxns, Blxns, Sg, Movw, Movt, Addw, Subw, Add, Sub, Rsb, Cmp, And, Bic, Orr, Eor, Mvn, Lsl, Lsr, Asr, Sxtb, Sxth, Uxtb, Uxth, Mul, Mls, Sdiv, Udiv, B, Bl, Bc, Msr, Mrs, Tt, Ttt, Tta, Ttat}
use Rattle.v8m_isa.specs.Table.{in_range_of}
use Rattle.ns_types.specs.declared.state.Regs.{Regs}
use Rattle.ns_types.specs.declared.state.Cpu.{Cpu}
use Rattle.ns_types.specs.State.{get_of, set_of}
use Rattle.ns_types.specs.Platform.{in_row, region_of, is_secure, is_readable, is_writable}
use Rattle.ns_types.specs.Turns.{IsWord}
use Rattle.ns_types.specs.Operators.{wrapped, subtract, complement, is_negative, magnitude, with_sign, low_bytes, to_signed}
use Rattle.v8m_mem.specs.Target.{flag, answer, target_of}
use Rattle.v8m_core.specs.declared.effect.Effect.{Effect}
use Rattle.v8m_core.specs.declared.effect.Effect.TheVariants as effect
use Rattle.v8m_core.specs.Values.{shifted_left, shifted_right, shifted_with_sign, quotient, signed_quotient, overflows, compared, condition_holds}
use Rattle.v8m_core.specs.Effects.{effect_or, moved, computed, bitwise, accessed, branched, special_of, named}
use Rattle.v8m_core.specs.Step.{effect_of}
use Rattle.v8m_core.specs.Fits.{RegsFit, CpuFits}

-- Words

pub cond_lt : (b : Bool) (x y : ℕ) → IsWord x → IsWord y → IsWord (cond b x y)
cond_lt true x y p q = p
cond_lt false x y p q = q

pub below : (m n : ℕ) → m ≤ n → IsWord n → IsWord m
below m n le lt = omega arith

pub wrapped_lt : (n : ℕ) → IsWord (wrapped n)
wrapped_lt n = omega arith

pub minus_lt : (a b : ℕ) → IsWord a → IsWord (a - b)
minus_lt a b lt = omega arith

zero_lt : IsWord 0
zero_lt = omega arith

complement_lt : (a : ℕ) → IsWord (complement a)
complement_lt a = omega arith

low_bytes_lt : (n a : ℕ) → IsWord a → IsWord (low_bytes n a)
low_bytes_lt n a h = below _ _ (mod-le a (256 ^ n)) h

pub to_signed_lt : (n a : ℕ) → IsWord a → IsWord (to_signed n a)
to_signed_lt n a h = cond_lt _ _ _ (low_bytes_lt n a h) (wrapped_lt _)

shifted_left_lt : (a k : ℕ) → IsWord (shifted_left a k)
unfolding shifted_left
shifted_left_lt a k = wrapped_lt (a * 2 ^ k)

shifted_right_lt : (a k : ℕ) → IsWord a → IsWord (shifted_right a k)
unfolding shifted_right
shifted_right_lt a k h = below _ _ (shr_le a k) h

shifted_with_sign_lt : (a k : ℕ) → IsWord a → IsWord (shifted_with_sign a k)
unfolding shifted_with_sign
shifted_with_sign_lt a k h = cond_lt (is_negative a) _ _ (complement_lt (shifted_right (complement a) k)) (shifted_right_lt a k h)

quotient_lt : (a b : ℕ) → IsWord a → IsWord (quotient a b)
unfolding quotient
quotient_lt a b h = cond_lt (eqb b 0) _ _ zero_lt (below _ _ (div-le_self a b) h)

magnitude_lt : (a : ℕ) → IsWord a → IsWord (magnitude a)
magnitude_lt a h = cond_lt (is_negative a) _ _ (wrapped_lt _) h

with_sign_lt : (negative : Bool) (n : ℕ) → IsWord n → IsWord (with_sign negative n)
with_sign_lt negative n h = cond_lt negative _ _ (wrapped_lt _) h

signed_quotient_lt : (a b : ℕ) → IsWord a → IsWord (signed_quotient a b)
unfolding signed_quotient
signed_quotient_lt a b h =
    cond_lt (eqb b 0) _ _ zero_lt (with_sign_lt (cond (is_negative a) (not (is_negative b)) (is_negative b)) (magnitude a / magnitude b) (below _ _ (div-le_self (magnitude a) (magnitude b)) (magnitude_lt a h)))

-- Flags, special registers, TT

flag_le : (b : Bool) (weight : ℕ) → flag b weight ≤ weight
flag_le true weight = omega arith
flag_le false weight = omega arith

five_flags : (n z c v : Bool) (q : ℕ) → flag n 16 + flag z 8 + flag c 4 + flag v 2 + q % 2 < 32
five_flags n z c v q = omega (arith, flag_le n 16, flag_le z 8, flag_le c 4, flag_le v 2)

compared_lt : (a b flags : ℕ) → compared a b flags < 32
unfolding compared
compared_lt a b flags = five_flags (is_negative (subtract a b)) (eqb (subtract a b) 0) (leb b a) (overflows a b) flags

special_of_lt : (k : ℕ) (c : Cpu) → CpuFits c → IsWord (special_of k c)
special_of_lt k c h =
    cond_lt (eqb k 0) _ _ (omega arith)
    (cond_lt (eqb k 8) _ _ h.regs.sp
    (cond_lt (eqb k 9) _ _ h.psp (cond_lt (eqb k 10) _ _ h.msplim (cond_lt (eqb k 11) _ _ h.psplim (cond_lt (eqb k 136) _ _ h.msp_ns h.psp_ns)))))

abbrev IsSmall : Option ℕ → Type 0
IsSmall None = Unit {0}
IsSmall (Some k) = k < 8

record Small (o : Option ℕ) : Type 0 where
  by : IsSmall o

small_cond : (b : Bool) (o p : Option ℕ) → Small o → Small p → Small (cond b o p)
small_cond true o p x y = x
small_cond false o p x y = y

region_small : (a : ℕ) → Small (region_of a)
unfolding region_of
region_small a =
    small_cond (in_row 0 a) _ _ (record { by = omega arith })
    (small_cond (in_row 1 a) _ _ (record { by = omega arith })
    (small_cond (in_row 2 a) _ _ (record { by = omega arith })
    (small_cond (in_row 3 a) _ _ (record { by = omega arith })
    (small_cond (in_row 4 a) _ _ (record { by = omega arith }) (small_cond (in_row 5 a) _ _ (record { by = omega arith }) (record { by = tt }))))))

five_fields : (k : ℕ) (s nw nr w r : Bool) → k < 8 → IsWord (16777216 * k + 8388608 + flag s 4194304 + flag nw 2097152 + flag nr 1048576 + flag w 524288 + flag r 262144)
five_fields k s nw nr w r lt = omega (arith, flag_le s 4194304, flag_le nw 2097152, flag_le nr 1048576, flag_le w 524288, flag_le r 262144)

answer_lt : (o : Option ℕ) (secure readable writable : Bool) → Small o → IsWord (answer o secure readable writable)
answer_lt None secure readable writable h = zero_lt
answer_lt (Some k) secure readable writable h = five_fields k secure (writable && not secure) (readable && not secure) writable readable h.by

target_lt : (a : ℕ) → IsWord (target_of a)
unfolding target_of
target_lt a = answer_lt (region_of a) (is_secure a) (is_readable a 1) (is_writable a 1) (region_small a)

-- Registers

pub get_fits : (r : Regs) (n : ℕ) → RegsFit r → IsWord (get_of r n)
get_fits r zero h = h.r0
get_fits r (suc zero) h = h.r1
get_fits r (suc (suc zero)) h = h.r2
get_fits r (suc (suc (suc zero))) h = h.r3
get_fits r (suc (suc (suc (suc zero)))) h = h.r4
get_fits r (suc (suc (suc (suc (suc zero))))) h = h.r5
get_fits r (suc (suc (suc (suc (suc (suc zero)))))) h = h.r6
get_fits r (suc (suc (suc (suc (suc (suc (suc zero))))))) h = h.r7
get_fits r (suc (suc (suc (suc (suc (suc (suc (suc zero)))))))) h = h.r8
get_fits r (suc (suc (suc (suc (suc (suc (suc (suc (suc zero))))))))) h = h.r9
get_fits r (suc (suc (suc (suc (suc (suc (suc (suc (suc (suc zero)))))))))) h = h.r10
get_fits r (suc (suc (suc (suc (suc (suc (suc (suc (suc (suc (suc zero))))))))))) h = h.r11
get_fits r (suc (suc (suc (suc (suc (suc (suc (suc (suc (suc (suc (suc zero)))))))))))) h = h.r12
get_fits r (suc (suc (suc (suc (suc (suc (suc (suc (suc (suc (suc (suc (suc zero))))))))))))) h = h.sp
get_fits r (suc (suc (suc (suc (suc (suc (suc (suc (suc (suc (suc (suc (suc (suc n)))))))))))))) h = h.lr

pub set_fits : (r : Regs) (n v : ℕ) → RegsFit r → IsWord v → RegsFit (set_of r n v)
set_fits r zero v h w = record { r0 = w; r1 = h.r1; r2 = h.r2; r3 = h.r3; r4 = h.r4; r5 = h.r5; r6 = h.r6; r7 = h.r7; r8 = h.r8; r9 = h.r9; r10 = h.r10; r11 = h.r11; r12 = h.r12; sp = h.sp; lr = h.lr }
set_fits r (suc zero) v h w = record { r0 = h.r0; r1 = w; r2 = h.r2; r3 = h.r3; r4 = h.r4; r5 = h.r5; r6 = h.r6; r7 = h.r7; r8 = h.r8; r9 = h.r9; r10 = h.r10; r11 = h.r11; r12 = h.r12; sp = h.sp; lr = h.lr }
set_fits r (suc (suc zero)) v h w = record { r0 = h.r0; r1 = h.r1; r2 = w; r3 = h.r3; r4 = h.r4; r5 = h.r5; r6 = h.r6; r7 = h.r7; r8 = h.r8; r9 = h.r9; r10 = h.r10; r11 = h.r11; r12 = h.r12; sp = h.sp; lr = h.lr }
set_fits r (suc (suc (suc zero))) v h w = record { r0 = h.r0; r1 = h.r1; r2 = h.r2; r3 = w; r4 = h.r4; r5 = h.r5; r6 = h.r6; r7 = h.r7; r8 = h.r8; r9 = h.r9; r10 = h.r10; r11 = h.r11; r12 = h.r12; sp = h.sp; lr = h.lr }
set_fits r (suc (suc (suc (suc zero)))) v h w = record { r0 = h.r0; r1 = h.r1; r2 = h.r2; r3 = h.r3; r4 = w; r5 = h.r5; r6 = h.r6; r7 = h.r7; r8 = h.r8; r9 = h.r9; r10 = h.r10; r11 = h.r11; r12 = h.r12; sp = h.sp; lr = h.lr }
set_fits r (suc (suc (suc (suc (suc zero))))) v h w = record { r0 = h.r0; r1 = h.r1; r2 = h.r2; r3 = h.r3; r4 = h.r4; r5 = w; r6 = h.r6; r7 = h.r7; r8 = h.r8; r9 = h.r9; r10 = h.r10; r11 = h.r11; r12 = h.r12; sp = h.sp; lr = h.lr }
set_fits r (suc (suc (suc (suc (suc (suc zero)))))) v h w = record { r0 = h.r0; r1 = h.r1; r2 = h.r2; r3 = h.r3; r4 = h.r4; r5 = h.r5; r6 = w; r7 = h.r7; r8 = h.r8; r9 = h.r9; r10 = h.r10; r11 = h.r11; r12 = h.r12; sp = h.sp; lr = h.lr }
set_fits r (suc (suc (suc (suc (suc (suc (suc zero))))))) v h w = record { r0 = h.r0; r1 = h.r1; r2 = h.r2; r3 = h.r3; r4 = h.r4; r5 = h.r5; r6 = h.r6; r7 = w; r8 = h.r8; r9 = h.r9; r10 = h.r10; r11 = h.r11; r12 = h.r12; sp = h.sp; lr = h.lr }
set_fits r (suc (suc (suc (suc (suc (suc (suc (suc zero)))))))) v h w = record { r0 = h.r0; r1 = h.r1; r2 = h.r2; r3 = h.r3; r4 = h.r4; r5 = h.r5; r6 = h.r6; r7 = h.r7; r8 = w; r9 = h.r9; r10 = h.r10; r11 = h.r11; r12 = h.r12; sp = h.sp; lr = h.lr }
set_fits r (suc (suc (suc (suc (suc (suc (suc (suc (suc zero))))))))) v h w = record { r0 = h.r0; r1 = h.r1; r2 = h.r2; r3 = h.r3; r4 = h.r4; r5 = h.r5; r6 = h.r6; r7 = h.r7; r8 = h.r8; r9 = w; r10 = h.r10; r11 = h.r11; r12 = h.r12; sp = h.sp; lr = h.lr }
set_fits r (suc (suc (suc (suc (suc (suc (suc (suc (suc (suc zero)))))))))) v h w = record { r0 = h.r0; r1 = h.r1; r2 = h.r2; r3 = h.r3; r4 = h.r4; r5 = h.r5; r6 = h.r6; r7 = h.r7; r8 = h.r8; r9 = h.r9; r10 = w; r11 = h.r11; r12 = h.r12; sp = h.sp; lr = h.lr }
set_fits r (suc (suc (suc (suc (suc (suc (suc (suc (suc (suc (suc zero))))))))))) v h w = record { r0 = h.r0; r1 = h.r1; r2 = h.r2; r3 = h.r3; r4 = h.r4; r5 = h.r5; r6 = h.r6; r7 = h.r7; r8 = h.r8; r9 = h.r9; r10 = h.r10; r11 = w; r12 = h.r12; sp = h.sp; lr = h.lr }
set_fits r (suc (suc (suc (suc (suc (suc (suc (suc (suc (suc (suc (suc zero)))))))))))) v h w = record { r0 = h.r0; r1 = h.r1; r2 = h.r2; r3 = h.r3; r4 = h.r4; r5 = h.r5; r6 = h.r6; r7 = h.r7; r8 = h.r8; r9 = h.r9; r10 = h.r10; r11 = h.r11; r12 = w; sp = h.sp; lr = h.lr }
set_fits r (suc (suc (suc (suc (suc (suc (suc (suc (suc (suc (suc (suc (suc zero))))))))))))) v h w = record { r0 = h.r0; r1 = h.r1; r2 = h.r2; r3 = h.r3; r4 = h.r4; r5 = h.r5; r6 = h.r6; r7 = h.r7; r8 = h.r8; r9 = h.r9; r10 = h.r10; r11 = h.r11; r12 = h.r12; sp = w; lr = h.lr }
set_fits r (suc (suc (suc (suc (suc (suc (suc (suc (suc (suc (suc (suc (suc (suc n)))))))))))))) v h w = record { r0 = h.r0; r1 = h.r1; r2 = h.r2; r3 = h.r3; r4 = h.r4; r5 = h.r5; r6 = h.r6; r7 = h.r7; r8 = h.r8; r9 = h.r9; r10 = h.r10; r11 = h.r11; r12 = h.r12; sp = h.sp; lr = w }

-- Effects

-- what an effect writes or where it goes is a word, and flags are five
abbrev pub IsBounded : Effect → Type 0
IsBounded (effect.Put d v) = IsWord v
IsBounded (effect.Flags flags) = flags < 32
IsBounded (effect.Jump a) = IsWord a
IsBounded (effect.Call a) = IsWord a
IsBounded (effect.Special k v) = IsWord v
IsBounded (effect.Bx v) = IsWord v
IsBounded (effect.Bxns v) = IsWord v
IsBounded (effect.Blxns v) = IsWord v
IsBounded _ = Unit {0}

abbrev IsBoundedIn : Option Effect → Type 0
IsBoundedIn None = Unit {0}
IsBoundedIn (Some e) = IsBounded e

-- the effect of a group, if it has the instruction
record Bounds (o : Option Effect) : Type 0 where
  by : IsBoundedIn o

or_bounded : (o : Option Effect) (e : Effect) → Bounds o → IsBounded e → IsBounded (effect_or o e)
or_bounded None e p q = q
or_bounded (Some x) e p q = p.by

-- a number of 16 bits
half_lt : (b : Bool) (i : ℕ) → (b && ltb i 65536) ≡ true → i < 65536
half_lt true i h = ltb-true i 65536 h
half_lt false i h = cc

movt_lt : (i x : ℕ) → i < 65536 → IsWord (65536 * i + x % 65536)
movt_lt i x h = omega arith

moved_bounds : (i : Instr) (c : Cpu) → CpuFits c → in_range_of i ≡ true → Bounds (moved i c)
unfolding in_range_of
moved_bounds Nop c h r = record { by = tt }
moved_bounds Sg c h r = record { by = tt }
moved_bounds (Mov d m) c h r = record { by = get_fits c.regs m h.regs }
moved_bounds (Movw d i) c h r = record { by = (let lt : i < 65536 = half_lt _ i r in omega arith) }
moved_bounds (Movt d i) c h r = record { by = movt_lt i (get_of c.regs d) (half_lt _ i r) }
moved_bounds (Sxtb d m) c h r = record { by = to_signed_lt 1 (get_of c.regs m) (get_fits c.regs m h.regs) }
moved_bounds (Sxth d m) c h r = record { by = to_signed_lt 2 (get_of c.regs m) (get_fits c.regs m h.regs) }
moved_bounds (Uxtb d m) c h r = record { by = low_bytes_lt 1 (get_of c.regs m) (get_fits c.regs m h.regs) }
moved_bounds (Uxth d m) c h r = record { by = low_bytes_lt 2 (get_of c.regs m) (get_fits c.regs m h.regs) }
moved_bounds _ c h r = record { by = tt }

computed_bounds : (i : Instr) (c : Cpu) → CpuFits c → Bounds (computed i c)
computed_bounds (Addw d n i) c h = record { by = wrapped_lt _ }
computed_bounds (Subw d n i) c h = record { by = wrapped_lt _ }
computed_bounds (Add d n m) c h = record { by = wrapped_lt _ }
computed_bounds (Sub d n m) c h = record { by = wrapped_lt _ }
computed_bounds (Rsb d n m) c h = record { by = wrapped_lt _ }
computed_bounds (Cmp n m) c h = record { by = compared_lt (get_of c.regs n) (get_of c.regs m) c.nzcvq }
computed_bounds (Mul d n m) c h = record { by = wrapped_lt _ }
computed_bounds (Mls d n m a) c h = record { by = wrapped_lt _ }
computed_bounds (Sdiv d n m) c h = record { by = signed_quotient_lt (get_of c.regs n) (get_of c.regs m) (get_fits c.regs n h.regs) }
computed_bounds (Udiv d n m) c h = record { by = quotient_lt (get_of c.regs n) (get_of c.regs m) (get_fits c.regs n h.regs) }
computed_bounds _ c h = record { by = tt }

bitwise_bounds : (i : Instr) (c : Cpu) → CpuFits c → Bounds (bitwise i c)
bitwise_bounds (And d n m) c h = record { by = and_lt 32 _ _ (get_fits c.regs n h.regs) (get_fits c.regs m h.regs) }
bitwise_bounds (Bic d n m) c h = record { by = and_lt 32 _ _ (get_fits c.regs n h.regs) (complement_lt (get_of c.regs m)) }
bitwise_bounds (Orr d n m) c h = record { by = or_lt 32 _ _ (get_fits c.regs n h.regs) (get_fits c.regs m h.regs) }
bitwise_bounds (Eor d n m) c h = record { by = xor_lt 32 _ _ (get_fits c.regs n h.regs) (get_fits c.regs m h.regs) }
bitwise_bounds (Mvn d m) c h = record { by = complement_lt (get_of c.regs m) }
bitwise_bounds (Lsl d n m) c h = record { by = shifted_left_lt (get_of c.regs n) (get_of c.regs m % 256) }
bitwise_bounds (Lsr d n m) c h = record { by = shifted_right_lt (get_of c.regs n) (get_of c.regs m % 256) (get_fits c.regs n h.regs) }
bitwise_bounds (Asr d n m) c h = record { by = shifted_with_sign_lt (get_of c.regs n) (get_of c.regs m % 256) (get_fits c.regs n h.regs) }
bitwise_bounds _ c h = record { by = tt }

accessed_bounds : (i : Instr) (c : Cpu) → Bounds (accessed i c)
accessed_bounds Nop c = record { by = tt }
accessed_bounds _ c = record { by = tt }

if_bounded : (b : Bool) (e : Effect) → IsBounded e → IsBounded (cond b e effect.Pass)
if_bounded true e h = h
if_bounded false e h = tt

branched_bounds : (i : Instr) (c : Cpu) → CpuFits c → Bounds (branched i c)
branched_bounds (Bx m) c h = record { by = get_fits c.regs m h.regs }
branched_bounds (Bxns m) c h = record { by = get_fits c.regs m h.regs }
branched_bounds (Blxns m) c h = record { by = get_fits c.regs m h.regs }
branched_bounds (B off) c h = record { by = wrapped_lt _ }
branched_bounds (Bl off) c h = record { by = wrapped_lt _ }
branched_bounds (Bc condition off) c h = record { by = if_bounded (condition_holds condition c.nzcvq) _ (wrapped_lt (c.pc + 4 + off)) }
branched_bounds _ c h = record { by = tt }

named_bounds : (i : Instr) (c : Cpu) → CpuFits c → Bounds (named i c)
named_bounds (Msr s n) c h = record { by = get_fits c.regs n h.regs }
named_bounds (Mrs d s) c h = record { by = special_of_lt s c h }
named_bounds (Tt d n) c h = record { by = target_lt (get_of c.regs n) }
named_bounds (Ttt d n) c h = record { by = target_lt (get_of c.regs n) }
named_bounds (Tta d n) c h = record { by = target_lt (get_of c.regs n) }
named_bounds (Ttat d n) c h = record { by = target_lt (get_of c.regs n) }
named_bounds _ c h = record { by = tt }

-- the effect of an instruction in range
pub effect_bounded : (i : Instr) (c : Cpu) → CpuFits c → in_range_of i ≡ true → IsBounded (effect_of i c)
unfolding effect_of
effect_bounded i c h r =
    or_bounded (moved i c) _ (moved_bounds i c h r)
    (or_bounded (computed i c) _ (computed_bounds i c h)
    (or_bounded (bitwise i c) _ (bitwise_bounds i c h)
    (or_bounded (accessed i c) _ (accessed_bounds i c) (or_bounded (branched i c) _ (branched_bounds i c h) (or_bounded (named i c) effect.Pass (named_bounds i c h) tt)))))
