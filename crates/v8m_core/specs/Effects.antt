-- The instruction table, row by row in groups: what an instruction does, from the registers, the flags and its address.
use Rattle.std.specs.Prelude.{ℕ, ◌+◌, ◌*◌, ◌%◌, cond, eqb, Option, Some, None, bit_and, bit_or, bit_xor}
use Rattle.cm_base.specs.declared.stop.Stop.{Stop}
use Rattle.cm_base.specs.declared.stop.Stop.TheVariants as stop
use Rattle.v8m_isa.specs.declared.instr.Instr.{Instr}
use Rattle.v8m_isa.specs.declared.instr.Instr.TheVariants.{Nop, Mov, Bx, Bxns, Blxns, Udf, Sg, Movw, Movt, Addw, Subw, Add, Sub, Rsb, Cmp, And, Bic, Orr, Eor, Mvn, Lsl, Lsr, Asr, Sxtb, Sxth, Uxtb, Uxth, Mul, Mls, Sdiv, Udiv, Ldr, Ldrb, Ldrh, Ldrsb, Ldrsh, Str, Strb, Strh, Stmdb, Ldmia, B, Bl, Bc, Msr, Mrs, Tt, Ttt, Tta, Ttat}
use Rattle.ns_types.specs.declared.state.Cpu.{Cpu}
use Rattle.ns_types.specs.State.{get_of}
use Rattle.v8m_mem.specs.Target.{target_of}
use Rattle.v8m_core.specs.declared.effect.Effect.{Effect}
use Rattle.v8m_core.specs.declared.effect.Effect.TheVariants as effect
use Rattle.ns_types.specs.Operators.{add, subtract, multiply, complement, low_bytes, to_unsigned, to_signed}
use Rattle.v8m_core.specs.Values.{shifted_left, shifted_right, shifted_with_sign, quotient, signed_quotient, compared, condition_holds}

-- the effect of a group that has the instruction, or another
abbrev pub effect_or : Option Effect → Effect → Effect
effect_or None e = e
effect_or (Some e) other = e

-- moves and extensions; SG does nothing in Secure state
abbrev pub moved : Instr → Cpu → Option Effect
moved Nop c = Some effect.Pass
moved Sg c = Some effect.Pass
moved (Mov d m) c = Some (effect.Put d (get_of c.regs m))
moved (Movw d i) c = Some (effect.Put d i)
moved (Movt d i) c = Some (effect.Put d (65536 * i + low_bytes 2 (get_of c.regs d)))
moved (Sxtb d m) c = Some (effect.Put d (to_signed 1 (get_of c.regs m)))
moved (Sxth d m) c = Some (effect.Put d (to_signed 2 (get_of c.regs m)))
moved (Uxtb d m) c = Some (effect.Put d (to_unsigned 1 (get_of c.regs m)))
moved (Uxth d m) c = Some (effect.Put d (to_unsigned 2 (get_of c.regs m)))
moved _ c = None

-- arithmetic
abbrev pub computed : Instr → Cpu → Option Effect
computed (Addw d n i) c = Some (effect.Put d (add (get_of c.regs n) i))
computed (Subw d n i) c = Some (effect.Put d (subtract (get_of c.regs n) i))
computed (Add d n m) c = Some (effect.Put d (add (get_of c.regs n) (get_of c.regs m)))
computed (Sub d n m) c = Some (effect.Put d (subtract (get_of c.regs n) (get_of c.regs m)))
computed (Rsb d n m) c = Some (effect.Put d (subtract (get_of c.regs m) (get_of c.regs n)))
computed (Cmp n m) c = Some (effect.Flags (compared (get_of c.regs n) (get_of c.regs m) c.nzcvq))
computed (Mul d n m) c = Some (effect.Put d (multiply (get_of c.regs n) (get_of c.regs m)))
computed (Mls d n m a) c = Some (effect.Put d (subtract (get_of c.regs a) (multiply (get_of c.regs n) (get_of c.regs m))))
computed (Sdiv d n m) c = Some (effect.Put d (signed_quotient (get_of c.regs n) (get_of c.regs m)))
computed (Udiv d n m) c = Some (effect.Put d (quotient (get_of c.regs n) (get_of c.regs m)))
computed _ c = None

-- bits, and shifts by the low byte of m
abbrev pub bitwise : Instr → Cpu → Option Effect
bitwise (And d n m) c = Some (effect.Put d (bit_and (get_of c.regs n) (get_of c.regs m)))
bitwise (Bic d n m) c = Some (effect.Put d (bit_and (get_of c.regs n) (complement (get_of c.regs m))))
bitwise (Orr d n m) c = Some (effect.Put d (bit_or (get_of c.regs n) (get_of c.regs m)))
bitwise (Eor d n m) c = Some (effect.Put d (bit_xor (get_of c.regs n) (get_of c.regs m)))
bitwise (Mvn d m) c = Some (effect.Put d (complement (get_of c.regs m)))
bitwise (Lsl d n m) c = Some (effect.Put d (shifted_left (get_of c.regs n) (get_of c.regs m % 256)))
bitwise (Lsr d n m) c = Some (effect.Put d (shifted_right (get_of c.regs n) (get_of c.regs m % 256)))
bitwise (Asr d n m) c = Some (effect.Put d (shifted_with_sign (get_of c.regs n) (get_of c.regs m % 256)))
bitwise _ c = None

-- loads and stores
abbrev pub accessed : Instr → Cpu → Option Effect
accessed (Ldr t n i) c = Some (effect.Load t (add (get_of c.regs n) i) 4)
accessed (Ldrb t n i) c = Some (effect.Load t (add (get_of c.regs n) i) 1)
accessed (Ldrh t n i) c = Some (effect.Load t (add (get_of c.regs n) i) 2)
accessed (Ldrsb t n i) c = Some (effect.LoadSigned t (add (get_of c.regs n) i) 1)
accessed (Ldrsh t n i) c = Some (effect.LoadSigned t (add (get_of c.regs n) i) 2)
accessed (Str t n i) c = Some (effect.Store (add (get_of c.regs n) i) 4 (get_of c.regs t))
accessed (Strb t n i) c = Some (effect.Store (add (get_of c.regs n) i) 1 (low_bytes 1 (get_of c.regs t)))
accessed (Strh t n i) c = Some (effect.Store (add (get_of c.regs n) i) 2 (low_bytes 2 (get_of c.regs t)))
accessed (Stmdb list) c = Some (effect.Push list)
accessed (Ldmia list) c = Some (effect.Pop list)
accessed _ c = None

-- the stop of UDF by its number
abbrev pub udf_stop : ℕ → Stop
udf_stop i =
    cond (eqb i 1) stop.Divide (cond (eqb i 2) stop.Outside (cond (eqb i 3) stop.Misaligned (cond (eqb i 4) stop.DataStack (cond (eqb i 5) stop.CallTarget stop.Undefined))))

-- branches; an offset counts from the address of the instruction plus 4
abbrev pub branched : Instr → Cpu → Option Effect
branched (Bx m) c = Some (effect.Bx (get_of c.regs m))
branched (Bxns m) c = Some (effect.Bxns (get_of c.regs m))
branched (Blxns m) c = Some (effect.Blxns (get_of c.regs m))
branched (Udf i) c = Some (effect.Stop (udf_stop i))
branched (B off) c = Some (effect.Jump (add (c.pc + 4) off))
branched (Bl off) c = Some (effect.Call (add (c.pc + 4) off))
branched (Bc condition off) c = Some (cond (condition_holds condition c.nzcvq) (effect.Jump (add (c.pc + 4) off)) effect.Pass)
branched _ c = None

-- a special register by its number in MRS
abbrev pub special_of : ℕ → Cpu → ℕ
special_of k c =
    cond (eqb k 0) (134217728 * (c.nzcvq % 32))
    (cond (eqb k 8) c.regs.sp (cond (eqb k 9) c.psp (cond (eqb k 10) c.msplim (cond (eqb k 11) c.psplim (cond (eqb k 136) c.msp_ns c.psp_ns)))))

-- special registers, and the answers of TT
abbrev pub named : Instr → Cpu → Option Effect
named (Msr s n) c = Some (effect.Special s (get_of c.regs n))
named (Mrs d s) c = Some (effect.Put d (special_of s c))
named (Tt d n) c = Some (effect.Put d (target_of (get_of c.regs n)))
named (Ttt d n) c = Some (effect.Put d (target_of (get_of c.regs n)))
named (Tta d n) c = Some (effect.Put d (target_of (get_of c.regs n)))
named (Ttat d n) c = Some (effect.Put d (target_of (get_of c.regs n)))
named _ c = None
