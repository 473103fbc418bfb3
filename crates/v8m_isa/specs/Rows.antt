-- The rows of the instruction table, and which row and numbers an instruction has.
use Rattle.std.specs.Prelude.{ℕ, List, [], ◌∷◌, slice_index}
use Rattle.v8m_isa.specs.declared.instr.Instr.{Instr}
use Rattle.v8m_isa.specs.declared.instr.Instr.TheVariants.{Nop, Mov, Bx, Bxns, Blxns, Udf, Sg, Movw, Movt, Addw, Subw, Add, Sub, Rsb, Cmp, And, Bic, Orr, Eor, Mvn, Lsl, Lsr, Asr, Sxtb, Sxth, Uxtb, Uxth, Mul, Mls, Sdiv, Udiv, Ldr, Ldrb, Ldrh, Ldrsb, Ldrsh, Str, Strb, Strh, Stmdb, Ldmia, B, Bl, Bc, Msr, Mrs, Tt, Ttt, Tta, Ttat}
use Rattle.v8m_isa.specs.declared.table.Opcode.{Opcode}
use Rattle.v8m_isa.specs.declared.table.Opcode.TheVariants as op
use Rattle.v8m_isa.specs.declared.table.TheConstants as rows
use Rattle.v8m_isa.specs.Form.{Row, row}

-- the rows, from which code and decoder work, in the manual's order
abbrev pub opcodes : List Opcode
opcodes =
    op.Nop ∷ op.Mov ∷ op.Bx ∷ op.Bxns ∷ op.Blxns ∷ op.Udf ∷ op.Sg ∷ op.Movw ∷ op.Movt ∷ op.Addw ∷
    op.Subw ∷ op.Add ∷ op.Sub ∷ op.Rsb ∷ op.Cmp ∷ op.And ∷ op.Bic ∷ op.Orr ∷ op.Eor ∷ op.Mvn ∷
    op.Lsl ∷ op.Lsr ∷ op.Asr ∷ op.Sxtb ∷ op.Sxth ∷ op.Uxtb ∷ op.Uxth ∷ op.Mul ∷ op.Mls ∷ op.Sdiv ∷
    op.Udiv ∷ op.Ldr ∷ op.Ldrb ∷ op.Ldrh ∷ op.Ldrsb ∷ op.Ldrsh ∷ op.Str ∷ op.Strb ∷ op.Strh ∷ op.Stmdb ∷
    op.Ldmia ∷ op.B ∷ op.Bl ∷ op.Bc ∷ op.Msr ∷ op.Mrs ∷ op.Tt ∷ op.Ttt ∷ op.Tta ∷ op.Ttat ∷ []

unfoldable pub row_of : Opcode → Row
row_of op.Nop = row rows.NOP
row_of op.Mov = row rows.MOV
row_of op.Bx = row rows.BX
row_of op.Bxns = row rows.BXNS
row_of op.Blxns = row rows.BLXNS
row_of op.Udf = row rows.UDF
row_of op.Sg = row rows.SG
row_of op.Movw = row rows.MOVW
row_of op.Movt = row rows.MOVT
row_of op.Addw = row rows.ADDW
row_of op.Subw = row rows.SUBW
row_of op.Add = row rows.ADD
row_of op.Sub = row rows.SUB
row_of op.Rsb = row rows.RSB
row_of op.Cmp = row rows.CMP
row_of op.And = row rows.AND
row_of op.Bic = row rows.BIC
row_of op.Orr = row rows.ORR
row_of op.Eor = row rows.EOR
row_of op.Mvn = row rows.MVN
row_of op.Lsl = row rows.LSL
row_of op.Lsr = row rows.LSR
row_of op.Asr = row rows.ASR
row_of op.Sxtb = row rows.SXTB
row_of op.Sxth = row rows.SXTH
row_of op.Uxtb = row rows.UXTB
row_of op.Uxth = row rows.UXTH
row_of op.Mul = row rows.MUL
row_of op.Mls = row rows.MLS
row_of op.Sdiv = row rows.SDIV
row_of op.Udiv = row rows.UDIV
row_of op.Ldr = row rows.LDR
row_of op.Ldrb = row rows.LDRB
row_of op.Ldrh = row rows.LDRH
row_of op.Ldrsb = row rows.LDRSB
row_of op.Ldrsh = row rows.LDRSH
row_of op.Str = row rows.STR
row_of op.Strb = row rows.STRB
row_of op.Strh = row rows.STRH
row_of op.Stmdb = row rows.STMDB
row_of op.Ldmia = row rows.LDMIA
row_of op.B = row rows.B
row_of op.Bl = row rows.BL
row_of op.Bc = row rows.BC
row_of op.Msr = row rows.MSR
row_of op.Mrs = row rows.MRS
row_of op.Tt = row rows.TT
row_of op.Ttt = row rows.TTT
row_of op.Tta = row rows.TTA
row_of op.Ttat = row rows.TTAT

-- the row of an instruction, and the numbers of its fields, with 0 for each blank one
unfoldable pub opcode_of : Instr → Opcode
opcode_of Nop = op.Nop
opcode_of (Mov d m) = op.Mov
opcode_of (Bx m) = op.Bx
opcode_of (Bxns m) = op.Bxns
opcode_of (Blxns m) = op.Blxns
opcode_of (Udf i) = op.Udf
opcode_of Sg = op.Sg
opcode_of (Movw d i) = op.Movw
opcode_of (Movt d i) = op.Movt
opcode_of (Addw d n i) = op.Addw
opcode_of (Subw d n i) = op.Subw
opcode_of (Add d n m) = op.Add
opcode_of (Sub d n m) = op.Sub
opcode_of (Rsb d n m) = op.Rsb
opcode_of (Cmp n m) = op.Cmp
opcode_of (And d n m) = op.And
opcode_of (Bic d n m) = op.Bic
opcode_of (Orr d n m) = op.Orr
opcode_of (Eor d n m) = op.Eor
opcode_of (Mvn d m) = op.Mvn
opcode_of (Lsl d n m) = op.Lsl
opcode_of (Lsr d n m) = op.Lsr
opcode_of (Asr d n m) = op.Asr
opcode_of (Sxtb d m) = op.Sxtb
opcode_of (Sxth d m) = op.Sxth
opcode_of (Uxtb d m) = op.Uxtb
opcode_of (Uxth d m) = op.Uxth
opcode_of (Mul d n m) = op.Mul
opcode_of (Mls d n m a) = op.Mls
opcode_of (Sdiv d n m) = op.Sdiv
opcode_of (Udiv d n m) = op.Udiv
opcode_of (Ldr t n i) = op.Ldr
opcode_of (Ldrb t n i) = op.Ldrb
opcode_of (Ldrh t n i) = op.Ldrh
opcode_of (Ldrsb t n i) = op.Ldrsb
opcode_of (Ldrsh t n i) = op.Ldrsh
opcode_of (Str t n i) = op.Str
opcode_of (Strb t n i) = op.Strb
opcode_of (Strh t n i) = op.Strh
opcode_of (Stmdb list) = op.Stmdb
opcode_of (Ldmia list) = op.Ldmia
opcode_of (B off) = op.B
opcode_of (Bl off) = op.Bl
opcode_of (Bc c off) = op.Bc
opcode_of (Msr s n) = op.Msr
opcode_of (Mrs d s) = op.Mrs
opcode_of (Tt d n) = op.Tt
opcode_of (Ttt d n) = op.Ttt
opcode_of (Tta d n) = op.Tta
opcode_of (Ttat d n) = op.Ttat

unfoldable pub numbers_of : Instr → List ℕ
numbers_of Nop = 0 ∷ 0 ∷ 0 ∷ 0 ∷ []
numbers_of (Mov d m) = d ∷ m ∷ 0 ∷ 0 ∷ []
numbers_of (Bx m) = m ∷ 0 ∷ 0 ∷ 0 ∷ []
numbers_of (Bxns m) = m ∷ 0 ∷ 0 ∷ 0 ∷ []
numbers_of (Blxns m) = m ∷ 0 ∷ 0 ∷ 0 ∷ []
numbers_of (Udf i) = i ∷ 0 ∷ 0 ∷ 0 ∷ []
numbers_of Sg = 0 ∷ 0 ∷ 0 ∷ 0 ∷ []
numbers_of (Movw d i) = d ∷ i ∷ 0 ∷ 0 ∷ []
numbers_of (Movt d i) = d ∷ i ∷ 0 ∷ 0 ∷ []
numbers_of (Addw d n i) = d ∷ n ∷ i ∷ 0 ∷ []
numbers_of (Subw d n i) = d ∷ n ∷ i ∷ 0 ∷ []
numbers_of (Add d n m) = d ∷ n ∷ m ∷ 0 ∷ []
numbers_of (Sub d n m) = d ∷ n ∷ m ∷ 0 ∷ []
numbers_of (Rsb d n m) = d ∷ n ∷ m ∷ 0 ∷ []
numbers_of (Cmp n m) = n ∷ m ∷ 0 ∷ 0 ∷ []
numbers_of (And d n m) = d ∷ n ∷ m ∷ 0 ∷ []
numbers_of (Bic d n m) = d ∷ n ∷ m ∷ 0 ∷ []
numbers_of (Orr d n m) = d ∷ n ∷ m ∷ 0 ∷ []
numbers_of (Eor d n m) = d ∷ n ∷ m ∷ 0 ∷ []
numbers_of (Mvn d m) = d ∷ m ∷ 0 ∷ 0 ∷ []
numbers_of (Lsl d n m) = d ∷ n ∷ m ∷ 0 ∷ []
numbers_of (Lsr d n m) = d ∷ n ∷ m ∷ 0 ∷ []
numbers_of (Asr d n m) = d ∷ n ∷ m ∷ 0 ∷ []
numbers_of (Sxtb d m) = d ∷ m ∷ 0 ∷ 0 ∷ []
numbers_of (Sxth d m) = d ∷ m ∷ 0 ∷ 0 ∷ []
numbers_of (Uxtb d m) = d ∷ m ∷ 0 ∷ 0 ∷ []
numbers_of (Uxth d m) = d ∷ m ∷ 0 ∷ 0 ∷ []
numbers_of (Mul d n m) = d ∷ n ∷ m ∷ 0 ∷ []
numbers_of (Mls d n m a) = d ∷ n ∷ m ∷ a ∷ []
numbers_of (Sdiv d n m) = d ∷ n ∷ m ∷ 0 ∷ []
numbers_of (Udiv d n m) = d ∷ n ∷ m ∷ 0 ∷ []
numbers_of (Ldr t n i) = t ∷ n ∷ i ∷ 0 ∷ []
numbers_of (Ldrb t n i) = t ∷ n ∷ i ∷ 0 ∷ []
numbers_of (Ldrh t n i) = t ∷ n ∷ i ∷ 0 ∷ []
numbers_of (Ldrsb t n i) = t ∷ n ∷ i ∷ 0 ∷ []
numbers_of (Ldrsh t n i) = t ∷ n ∷ i ∷ 0 ∷ []
numbers_of (Str t n i) = t ∷ n ∷ i ∷ 0 ∷ []
numbers_of (Strb t n i) = t ∷ n ∷ i ∷ 0 ∷ []
numbers_of (Strh t n i) = t ∷ n ∷ i ∷ 0 ∷ []
numbers_of (Stmdb list) = list ∷ 0 ∷ 0 ∷ 0 ∷ []
numbers_of (Ldmia list) = list ∷ 0 ∷ 0 ∷ 0 ∷ []
numbers_of (B off) = off ∷ 0 ∷ 0 ∷ 0 ∷ []
numbers_of (Bl off) = off ∷ 0 ∷ 0 ∷ 0 ∷ []
numbers_of (Bc c off) = c ∷ off ∷ 0 ∷ 0 ∷ []
numbers_of (Msr s n) = s ∷ n ∷ 0 ∷ 0 ∷ []
numbers_of (Mrs d s) = d ∷ s ∷ 0 ∷ 0 ∷ []
numbers_of (Tt d n) = d ∷ n ∷ 0 ∷ 0 ∷ []
numbers_of (Ttt d n) = d ∷ n ∷ 0 ∷ 0 ∷ []
numbers_of (Tta d n) = d ∷ n ∷ 0 ∷ 0 ∷ []
numbers_of (Ttat d n) = d ∷ n ∷ 0 ∷ 0 ∷ []

-- the instruction of a row and the numbers of its fields
unfoldable pub instr_of : Opcode → List ℕ → Instr
instr_of op.Nop v = Nop
instr_of op.Mov v = Mov (slice_index v 0) (slice_index v 1)
instr_of op.Bx v = Bx (slice_index v 0)
instr_of op.Bxns v = Bxns (slice_index v 0)
instr_of op.Blxns v = Blxns (slice_index v 0)
instr_of op.Udf v = Udf (slice_index v 0)
instr_of op.Sg v = Sg
instr_of op.Movw v = Movw (slice_index v 0) (slice_index v 1)
instr_of op.Movt v = Movt (slice_index v 0) (slice_index v 1)
instr_of op.Addw v = Addw (slice_index v 0) (slice_index v 1) (slice_index v 2)
instr_of op.Subw v = Subw (slice_index v 0) (slice_index v 1) (slice_index v 2)
instr_of op.Add v = Add (slice_index v 0) (slice_index v 1) (slice_index v 2)
instr_of op.Sub v = Sub (slice_index v 0) (slice_index v 1) (slice_index v 2)
instr_of op.Rsb v = Rsb (slice_index v 0) (slice_index v 1) (slice_index v 2)
instr_of op.Cmp v = Cmp (slice_index v 0) (slice_index v 1)
instr_of op.And v = And (slice_index v 0) (slice_index v 1) (slice_index v 2)
instr_of op.Bic v = Bic (slice_index v 0) (slice_index v 1) (slice_index v 2)
instr_of op.Orr v = Orr (slice_index v 0) (slice_index v 1) (slice_index v 2)
instr_of op.Eor v = Eor (slice_index v 0) (slice_index v 1) (slice_index v 2)
instr_of op.Mvn v = Mvn (slice_index v 0) (slice_index v 1)
instr_of op.Lsl v = Lsl (slice_index v 0) (slice_index v 1) (slice_index v 2)
instr_of op.Lsr v = Lsr (slice_index v 0) (slice_index v 1) (slice_index v 2)
instr_of op.Asr v = Asr (slice_index v 0) (slice_index v 1) (slice_index v 2)
instr_of op.Sxtb v = Sxtb (slice_index v 0) (slice_index v 1)
instr_of op.Sxth v = Sxth (slice_index v 0) (slice_index v 1)
instr_of op.Uxtb v = Uxtb (slice_index v 0) (slice_index v 1)
instr_of op.Uxth v = Uxth (slice_index v 0) (slice_index v 1)
instr_of op.Mul v = Mul (slice_index v 0) (slice_index v 1) (slice_index v 2)
instr_of op.Mls v = Mls (slice_index v 0) (slice_index v 1) (slice_index v 2) (slice_index v 3)
instr_of op.Sdiv v = Sdiv (slice_index v 0) (slice_index v 1) (slice_index v 2)
instr_of op.Udiv v = Udiv (slice_index v 0) (slice_index v 1) (slice_index v 2)
instr_of op.Ldr v = Ldr (slice_index v 0) (slice_index v 1) (slice_index v 2)
instr_of op.Ldrb v = Ldrb (slice_index v 0) (slice_index v 1) (slice_index v 2)
instr_of op.Ldrh v = Ldrh (slice_index v 0) (slice_index v 1) (slice_index v 2)
instr_of op.Ldrsb v = Ldrsb (slice_index v 0) (slice_index v 1) (slice_index v 2)
instr_of op.Ldrsh v = Ldrsh (slice_index v 0) (slice_index v 1) (slice_index v 2)
instr_of op.Str v = Str (slice_index v 0) (slice_index v 1) (slice_index v 2)
instr_of op.Strb v = Strb (slice_index v 0) (slice_index v 1) (slice_index v 2)
instr_of op.Strh v = Strh (slice_index v 0) (slice_index v 1) (slice_index v 2)
instr_of op.Stmdb v = Stmdb (slice_index v 0)
instr_of op.Ldmia v = Ldmia (slice_index v 0)
instr_of op.B v = B (slice_index v 0)
instr_of op.Bl v = Bl (slice_index v 0)
instr_of op.Bc v = Bc (slice_index v 0) (slice_index v 1)
instr_of op.Msr v = Msr (slice_index v 0) (slice_index v 1)
instr_of op.Mrs v = Mrs (slice_index v 0) (slice_index v 1)
instr_of op.Tt v = Tt (slice_index v 0) (slice_index v 1)
instr_of op.Ttt v = Ttt (slice_index v 0) (slice_index v 1)
instr_of op.Tta v = Tta (slice_index v 0) (slice_index v 1)
instr_of op.Ttat v = Ttat (slice_index v 0) (slice_index v 1)
