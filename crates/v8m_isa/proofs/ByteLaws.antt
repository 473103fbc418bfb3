-- The bytes of an instruction, by its size.
use Rattle.std.proofs.Common.{◌≡◌, cond, ◌++◌, length, sym, ap, ◌∙◌, ⊎_elim}
use Rattle.std.specs.Prelude.{eqb}
use Rattle.cm_base.specs.LittleEndian.{le16}
use Rattle.v8m_isa.specs.declared.instr.Instr.{Instr}
use Rattle.v8m_isa.specs.Table.{size_of, code_of}
use Rattle.v8m_isa.specs.Bytes.{instr_bytes}
use Rattle.v8m_isa.proofs.DecodingLaws.{size_of_two_or_four}

pub narrow_bytes : (i : Instr) → size_of i ≡ 2 → instr_bytes i ≡ le16 (code_of i).first
narrow_bytes i e = ap (λ n. cond (eqb n 2) (le16 (code_of i).first) (le16 (code_of i).first ++ le16 (code_of i).second)) e

pub wide_bytes : (i : Instr) → size_of i ≡ 4 → instr_bytes i ≡ le16 (code_of i).first ++ le16 (code_of i).second
wide_bytes i e = ap (λ n. cond (eqb n 2) (le16 (code_of i).first) (le16 (code_of i).first ++ le16 (code_of i).second)) e

pub length_bytes : (i : Instr) → length (instr_bytes i) ≡ size_of i
length_bytes i =
    ⊎_elim
    (λ e. ap length (narrow_bytes i e) ∙ sym e)
    (λ e. ap length (wide_bytes i e) ∙ sym e)
    (size_of_two_or_four i)
