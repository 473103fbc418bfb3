-- The bytes of code, little endian.
use Rattle.std.specs.Prelude.{◌≡◌, true, cond, eqb, ℕ, List, [], ◌∷◌, ◌++◌}
use Rattle.cm_base.specs.LittleEndian.{le16}
use Rattle.v8m_isa.specs.declared.instr.Instr.{Instr}
use Rattle.v8m_isa.specs.Table.{in_range_of, size_of, code_of}

-- the bytes of an instruction
abbrev pub instr_bytes : Instr → List ℕ
instr_bytes i = cond (eqb (size_of i) 2) (le16 (code_of i).first) (le16 (code_of i).first ++ le16 (code_of i).second)

-- the bytes of instructions, one behind the other
abbrev pub code_bytes : List Instr → List ℕ
code_bytes [] = []
code_bytes (i ∷ is) = instr_bytes i ++ code_bytes is

-- each instruction is in its range
abbrev pub AllInRange : List Instr → Type 0
AllInRange [] = Unit {0}
AllInRange (i ∷ is) = (in_range_of i ≡ true) × AllInRange is
