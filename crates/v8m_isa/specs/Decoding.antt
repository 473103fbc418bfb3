-- What two halfwords are, by the rows.
use Rattle.std.specs.Prelude.{ℕ, Bool, false, eqb, List, [], ◌∷◌, Option, Some, None, option_map}
use Rattle.v8m_isa.specs.declared.instr.Instr.{Instr}
use Rattle.v8m_isa.specs.declared.table.Opcode.{Opcode}
use Rattle.v8m_isa.specs.Form.{row_size, numbers_in}
use Rattle.v8m_isa.specs.Rows.{opcodes, row_of, instr_of}

-- an instruction that was read, and its size in bytes
pub record Decoded : Type 0 where
  pub instr : Instr
  pub size : ℕ

-- what two halfwords are by a row
unfoldable pub read_by : Opcode → ℕ → ℕ → Option Decoded
read_by o first second = option_map (λ v. record { instr = instr_of o v; size = row_size (row_of o) }) (numbers_in (row_of o) first second)

-- the first of these rows that the halfwords fit
abbrev pub or_else : Option Decoded → Option Decoded → Option Decoded
or_else None rest = rest
or_else (Some d) rest = Some d

unfoldable pub first_of : List Opcode → ℕ → ℕ → Option Decoded
first_of [] first second = None
first_of (o ∷ os) first second = or_else (read_by o first second) (first_of os first second)

-- what two halfwords are: a row of one halfword leaves the second one out
unfoldable pub decode_of : ℕ → ℕ → Option Decoded
decode_of first second = first_of opcodes first second

abbrev pub is_of_two_bytes : Option Decoded → Bool
is_of_two_bytes None = false
is_of_two_bytes (Some d) = eqb d.size 2

-- the halfword is an instruction by itself
unfoldable pub is_narrow : ℕ → Bool
is_narrow first = is_of_two_bytes (decode_of first 0)

abbrev pub pair_of : Decoded → Instr × ℕ
pair_of d = (d.instr, d.size)
