-- Code with labels, and the instructions that it is.
use Rattle.std.specs.Prelude.{ℕ, ◌+◌, Bool, true, cond, eqb, ltb, List, [], ◌∷◌, Option, Some, None, unwrap_or}
use Rattle.v8m_isa.specs.declared.instr.Instr.{Instr}
use Rattle.v8m_isa.specs.declared.instr.Instr.TheVariants.{B, Bc}
use Rattle.v8m_isa.specs.Table.{in_range_of, size_of}
use Rattle.v8m_isa.specs.Bytes.{instr_bytes}
use Rattle.ns_types.specs.Operators.{subtract}
use Rattle.asm_fix.specs.declared.asm.Asm.{Asm}
use Rattle.asm_fix.specs.declared.asm.Asm.TheVariants.{Op, Label, Jump, JumpIf}

-- how many bytes a member takes, and a list
abbrev pub member_size : Asm → ℕ
member_size (Op i) = size_of i
member_size (Label l) = 0
member_size (Jump to) = 4
member_size (JumpIf c to) = 4

abbrev pub bytes_in : List Asm → ℕ
bytes_in [] = 0
bytes_in (a ∷ rest) = member_size a + bytes_in rest

-- how often a label stands in a list
abbrev pub is_label : ℕ → Asm → ℕ
is_label l (Label k) = cond (eqb k l) 1 0
is_label l _ = 0

abbrev pub count : ℕ → List Asm → ℕ
count l [] = 0
count l (a ∷ rest) = is_label l a + count l rest

-- an instruction is in its range, and a condition is none but 0 to 13
abbrev pub is_in_range : Asm → Bool
is_in_range (Op i) = in_range_of i
is_in_range (JumpIf c to) = ltb c 14
is_in_range _ = true

-- the label that a member of a list jumps to stands once in it
abbrev pub leads_once : List Asm → Asm → Bool
leads_once whole (Jump to) = eqb (count to whole) 1
leads_once whole (JumpIf c to) = eqb (count to whole) 1
leads_once whole _ = true

-- The place of label l in a list whose first member stands at a place, where so far the label was found at another one, or
-- wasn't: the last one counts. Labels that jumps name stand once.
abbrev pub found_by : ℕ → Option ℕ → ℕ → Asm → Option ℕ
found_by l found at (Label k) = cond (eqb k l) (Some at) found
found_by l found at _ = found

abbrev pub label_at : ℕ → Option ℕ → ℕ → List Asm → Option ℕ
label_at l found at [] = found
label_at l found at (a ∷ rest) = label_at l (found_by l found at a) (at + member_size a) rest

abbrev pub place_of : List Asm → ℕ → ℕ
place_of asm l = unwrap_or (label_at l None 0 asm) 0

-- the instruction of a member that stands at a place, if it has one: a branch's offset counts from its place plus 4
abbrev pub instr_at : (ℕ → ℕ) → ℕ → Asm → Option Instr
instr_at place at (Op i) = Some i
instr_at place at (Label l) = None
instr_at place at (Jump to) = Some (B (subtract (place to) (at + 4)))
instr_at place at (JumpIf c to) = Some (Bc c (subtract (place to) (at + 4)))

-- an instruction, if there is one, in front of others, and its bytes
abbrev pub in_front : Option Instr → List Instr → List Instr
in_front None is = is
in_front (Some i) is = i ∷ is

abbrev pub its_bytes : Option Instr → List ℕ
its_bytes None = []
its_bytes (Some i) = instr_bytes i

abbrev pub fixed_from : (ℕ → ℕ) → ℕ → List Asm → List Instr
fixed_from place at [] = []
fixed_from place at (a ∷ rest) = in_front (instr_at place at a) (fixed_from place (at + member_size a) rest)

-- the instructions of a list
abbrev pub fixed : List Asm → List Instr
fixed asm = fixed_from (place_of asm) 0 asm
