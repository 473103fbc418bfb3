-- Code with labels stands in Secure ROM.
use Rattle.std.specs.Prelude.{◌≡◌, ◌≤◌, ℕ, ◌+◌, List, [], ◌∷◌, All, IsTrue}
use Rattle.v8m_isa.specs.declared.instr.Instr.{Instr}
use Rattle.v8m_isa.specs.declared.instr.Instr.TheVariants.{B, Bc}
use Rattle.v8m_isa.specs.Table.{size_of}
use Rattle.ns_types.specs.State.{Device}
use Rattle.ns_types.specs.Operators.{add}
use Rattle.v8m_core.specs.Code.{Holds}
use Rattle.asm_fix.specs.declared.asm.Asm.{Asm}
use Rattle.asm_fix.specs.declared.asm.Asm.TheVariants.{Op, Label, Jump, JumpIf}
use Rattle.asm_fix.specs.Fixed.{bytes_in, is_in_range, leads_once}

-- the conditions under which a list is fixed
pub record IsFixable (asm : List Asm) : Type 0 where
  pub range : All (λ a. IsTrue (is_in_range a)) asm
  pub once : All (λ a. IsTrue (leads_once asm a)) asm
  pub short : bytes_in asm ≤ 512000

-- From pc on stands a list, where label l is the address at l: an instruction stands at its place, a label is its place, and a
-- jump is a branch whose target is its label.
abbrev pub HasAsm : Device → (ℕ → ℕ) → ℕ → List Asm → Type 0
HasAsm device at pc [] = Unit {0}
HasAsm device at pc (Op i ∷ rest) = Holds device pc i × HasAsm device at (pc + size_of i) rest
HasAsm device at pc (Label l ∷ rest) = (at l ≡ pc) × HasAsm device at pc rest
HasAsm device at pc (Jump to ∷ rest) = ((off : ℕ) × Holds device pc (B off) × (add (pc + 4) off ≡ at to)) × HasAsm device at (pc + 4) rest
HasAsm device at pc (JumpIf c to ∷ rest) = ((off : ℕ) × Holds device pc (Bc c off) × (add (pc + 4) off ≡ at to)) × HasAsm device at (pc + 4) rest

-- where the code behind a list stands
abbrev pub past_asm : ℕ → List Asm → ℕ
past_asm pc [] = pc
past_asm pc (Op i ∷ rest) = past_asm (pc + size_of i) rest
past_asm pc (Label l ∷ rest) = past_asm pc rest
past_asm pc (Jump to ∷ rest) = past_asm (pc + 4) rest
past_asm pc (JumpIf c to ∷ rest) = past_asm (pc + 4) rest
