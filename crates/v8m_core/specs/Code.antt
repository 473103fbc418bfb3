-- Code in Secure ROM, and runs of it.
use Rattle.std.specs.Prelude.{◌≡◌, ℕ, zero, suc, ◌+◌, ◌⊎◌, true, List, [], ◌∷◌}
use Rattle.v8m_isa.specs.declared.instr.Instr.{Instr}
use Rattle.v8m_isa.specs.Table.{in_range_of, size_of, code_of}
use Rattle.ns_types.specs.State.{Device, State}
use Rattle.ns_types.specs.Platform.{is_in_rom}
use Rattle.ns_types.specs.Gateway.{fetched}
use Rattle.v8m_core.specs.Step.{went, act, step_of}

-- an instruction stands at an address of Secure ROM
pub record Holds (device : Device) (pc : ℕ) (i : Instr) : Type 0 where
  pub range : in_range_of i ≡ true
  pub place : is_in_rom pc ≡ true
  pub first : fetched device pc ≡ (code_of i).first
  pub second : (size_of i ≡ 2) ⊎ ((is_in_rom (pc + 2) ≡ true) × (fetched device (pc + 2) ≡ (code_of i).second))

-- these instructions stand one after another from an address
abbrev pub HasCode : Device → ℕ → List Instr → Type 0
HasCode device pc [] = Unit {0}
HasCode device pc (i ∷ is) = Holds device pc i × HasCode device (pc + size_of i) is

-- where the code behind a piece of code stands
abbrev pub past : ℕ → List Instr → ℕ
past pc [] = pc
past pc (i ∷ is) = past (pc + size_of i) is

-- from s, after exactly n steps that only go on, to t
abbrev pub Comes : Device → ℕ → State → State → Type 0
Comes device zero s t = s ≡ t
Comes device (suc n) s t = (u : State) × (step_of device s ≡ went u) × Comes device n u t

-- the next instruction, if there is one, stands right behind
abbrev pub Follows : List Instr → ℕ → ℕ → Type 0
Follows [] p q = Unit {0}
Follows (i ∷ is) p q = p ≡ q

-- what instructions in a row do; the last one may jump
abbrev pub Does : Device → List Instr → State → State → Type 0
Does device [] s t = s ≡ t
Does device (i ∷ is) s t = (u : State) × (act device i (size_of i) s ≡ went u) × Follows is u.cpu.pc (s.cpu.pc + size_of i) × Does device is u t
