-- Code that is run from its first instruction on, with branches ahead.
use Rattle.std.specs.Prelude.{◌≡◌, ℕ, ◌+◌, List, [], ◌∷◌, take, drop}
use Rattle.v8m_isa.specs.declared.instr.Instr.{Instr}
use Rattle.v8m_isa.specs.Table.{size_of}
use Rattle.ns_types.specs.State.{Device, State}
use Rattle.v8m_core.specs.Step.{Done, went, act, step_of}
use Rattle.v8m_core.specs.Code.{Comes, past}

-- From s to t, where for each instruction that is executed the list tells how many of those behind it are passed over: 0
-- where the next one follows, and more where a branch was taken.
abbrev pub Goes : Device → List ℕ → List Instr → State → State → Type 0
Goes device [] is s t = s ≡ t
Goes device (k ∷ ks) [] s t = ⊥
Goes device (k ∷ ks) (i ∷ is) s t = (u : State) × (act device i (size_of i) s ≡ went u) × (u.cpu.pc ≡ past (s.cpu.pc + size_of i) (take k is)) × Goes device ks (drop k is) u t

-- the same as a record, so that its parts are found
pub record Path (device : Device) (ks : List ℕ) (is : List Instr) (s t : State) : Type 0 where
  pub by : Goes device ks is s t

-- the code behind a path
abbrev pub left_of : List ℕ → List Instr → List Instr
left_of [] is = is
left_of (k ∷ ks) [] = []
left_of (k ∷ ks) (i ∷ is) = left_of ks (drop k is)

-- some steps that only go on, and one more, lead from s to d
pub record Leads (device : Device) (s : State) (d : Done) : Type 0 where
  pub n : ℕ
  pub last : State
  pub on : Comes device n s last
  pub step : step_of device last ≡ d
