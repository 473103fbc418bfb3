-- What a machine's decoder keeps.
use Rattle.std.specs.Prelude.{◌≡◌, ℕ, true, List}
use Rattle.std.specs.List.{All}
use Rattle.cm_base.specs.declared.stop.Stop.{Stop}
use Rattle.ns_types.specs.State.{Device, State}
use Rattle.ns_types.specs.Platform.{is_in_rom}
use Rattle.v8m_isa.specs.Table.{in_range_of}
use Rattle.v8m_core.specs.declared.decoder.Known.{Known}
use Rattle.v8m_core.specs.Step.{act, step_of, stopped}

-- a step at its address is this instruction
pub record IsRead (device : Device) (k : Known) : Type 0 where
  pub range : in_range_of k.instr ≡ true
  pub does : (s : State) → s.cpu.pc ≡ k.at → step_of device s ≡ act device k.instr k.size s

-- a step at an address is this instruction
pub record IsAt (device : Device) (at : ℕ) (k : Known) : Type 0 where
  pub place : k.at ≡ at
  pub read : IsRead device k

-- a step at an address stops
abbrev pub NoneAt : Device → ℕ → Stop → Type 0
NoneAt device at why = (s : State) → s.cpu.pc ≡ at → step_of device s ≡ stopped why s

-- what is kept of an address of ROM is what a step there is
pub record IsKnown (device : Device) (k : Known) : Type 0 where
  pub known : is_in_rom k.at ≡ true → IsRead device k

abbrev pub AreRead : Device → List Known → Type 0
AreRead device known = All (IsKnown device) known
