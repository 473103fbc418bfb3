-- The stacks of a device where its start code hands over.
use Rattle.std.specs.Prelude.{◌≡◌, ℕ, ◌+◌, true, List, Some}
use Rattle.ns_types.specs.Turns.{Turn}
use Rattle.ns_types.specs.declared.turn.Start.{Start}
use Rattle.ns_types.specs.declared.turn.View.{View}
use Rattle.ns_types.specs.State.{Device, State}
use Rattle.ns_types.specs.Platform.{is_nonsecure}
use Rattle.ns_types.specs.Memory.{word_at, IsStart}
use Rattle.ns_types.specs.SecureRam.{ram_place, seal_word}
use Rattle.ns_types.specs.SecureRam as ram
use Rattle.v8m_core.specs.declared.stepped.Stepped.TheVariants as what
use Rattle.v8m_core.specs.Step.{step_of}
use Rattle.v8m_core.specs.Code.{Comes}
use Rattle.v8m_core.specs.Reset.{reset_of}
use Rattle.ns_turns.specs.Moments.{machine_moments, given_state}

-- the word of Secure RAM at an address
abbrev pub secure_word : State → ℕ → ℕ
secure_word s a = word_at s.memory.secure_ram (ram_place a)

-- Both stacks are empty: their pointers stand at their seals, their limits are set, and both words of each seal stand.
-- SP is the main stack pointer.
pub record IsSealed (s : State) : Type 0 where
  pub msp : s.cpu.regs.sp ≡ ram.main_seal
  pub main_limit : s.cpu.msplim ≡ ram.main_limit
  pub psp : s.cpu.psp ≡ ram.process_seal
  pub process_limit : s.cpu.psplim ≡ ram.process_limit
  pub main_low : secure_word s ram.main_seal ≡ seal_word
  pub main_high : secure_word s (ram.main_seal + 4) ≡ seal_word
  pub process_low : secure_word s ram.process_seal ≡ seal_word
  pub process_high : secure_word s (ram.process_seal + 4) ≡ seal_word

-- the second word of Non-secure ROM, where its code begins, lies in Non-secure memory
abbrev pub BeginsOutside : Start → Type 0
BeginsOutside start = is_nonsecure (word_at start.ns_rom 4) ≡ true

-- In every run that begins there the stacks are sealed at the first hand-over, if there is one.
abbrev pub BeginsSealed : Device → Type 0
BeginsSealed device =
    (start : Start) → IsStart start → BeginsOutside start → (ts : List Turn) (n : ℕ) (s : State) → given_state (machine_moments device start ts n) 0 ≡ Some s → IsSealed s

-- From reset, steps that only go on come to one that hands over, and the stacks are sealed after it.
pub record HandsOverSealed (device : Device) (start : Start) : Type 0 where
  pub steps : ℕ
  pub last : State
  pub comes : Comes device steps (reset_of device start) last
  pub view : View
  pub handed : State
  pub hands : step_of device last ≡ record { state = handed; what = what.Given view }
  pub sealed : IsSealed handed

-- so it does over every such start
abbrev pub AlwaysHandsOverSealed : Device → Type 0
AlwaysHandsOverSealed device = (start : Start) → IsStart start → BeginsOutside start → HandsOverSealed device start
