-- An instruction tells what it writes into Non-secure RAM where an event shows it.
use Rattle.std.specs.Prelude.{◌≡◌, ℕ, zero, suc, ◌+◌, ◌%◌, Bool, true, false, cond, not, ◌&&◌, eqb, List, [], ◌∷◌, Option, Some, None}
use Rattle.v8m_isa.specs.Decoding.{Decoded, decode_of, is_narrow}
use Rattle.ns_types.specs.declared.state.Cpu.{Cpu}
use Rattle.ns_types.specs.Turns.{Turn}
use Rattle.ns_types.specs.State.{Device, State}
use Rattle.ns_types.specs.Platform.{in_row}
use Rattle.ns_types.specs.Gateway.{fetched}
use Rattle.v8m_core.specs.declared.stepped.Stepped.{Stepped}
use Rattle.v8m_core.specs.declared.stepped.Stepped.TheVariants as what
use Rattle.v8m_core.specs.declared.effect.Effect.{Effect}
use Rattle.v8m_core.specs.declared.effect.Effect.TheVariants as effect
use Rattle.ns_types.specs.Operators.{subtract}
use Rattle.v8m_core.specs.Lists.{registers, in_list, next}
use Rattle.v8m_core.specs.Step.{effect_of, pushed_sp, step_of, turn_of}
use Rattle.ns_turns.specs.Run.{next_of}

abbrev pub is_write : Stepped → Bool
is_write what.Went = false
is_write (what.Wrote at size value) = true
is_write (what.Given view) = false
is_write (what.Stopped stop) = false

-- where no event shows a write, the step at this state leaves Non-secure RAM
abbrev pub Tells : Device → State → Type 0
Tells device s = is_write (step_of device s).what ≡ false → (step_of device s).state.memory.ns_ram ≡ s.memory.ns_ram

-- The words that a push of a list, or a call of Non-secure code, stacks lie outside Non-secure RAM: no event would show
-- them there.
abbrev pub none_in_ram : ℕ → List ℕ → ℕ → Bool
none_in_ram list [] a = true
none_in_ram list (n ∷ ns) a = cond (in_list list n) (not (in_row 1 a) && none_in_ram list ns (next a)) (none_in_ram list ns a)

abbrev pub stacks_outside : Effect → Cpu → Bool
stacks_outside (effect.Push list) c = none_in_ram list registers (pushed_sp list c)
stacks_outside (effect.Blxns v) c =
    let sp = subtract c.regs.sp 8 in cond (eqb (v % 2) 0) (not (in_row 1 sp) && not (in_row 1 (next sp))) true
stacks_outside _ c = true

-- the instruction at the program counter, as a step decodes it
abbrev pub instr_at : Device → State → Option Decoded
instr_at device s =
    let first = fetched device s.cpu.pc in
    cond (is_narrow first) (decode_of first 0) (decode_of first (fetched device (s.cpu.pc + 2)))

abbrev pub outside_or : Option Decoded → Cpu → Bool
outside_or None c = true
outside_or (Some d) c = stacks_outside (effect_of d.instr c) c

abbrev pub StacksOutside : Device → State → Type 0
StacksOutside device s = outside_or (instr_at device s) s.cpu ≡ true

-- each instruction of at most n steps from a state tells what it writes
unfoldable pub AllTell : Device → ℕ → List Turn → State → Type 0
AllTell device zero ts s = Unit {0}
AllTell device (suc n) ts s =
    next_of (λ e. Unit {0}) (λ t rest. AllTell device n rest (turn_of device t s).state) (Tells device s × AllTell device n ts (step_of device s).state) s.cpu.side ts
