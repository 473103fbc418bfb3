-- A state by its parts, and which effects can be applied.
use Rattle.std.specs.Prelude.{◌≡◌, ℕ, Bool, true, false, cond, ◌&&◌, ◌||◌, eqb, ltb, Option, Some, None}
use Rattle.cm_base.specs.declared.stop.Stop.{Stop}
use Rattle.ns_types.specs.declared.goes.Goes.{Goes}
use Rattle.ns_types.specs.declared.goes.Goes.TheVariants.{Enter}
use Rattle.ns_types.specs.declared.state.Cpu.{Cpu}
use Rattle.ns_types.specs.State.{Memory, State}
use Rattle.ns_types.specs.Platform.{in_row}
use Rattle.v8m_core.specs.declared.stepped.Stepped.{Stepped}
use Rattle.v8m_core.specs.declared.stepped.Stepped.TheVariants.{Went, Wrote, Given, Stopped}
use Rattle.v8m_mem.specs.Rows.{is_size}
use Rattle.v8m_core.specs.declared.effect.Effect.{Effect}
use Rattle.v8m_core.specs.declared.effect.Effect.TheVariants.{Put, Load, LoadSigned, Store, Bxns, Blxns}
use Rattle.v8m_core.specs.Step.{Done, stopped}

abbrev pub state : Cpu → Memory → State
state c m = record { cpu = c; memory = m }

abbrev pub done : Cpu → Memory → Stepped → Done
done c m what = record { state = record { cpu = c; memory = m }; what = what }

-- d leads from s to t and is what, unless it stops; then t is s
abbrev pub EndsBy : Stepped → Done → State → State → Option Stop → Type 0
EndsBy what d s t None = d ≡ record { state = t; what = what }
EndsBy what d s t (Some x) = (d ≡ stopped x s) × (t ≡ s)

-- the same where no event shows it
abbrev pub Ends : Done → State → State → Option Stop → Type 0
Ends d s t why = EndsBy Went d s t why

-- the sizes of a number with a sign
abbrev pub is_short : ℕ → Bool
is_short n = eqb n 1 || eqb n 2

-- an effect writes a register of 0 to 14, and reads or writes 1, 2 or 4 bytes
abbrev pub can_apply : Effect → Bool
can_apply (Put d v) = ltb d 15
can_apply (Load t at size) = ltb t 15 && is_size size
can_apply (LoadSigned t at size) = ltb t 15 && is_short size
can_apply (Store at size v) = is_size size
can_apply _ = true

-- an effect that an event shows: a store into Non-secure RAM
abbrev pub is_shown : Effect → Bool
is_shown (Store at size v) = in_row 1 at
is_shown _ = false

-- an effect that may end in Non-secure state
abbrev pub passes_gate : Effect → Bool
passes_gate (Bxns v) = true
passes_gate (Blxns v) = true
passes_gate _ = false

-- what a step with an effect is that passes no gate and doesn't stop
abbrev pub shown : Effect → Stepped
shown (Store at size v) = cond (in_row 1 at) (Wrote at size v) Went
shown _ = Went

-- the entry that a branch enters, or 0
abbrev pub entry_of : Goes → ℕ
entry_of (Enter e) = e
entry_of _ = 0

-- a step that no event shows but a stop
abbrev pub is_quiet : Stepped → Bool
is_quiet Went = true
is_quiet (Wrote at size value) = false
is_quiet (Given view) = false
is_quiet (Stopped stop) = true
