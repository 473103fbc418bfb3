-- What a trace is.
use Rattle.std.specs.Prelude.{ℕ, suc, ◌*◌, List, [], ◌∷◌, length}
use Rattle.ns_types.specs.declared.event.Bound.{Bound}
use Rattle.ns_types.specs.declared.event.CEvents.{CEvents}
use Rattle.ns_types.specs.declared.event.Veneer.{Veneer}
use Rattle.ns_types.specs.declared.turn.Start.{Start}
use Rattle.ns_types.specs.declared.event.CEvent.TheVariants as c
use Rattle.ns_types.specs.declared.event.Mark.{Mark}
use Rattle.ns_types.specs.Boundary.{eight_zeros, goes_of, in_four}
use Rattle.ns_types.specs.CRun.{Outcome, Run, World, at_top}
use Rattle.ns_types.specs.State.{Memory}
use Rattle.ns_types.specs.Marks.{events_of}
use Rattle.ns_types.specs.Turns.{Turn}
use Rattle.c_tree.specs.Conditions.{Program}
use Rattle.c_mean.specs.Run.{program_run}
use Rattle.c_world.specs.declared.plan.At.{At as Place}
use Rattle.c_world.specs.Setups.{Setup, enters}
use Rattle.c_eval.specs.Steps.{chain_at, phase_at}

-- the events of a run, its end and its need of stack
abbrev pub told : Run → CEvents
told run = record { list = events_of run.list; end = run.end; peak = run.peak }

-- the trace of a program
abbrev pub trace_of : Program → List Veneer → Start → List Turn → Bound → CEvents
trace_of p veneers start ts b = told (program_run p veneers start ts b)

-- the world when the start code has run
abbrev pub first_world : Mark → Memory → List Turn → World
first_world m memory ts =
    record { turns = ts; entries = 0; events = record { event = c.Started; mark = m } ∷ []; peak = 0; memory = memory; msp_ns = m.msp_ns; psp_ns = m.psp_ns }

-- a run from there on, where Non-secure code begins at exit
abbrev pub first_chain : Setup → Place → ℕ → World → Outcome
first_chain s at exit w =
    chain_at s at (phase_at s at (length s.script)) exit eight_zeros (s.turns * suc (length s.script)) (goes_of (enters s) exit) (in_four []) w

abbrev pub run_at : Setup → Place → ℕ → World → Outcome
run_at s at exit w = at_top (first_chain s at exit w)
