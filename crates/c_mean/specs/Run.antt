-- A whole run of a program.
use Rattle.std.specs.Prelude.{ℕ, List}
use Rattle.ns_types.specs.declared.event.Bound.{Bound}
use Rattle.ns_types.specs.declared.event.Veneer.{Veneer}
use Rattle.ns_types.specs.declared.turn.Start.{Start}
use Rattle.ns_types.specs.State.{Memory}
use Rattle.ns_types.specs.Turns.{Turn}
use Rattle.ns_types.specs.Memory.{memory_of}
use Rattle.ns_types.specs.Veneers.{enters_of}
use Rattle.ns_types.specs.CRun.{Run, run_of, c_run}
use Rattle.c_tree.specs.Conditions.{Program}
use Rattle.c_mean.specs.Homes.{contents, with_data}
use Rattle.c_mean.specs.Calls.{meaning}

-- the memory that a program begins with: that of the start, with the initial contents of its globals
abbrev pub first_memory : Program → Start → Memory
first_memory p start = with_data (contents p.globals) (memory_of start)

-- The run of a program whose veneers an import library lists: its events with their marks, its end, and the greatest need of
-- stack.
abbrev pub program_run : Program → List Veneer → Start → List Turn → Bound → Run
program_run p veneers start ts b =
    run_of (c_run (enters_of veneers p.entries) (meaning p (enters_of veneers p.entries) b) b.turns start (first_memory p start) ts)
