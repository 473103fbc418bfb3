-- What the middle form of a program promises of its runs.
use Rattle.std.specs.Prelude.{List}
use Rattle.ns_types.specs.declared.event.Bound.{Bound}
use Rattle.ns_types.specs.declared.event.Veneer.{Veneer}
use Rattle.ns_types.specs.declared.turn.Start.{Start}
use Rattle.ns_types.specs.Turns.{Turn}
use Rattle.ns_types.specs.Alike.{AlikeRuns}
use Rattle.c_tree.specs.Conditions.{Program}
use Rattle.c_mean.specs.Run.{program_run}
use Rattle.mid_ir.specs.Whole.{mid_run}
use Rattle.lower_code.specs.Programs.{lowered}

-- a run of the middle form has the events of the program's run with their marks, and its end, and needs no more stack
abbrev pub Follows : Program → Type 0
Follows p = (veneers : List Veneer) (start : Start) (ts : List Turn) (b : Bound) → AlikeRuns (program_run p veneers start ts b) (mid_run (lowered p) veneers start ts b)
