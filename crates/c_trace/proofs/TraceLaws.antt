-- Whole runs.
use Rattle.std.proofs.Common.{◌≡◌, ℕ, Bool, List, refl, ap, sym, ◌∙◌}
use Rattle.ns_types.specs.Boundary.{start_mark}
use Rattle.ns_types.specs.CRun.{World, Over, c_run, run_of}
use Rattle.ns_types.specs.Marks.{events_of}
use Rattle.ns_types.specs.State.{Memory}
use Rattle.ns_types.specs.Turns.{Turn}
use Rattle.ns_types.specs.Veneers.{enters_of}
use Rattle.ns_types.specs.declared.event.Bound.{Bound}
use Rattle.ns_types.specs.declared.event.CEvent.{CEvent}
use Rattle.ns_types.specs.declared.event.End.{End}
use Rattle.ns_types.specs.declared.event.Mark.{Mark}
use Rattle.ns_types.specs.declared.event.Veneer.{Veneer}
use Rattle.ns_types.specs.declared.turn.Start.{Start}
use Rattle.c_tree.specs.Conditions.{Program}
use Rattle.c_mean.specs.Calls.{meaning}
use Rattle.c_mean.specs.Homes.{data_stack}
use Rattle.c_mean.specs.Run.{first_memory, program_run}
use Rattle.c_world.specs.declared.live.Live.{Live}
use Rattle.c_world.specs.declared.plan.At.{At as Place}
use Rattle.c_world.specs.Here.{call_at, entering}
use Rattle.c_world.specs.Seen.{seen}
use Rattle.c_world.specs.Setups.{Setup}
use Rattle.c_eval.specs.Steps.{chain_at, phase_at}
use Rattle.c_trace.specs.Trace.{first_world, run_at, told, trace_of}

-- a run of the evaluator is that of the program
pub run_is : (p : Program) (veneers : List Veneer) (start : Start) (ts : List Turn) (b : Bound) (block : ℕ) (from_ns : Bool)
    → run_at (record { program = p; veneers = veneers; script = ts; turns = b.turns }) (record { deep = b.deep; load = 0; block = block; top = data_stack p.globals; from_ns = from_ns }) (start_mark start).exit
    (first_world (start_mark start) (first_memory p start) ts)
    ≡ c_run (enters_of veneers p.entries) (meaning p (enters_of veneers p.entries) b) b.turns start (first_memory p start) ts
unfolding chain_at phase_at entering call_at
run_is p veneers start ts b block from_ns = refl

seen_events : (ts : List Turn) (x : Live) (e : End) → run_of (Over e (seen ts x)) ≡ record { list = x.events; end = e; peak = x.peak }
unfolding seen
seen_events ts x e = refl

pub trace_is : (p : Program) (veneers : List Veneer) (start : Start) (ts : List Turn) (b : Bound) (s : Setup) (at : Place) (block : ℕ) (from_ns : Bool) (mark : Mark) (memory : Memory) (first : World) (x : Live) (e : End) (list : List CEvent)
    → s ≡ record { program = p; veneers = veneers; script = ts; turns = b.turns } → at ≡ record { deep = b.deep; load = 0; block = block; top = data_stack p.globals; from_ns = from_ns } → mark ≡ start_mark start
    → memory ≡ first_memory p start → first ≡ first_world mark memory s.script → run_at s at mark.exit first ≡ Over e (seen s.script x) → list ≡ events_of x.events → record { list = list; end = e; peak = x.peak } ≡ trace_of p veneers start ts b
trace_is p veneers start ts b s at block from_ns mark memory first x e list prepared placed marked begun world over without =
    let same : run_at s at mark.exit first
    ≡ run_at (record { program = p; veneers = veneers; script = ts; turns = b.turns }) (record { deep = b.deep; load = 0; block = block; top = data_stack p.globals; from_ns = from_ns }) (start_mark start).exit
    (first_world (start_mark start) (first_memory p start) ts) =
    ap (λ (q : World). run_at s at mark.exit q) (world ∙ ap (λ (q : Setup). first_world mark memory q.script) prepared ∙ ap (λ (m : Memory). first_world mark m ts) begun)
    ∙ ap (λ (q : Mark). run_at s at q.exit (first_world q (first_memory p start) ts)) marked
    ∙ ap (λ (q : Setup). run_at q at (start_mark start).exit (first_world (start_mark start) (first_memory p start) ts)) prepared
    ∙ ap (λ (q : Place). run_at (record { program = p; veneers = veneers; script = ts; turns = b.turns }) q (start_mark start).exit (first_world (start_mark start) (first_memory p start) ts)) placed in
    let run : run_of (Over e (seen s.script x)) ≡ program_run p veneers start ts b = ap run_of (sym over ∙ same ∙ run_is p veneers start ts b block from_ns) in
    ap (λ (l : List CEvent). record { list = l; end = e; peak = x.peak }) without ∙ ap told (sym (seen_events s.script x e) ∙ run)
