use Rattle.std.proofs.Common.{ℕ, false, ap}
use Rattle.c_world.specs.declared.plan.At.{At as Place}
use Rattle.c_world.specs.Seen.{seen}
use Rattle.c_trace.proofs.TraceLaws.{trace_is}
use Rattle.c_trace.proofs.runs.trace.Goals as goal

-- an activation whose block begins at `block`
abbrev placed : ℕ → ℕ → ℕ → Place
placed deep block top = record { deep = deep; load = 0; block = block; top = top; from_ns = false }

pub returns : goal.returns
returns c =
    let s = c.in_ok-setup.setup in
    let top = c.stack_of-top.result in
    trace_is c.args.program.now c.args.veneers.now.list c.args.start.now c.args.turns.now c.args.bound s (placed c.args.bound.deep top top) top false c.start_mark-mark.result c.in_ok-memory.memory (seen s.script c.in_ok-live.live)
    c.run.new.live c.in-Over.end c.in_ok-list-in-Over.list c.in_ok-setup.ensures (ap (placed c.args.bound.deep top) c.stack_of-top.ensures) c.start_mark-mark.ensures c.in_ok-memory.ensures (c.in_ok-live.ensures s.script)
    c.in-Over.ensures c.in_ok-list-in-Over.ensures
