use Rattle.std.proofs.Common.{◌≡◌}
use Rattle.ns_types.specs.Marks.{events_of}
use Rattle.c_trace.proofs.runs.without_marks.Given as goal

abbrev pub invariant-loop-marked : goal.invariant-loop-marked
invariant-loop-marked l = l.list ≡ events_of l.yielded
