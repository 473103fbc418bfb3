use Rattle.std.proofs.Common.{◌≡◌, take}
use Rattle.std.specs.List.{flat_map}
use Rattle.ns_script.specs.Transcript.{c_event_line}
use Rattle.ns_script.proofs.transcript.print_trace.Given as goal

abbrev pub invariant-loop-event : goal.invariant-loop-event
invariant-loop-event l = l.out ≡ flat_map (c_event_line l.names) (take l.event-index l.events.list)
