use Rattle.std.proofs.Common.{◌≡◌, drop}
use Rattle.ns_turns.specs.Run.{run_of}
use Rattle.ns_turns.specs.Advance.{behind}
use Rattle.ns_turns.proofs.running.run.Given as goal

abbrev pub invariant-loop-left : goal.invariant-loop-left
invariant-loop-left l = record {
  device : l.machine.device ≡ l.fn.machine.device;
  run : run_of l.fn.machine.device l.n l.turns l.fn.machine.state ≡ behind l.list (run_of l.fn.machine.device l.left (drop l.next l.turns) l.machine.state);
}

abbrev pub decreases-loop-left : goal.decreases-loop-left
decreases-loop-left l = l.left
