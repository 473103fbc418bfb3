use Rattle.std.proofs.Common.{◌≡◌}
use Rattle.v8m_core.specs.Code.{Comes}
use Rattle.v8m_core.specs.Known.{AreRead}
use Rattle.v8m_core.specs.Parts.{state}
use Rattle.v8m_core.proofs.machine.Machine.go_on.Given as goal

abbrev pub invariant-loop-taken : goal.invariant-loop-taken
invariant-loop-taken l = record {
  device : l.self-inside.memory.device ≡ l.fn.self.device;
  kept : AreRead l.self-inside.memory.device l.self-inside.decoder;
  steps : Comes l.fn.self.device l.taken l.fn.self.state (state l.self-inside.cpu l.self-inside.memory.memory);
}
