use Rattle.v8m_core.specs.Reset.{reset_of}
use Rattle.ns_turns.proofs.RunLaws.{run_goes}
use Rattle.ns_turns.proofs.laws.more_steps.Goals as goal

pub returns : goal.returns
returns c device start ts n m le = run_goes device n m ts (reset_of device start) le
