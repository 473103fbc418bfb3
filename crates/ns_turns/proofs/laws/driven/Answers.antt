use Rattle.std.proofs.Common.{refl}
use Rattle.v8m_core.specs.Step.{step_of, turn_of}
use Rattle.ns_turns.proofs.RunLaws.{run_step, run_turn, run_waits, run_is_over}
use Rattle.ns_turns.proofs.laws.driven.Goals as goal

pub returns-clause-step : goal.returns-clause-step
returns-clause-step c device n ts s side = run_step device n ts s (step_of device s) side refl

pub returns-clause-turn : goal.returns-clause-turn
returns-clause-turn c device n t ts s side = run_turn device n t ts s (turn_of device t s) side refl

pub returns-clause-waits : goal.returns-clause-waits
returns-clause-waits c device n s side = run_waits device n s side

pub returns-clause-stopped : goal.returns-clause-stopped
returns-clause-stopped c device n ts s x side = run_is_over device n ts s x side
