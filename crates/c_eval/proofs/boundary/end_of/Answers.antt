use Rattle.std.proofs.Common.{◌+◌, drop}
use Rattle.c_world.specs.Seen.{seen}
use Rattle.c_eval.proofs.Steps.{phase_spent, phase_waits}
use Rattle.c_eval.proofs.boundary.end_of.Goals as goal

pub returns-in-Some : goal.returns-in-Some
returns-in-Some c at =
    phase_spent c.args.setup.now at (seen c.args.setup.now.script c.args.live.now) c.in-Some.field-0.now (drop (c.args.live.now.next + 1) c.args.setup.now.script) c.in-Some.ensures.next

pub returns-in-None : goal.returns-in-None
returns-in-None c at = phase_waits c.args.setup.now at 0 (seen c.args.setup.now.script c.args.live.now) c.in-None.ensures.next
