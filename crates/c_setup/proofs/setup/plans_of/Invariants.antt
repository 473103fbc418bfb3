use Rattle.std.proofs.Common.{◌≡◌, take, map}
use Rattle.c_world.specs.Plans.{plan_of}
use Rattle.c_setup.proofs.setup.plans_of.Given as goal

abbrev pub invariant-loop-f : goal.invariant-loop-f
invariant-loop-f l = l.plans ≡ map plan_of (take l.f-index l.functions)
