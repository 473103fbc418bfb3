use Rattle.std.proofs.Common.{ap, map, ◌∙◌}
use Rattle.c_world.specs.Setups.{Setup, door_of}
use Rattle.c_world.proofs.SetupLaws.{goes_elsewhere}
use Rattle.c_world.proofs.setup.Setup.goes.Goals as goal

pub returns-in-None : goal.returns-in-None
returns-in-None c =
    goes_elsewhere c.args.self.now c.self.inside.doors c.as_slice.result.now c.align-a.result c.args.target c.goes_outside.result
    (c.self.invariant.doors_are ∙ ap (λ (s : Setup). map (door_of s.program.entries) s.veneers) c.self.view_is) c.as_slice.ensures c.align-a.ensures c.in-None.ensures c.goes_outside.ensures
