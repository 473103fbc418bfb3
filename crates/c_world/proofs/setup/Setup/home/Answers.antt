use Rattle.std.proofs.Common.{ap, ◌∙◌}
use Rattle.c_mean.specs.Homes.{homes}
use Rattle.c_world.specs.Setups.{Setup}
use Rattle.c_world.proofs.SetupLaws.{no_home}
use Rattle.c_world.proofs.setup.Setup.home.Goals as goal

pub returns-in-None : goal.returns-in-None
returns-in-None c plan at =
    no_home c.args.self.now plan at c.self.inside.homes c.args.n (c.self.invariant.homes_are ∙ ap (λ (s : Setup). homes s.program.globals) c.self.view_is) c.in-None.ensures.value
