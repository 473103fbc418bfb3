use Rattle.ns_turns.proofs.SightLaws.{two_worlds}
use Rattle.ns_turns.proofs.laws.two_worlds.Goals as goal

pub returns : goal.returns
returns c device enters run refines told = two_worlds device enters run refines told
