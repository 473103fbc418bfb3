use Rattle.constant_entry.proofs.OneEntry.{worlds_one}
use Rattle.constant_entry.proofs.laws.two_worlds.Goals as goal

pub returns : goal.returns
returns c name n small = worlds_one name n small
