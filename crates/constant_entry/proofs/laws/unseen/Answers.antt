use Rattle.std.proofs.Common.{[]}
use Rattle.constant_entry.proofs.OneEntry.{unseen_one}
use Rattle.constant_entry.proofs.laws.unseen.Goals as goal

pub returns : goal.returns
returns c n small = unseen_one [] n small
