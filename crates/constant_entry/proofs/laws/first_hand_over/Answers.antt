use Rattle.constant_entry.proofs.OneEntry.{sealed_one}
use Rattle.constant_entry.proofs.laws.first_hand_over.Goals as goal

pub returns : goal.returns
returns c n small = sealed_one n small
