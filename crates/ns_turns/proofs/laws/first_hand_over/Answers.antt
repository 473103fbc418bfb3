use Rattle.ns_turns.proofs.FirstLaws.{begins_sealed}
use Rattle.ns_turns.proofs.laws.first_hand_over.Goals as goal

pub returns : goal.returns
returns c device starts = begins_sealed device starts
