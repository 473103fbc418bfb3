use Rattle.ns_turns.proofs.UnseenLaws as laws
use Rattle.ns_turns.proofs.laws.unseen.Goals as goal

pub returns : goal.returns
returns c device enters run refines ignores fits = laws.unseen device enters run refines ignores fits
