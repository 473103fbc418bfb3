use Rattle.ns_types.proofs.Ranges.{all_is_ends}
use Rattle.ns_types.proofs.laws.whole_range.Goals as goal

pub returns : goal.returns
returns c k p n = all_is_ends k p n
