use Rattle.std.proofs.Common.{[]}
use Rattle.constant_entry.proofs.OneEntry.{never_stops_one}
use Rattle.constant_entry.proofs.laws.never_stops.Goals as goal

pub returns : goal.returns
returns c n small = never_stops_one [] n small
