use Rattle.ns_types.proofs.BoundLaws.{extends}
use Rattle.ns_types.specs.Memory.{memory_of}
use Rattle.constant_entry.proofs.Tracked.{goes_further}
use Rattle.constant_entry.specs.Meaning.{gives}
use Rattle.constant_entry.proofs.laws.larger_bound.Goals as goal

pub returns : goal.returns
returns c enters n start ts a b within = extends (λ b. gives n b.deep) (goes_further n) enters start (memory_of start) ts a b within
