-- All bytes of a range that isn't empty.
use Rattle.std.proofs.Common.{◌≡◌, ℕ, zero, suc, ◌+◌, ◌<◌, arith}
use Rattle.ns_types.specs.Platform.{lies_in}
use Rattle.ns_types.specs.Range.{all_in}
use Rattle.ns_types.proofs.Ranges as ranges

pub all_is_ends : (k p n : ℕ) → 0 < n → all_in k p n ≡ lies_in k p n
all_is_ends k p zero some = absurd (omega arith)
all_is_ends k p (suc n) some = ranges.all_is_ends k p n
