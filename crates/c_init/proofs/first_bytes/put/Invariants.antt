use Rattle.std.proofs.Common.{◌≡◌, ◌+◌, ◌-◌}
use Rattle.c_init.specs.Contents.{put}
use Rattle.c_init.proofs.first_bytes.put.Given as goal

-- the bytes that are left to put answer as the whole
abbrev pub invariant-loop-k : goal.invariant-loop-k
invariant-loop-k l = (l.here ≡ l.at + l._k) × (put l.count l.at l.n l.initial.bytes ≡ put (l.count - l._k) l.here l.left l.bytes)
