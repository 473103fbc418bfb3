use Rattle.std.proofs.Common.{◌≡◌, ◌-◌, [], length, All}
use Rattle.cmse_build.specs.Reading.{Fits, with_segments, half, word}
use Rattle.cmse_build.proofs.load.segments_of.Given as goal

abbrev pub invariant-loop-i : goal.invariant-loop-i
invariant-loop-i l = record {
  reads : with_segments l.bytes (l._i-end - l._i) l.at l.segments ≡ with_segments l.bytes (half l.bytes 44) (word l.bytes 28) [];
  fit : All (Fits (length l.bytes)) l.segments;
}
