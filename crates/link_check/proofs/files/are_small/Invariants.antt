use Rattle.std.proofs.Common.{ℕ, List, ◌<◌, ◌^◌, length, get_or}
use Rattle.link_check.proofs.files.are_small.Given as goal

abbrev pub invariant-loop-file : goal.invariant-loop-file
invariant-loop-file l = (k : ℕ) (d : List ℕ) → k < l.file-index → length (get_or l.files k d) < 2 ^ 32
