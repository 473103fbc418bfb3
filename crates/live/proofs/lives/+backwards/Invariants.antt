use Rattle.std.proofs.Common.{◌≡◌, ◌-◌, drop, length, map}
use Rattle.live.specs.Live.{before_all, walk}
use Rattle.live.proofs.lives.+backwards.Given as goal

abbrev pub invariant-before_all-loop-k : goal.invariant-before_all-loop-k
invariant-before_all-loop-k l = record {
  xs : l.xs ≡ before_all (map walk (drop (length l.list - l.k) l.list)) l.after l.around;
  around : l.around ≡ l.fn.around;
}
