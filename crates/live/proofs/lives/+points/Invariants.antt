use Rattle.std.proofs.Common.{◌≡◌, ◌-◌, drop, length, map}
use Rattle.live.specs.Live.{before_all, walk}
use Rattle.live.proofs.Orders.{back_all}
use Rattle.live.proofs.lives.+points.Given as goal

abbrev pub invariant-inner_all-loop-k : goal.invariant-inner_all-loop-k
invariant-inner_all-loop-k l = record {
  xs : l.xs ≡ before_all (map walk (drop (length l.list - l.k) l.list)) l.after l.around;
  around : l.around ≡ l.fn.around;
  done : l.done ≡ back_all (map walk (drop (length l.list - l.k) l.list)) l.after l.around l.fn.done;
}
