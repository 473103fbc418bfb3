use Rattle.std.proofs.Common.{◌≡◌, ◌+◌, ◌-◌, ◌*◌, ◌++◌, not, filter}
use Rattle.veneer_link.specs.Assign.{is_taken, places_from}
use Rattle.veneer_link.proofs.lists.free_from.Given as goal

abbrev pub invariant-loop-i : goal.invariant-loop-i
invariant-loop-i l = record {
  free : l.free ++ filter (λ a. not (is_taken l.old a)) (places_from (l.n - l._i) l.at) ≡ filter (λ a. not (is_taken l.old a)) (places_from l.n l.from);
  at : l.at ≡ l.from + 8 * l._i;
}
