use Rattle.std.proofs.Common.{◌≡◌, ◌≤◌, ◌*◌, ◌^◌, drop, false}
use Rattle.std.specs.Prelude.{IsTrue}
use Rattle.std.specs.List.{filter, fold}
use Rattle.c_tree.specs.Globals.{all_fit, end_after, stands}
use Rattle.c_homes.proofs.globals.end_of.Given as goal

abbrev pub invariant-loop-g : goal.invariant-loop-g
invariant-loop-g l = record {
  so_far : fold end_after l.at (filter (stands false) (drop l.g-index l.list)) ≡ fold end_after 0 (filter (stands false) l.list);
  near : l.at ≤ l.g-index * 2 ^ 33;
  fit : IsTrue (all_fit (drop l.g-index l.list));
}
