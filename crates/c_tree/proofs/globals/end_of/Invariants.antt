use Rattle.std.proofs.Common.{◌≡◌, ◌≤◌, ◌+◌, ◌*◌, ◌^◌, drop}
use Rattle.std.specs.Prelude.{IsTrue}
use Rattle.std.specs.List.{filter, fold}
use Rattle.c_tree.specs.Globals.{all_fit, end_after, stands}
use Rattle.c_tree.proofs.globals.end_of.Given as goal

abbrev pub invariant-loop-g : goal.invariant-loop-g
invariant-loop-g l = record {
  so_far : fold end_after l.at (filter (stands l.noinit) (drop l.g-index l.globals)) ≡ fold end_after l.from (filter (stands l.noinit) l.globals);
  near : l.at ≤ l.from + l.g-index * 2 ^ 33;
  fit : IsTrue (all_fit (drop l.g-index l.globals));
}
