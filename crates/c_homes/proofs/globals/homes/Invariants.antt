use Rattle.std.proofs.Common.{◌≡◌, ◌≤◌, ◌+◌, ◌*◌, ◌^◌, ◌++◌, drop}
use Rattle.std.specs.Prelude.{IsTrue}
use Rattle.c_mean.specs.Homes.{homes, homes_from}
use Rattle.c_tree.specs.Globals.{all_fit}
use Rattle.c_homes.proofs.globals.homes.Given as goal

abbrev pub invariant-loop-g : goal.invariant-loop-g
invariant-loop-g l = record {
  so_far : l.list ++ homes_from l.at l.left (drop l.g-index l.globals) ≡ homes l.globals;
  near : l.at ≤ l.g-index * 2 ^ 33;
  left_near : l.left ≤ 16000 * 2 ^ 33 + l.g-index * 2 ^ 33;
  fit : IsTrue (all_fit (drop l.g-index l.globals));
}
