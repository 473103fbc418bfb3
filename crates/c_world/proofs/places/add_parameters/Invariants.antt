use Rattle.std.proofs.Common.{◌≡◌, ◌++◌, drop}
use Rattle.c_mean.specs.Calls.{parameters}
use Rattle.c_world.proofs.places.add_parameters.Given as goal

abbrev pub invariant-loop-x : goal.invariant-loop-x
invariant-loop-x l = record {
  counted : l.n ≡ l.x-index;
  so_far : l.list ++ parameters l.entry (drop l.x-index l.params) (drop l.x-index l.args) ≡ l.fn.list ++ parameters l.entry l.params l.args;
}
