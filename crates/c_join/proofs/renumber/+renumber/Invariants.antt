use Rattle.std.proofs.Common.{◌≡◌, take}
use Rattle.join_laws.specs.Renumber.{all_renumbered}
use Rattle.c_join.proofs.renumber.+renumber.Given as goal

abbrev pub invariant-renumber_all-loop-e : goal.invariant-renumber_all-loop-e
invariant-renumber_all-loop-e l = l.done ≡ all_renumbered l.numbers (take l.e-index l.es)
