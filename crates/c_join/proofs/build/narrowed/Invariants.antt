use Rattle.std.proofs.Common.{◌≡◌, drop, take}
use Rattle.std.specs.Prelude.{IsTrue}
use Rattle.join_laws.specs.Renumber.{all_small}
use Rattle.c_join.proofs.build.narrowed.Given as goal

abbrev pub invariant-loop-n : goal.invariant-loop-n
invariant-loop-n l = (l.done ≡ take l.n-index l.numbers) × IsTrue (all_small (drop l.n-index l.numbers))
