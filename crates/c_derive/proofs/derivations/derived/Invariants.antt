use Rattle.std.proofs.Common.{◌≡◌, drop}
use Rattle.c_derive.specs.Derivations.{derived}
use Rattle.c_derive.proofs.derivations.derived.Given as goal

abbrev pub invariant-loop-by : goal.invariant-loop-by
invariant-loop-by l = derived l.fn.t l.all l.place ≡ derived l.t (drop l.by-index l.all) l.place
