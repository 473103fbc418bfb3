use Rattle.std.proofs.Common.{◌≡◌, take}
use Rattle.c_derive.specs.Derivations.{param_types}
use Rattle.c_derive.proofs.derivations.param_types.Given as goal

abbrev pub invariant-loop-p : goal.invariant-loop-p
invariant-loop-p l = l.done ≡ param_types (take l.p-index l.params)
