use Rattle.std.proofs.Common.{◌≡◌, drop}
use Rattle.c_define.specs.Functions as spec
use Rattle.c_define.proofs.functions.enter.Given as goal

abbrev pub invariant-loop-param : goal.invariant-loop-param
invariant-loop-param l = spec.entered (drop l.param-index l.params) l.tables ≡ spec.entered l.params l.fn.tables
