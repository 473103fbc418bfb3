use Rattle.std.proofs.Common.{◌≡◌, drop}
use Rattle.std.specs.Prelude.{None}
use Rattle.join_laws.specs.Joined.{undefined_from}
use Rattle.c_join.proofs.steps.undefined_use.Given as goal

abbrev pub invariant-loop-i : goal.invariant-loop-i
invariant-loop-i l = undefined_from l.defined.functions l.defined.globals l.i l.first (drop l.i l.units) ≡ undefined_from l.defined.functions l.defined.globals 0 None l.units
