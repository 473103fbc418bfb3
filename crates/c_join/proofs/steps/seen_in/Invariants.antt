use Rattle.std.proofs.Common.{◌≡◌, drop}
use Rattle.join_laws.specs.Joined.{see_units, seen_in}
use Rattle.c_join.proofs.steps.seen_in.Given as goal

abbrev pub invariant-loop-i : goal.invariant-loop-i
invariant-loop-i l = see_units l.i l.seen (drop l.i l.units) ≡ seen_in l.units
