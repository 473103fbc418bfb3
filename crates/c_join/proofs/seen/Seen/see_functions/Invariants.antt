use Rattle.std.proofs.Common.{◌≡◌, drop}
use Rattle.join_laws.specs.Joined.{see_functions}
use Rattle.c_join.proofs.seen.Seen.see_functions.Given as goal

abbrev pub invariant-loop-f : goal.invariant-loop-f
invariant-loop-f l = see_functions l.unit l.externs l.self (drop l.f-index l.functions) ≡ see_functions l.unit l.externs l.fn.self l.functions
