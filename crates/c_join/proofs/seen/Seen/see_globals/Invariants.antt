use Rattle.std.proofs.Common.{◌≡◌, drop}
use Rattle.join_laws.specs.Joined.{see_globals}
use Rattle.c_join.proofs.seen.Seen.see_globals.Given as goal

abbrev pub invariant-loop-g : goal.invariant-loop-g
invariant-loop-g l = see_globals l.unit l.externs l.self (drop l.g-index l.globals) ≡ see_globals l.unit l.externs l.fn.self l.globals
