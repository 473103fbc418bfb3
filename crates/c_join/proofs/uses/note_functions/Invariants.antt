use Rattle.std.proofs.Common.{◌≡◌, drop}
use Rattle.join_laws.specs.Uses.{functions_uses, noted}
use Rattle.c_join.proofs.uses.note_functions.Given as goal

abbrev pub invariant-loop-f : goal.invariant-loop-f
invariant-loop-f l = noted l.numbers l.externs l.first (functions_uses (drop l.f-index l.functions)) ≡ noted l.numbers l.externs l.fn.first (functions_uses l.functions)
