use Rattle.std.proofs.Common.{◌≡◌, drop}
use Rattle.join_laws.specs.Uses.{all_uses, noted}
use Rattle.c_join.proofs.uses.+uses.Given as goal

abbrev pub invariant-note_all-loop-e : goal.invariant-note_all-loop-e
invariant-note_all-loop-e l = noted l.numbers l.externs l.first (all_uses (drop l.e-index l.es)) ≡ noted l.numbers l.externs l.fn.first (all_uses l.es)
