use Rattle.std.proofs.Common.{◌≡◌, drop}
use Rattle.c_tree.specs.Placed.{all_taken, marked}
use Rattle.c_homes.proofs.marks.+marks.Given as goal

abbrev pub invariant-mark_exprs-loop-e : goal.invariant-mark_exprs-loop-e
invariant-mark_exprs-loop-e l = marked l.marks.set (all_taken (drop l.e-index l.es)) ≡ marked l.fn.marks.set (all_taken l.es)
