use Rattle.std.proofs.Common.{◌≡◌, drop}
use Rattle.c_tree.specs.Placed.{marked, parts_taken, stmts_taken}
use Rattle.c_homes.proofs.marks.+stmts.Given as goal

abbrev pub invariant-mark_stmts-loop-s : goal.invariant-mark_stmts-loop-s
invariant-mark_stmts-loop-s l = marked l.marks.set (stmts_taken (drop l.s-index l.list)) ≡ marked l.fn.marks.set (stmts_taken l.list)

abbrev pub invariant-mark_parts-loop-part : goal.invariant-mark_parts-loop-part
invariant-mark_parts-loop-part l = marked l.marks.set (parts_taken (drop l.part-index l.parts)) ≡ marked l.fn.marks.set (parts_taken l.parts)
