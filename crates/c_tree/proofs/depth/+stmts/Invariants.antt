use Rattle.std.proofs.Common.{◌≡◌, drop, max}
use Rattle.c_tree.specs.Limits.{capped}
use Rattle.c_tree.specs.Depth.{stmts_depth, parts_depth}
use Rattle.c_tree.proofs.depth.+stmts.Given as goal

abbrev pub invariant-stmts_depth-loop-s : goal.invariant-stmts_depth-loop-s
invariant-stmts_depth-loop-s l = max l.most (capped (stmts_depth (drop l.s-index l.list))) ≡ capped (stmts_depth l.list)

abbrev pub invariant-parts_depth-loop-part : goal.invariant-parts_depth-loop-part
invariant-parts_depth-loop-part l = max l.most (capped (parts_depth (drop l.part-index l.parts))) ≡ capped (parts_depth l.parts)
