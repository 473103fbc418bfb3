use Rattle.std.proofs.Common.{◌≡◌, take}
use Rattle.c_tree.specs.Limits.{capped}
use Rattle.c_tree.specs.Nodes.{stmts_nodes, parts_nodes}
use Rattle.c_tree.proofs.nodes.+stmts.Given as goal

abbrev pub invariant-stmts_nodes-loop-s : goal.invariant-stmts_nodes-loop-s
invariant-stmts_nodes-loop-s l = l.n ≡ capped (stmts_nodes (take l.s-index l.list))

abbrev pub invariant-parts_nodes-loop-part : goal.invariant-parts_nodes-loop-part
invariant-parts_nodes-loop-part l = l.n ≡ capped (parts_nodes (take l.part-index l.parts))
