use Rattle.std.proofs.Common.{◌≡◌, take}
use Rattle.c_tree.specs.Limits.{capped}
use Rattle.c_tree.specs.Nodes.{items_nodes}
use Rattle.c_tree.proofs.nodes.items_nodes.Given as goal

abbrev pub invariant-loop-item : goal.invariant-loop-item
invariant-loop-item l = l.n ≡ capped (items_nodes (take l.item-index l.items))
