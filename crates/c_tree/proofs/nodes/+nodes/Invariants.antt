use Rattle.std.proofs.Common.{◌≡◌, take}
use Rattle.c_tree.specs.Limits.{capped}
use Rattle.c_tree.specs.Nodes.{all_nodes}
use Rattle.c_tree.proofs.nodes.+nodes.Given as goal

abbrev pub invariant-all_nodes-loop-e : goal.invariant-all_nodes-loop-e
invariant-all_nodes-loop-e l = l.n ≡ capped (all_nodes (take l.e-index l.es))
