use Rattle.std.proofs.Common.{◌≡◌, map, sum, take}
use Rattle.c_tree.specs.Limits.{capped}
use Rattle.c_tree.specs.Nodes.{function_nodes}
use Rattle.c_tree.proofs.nodes.program_nodes.Given as goal

abbrev pub invariant-loop-f : goal.invariant-loop-f
invariant-loop-f l = l.n ≡ capped (sum (map function_nodes (take l.f-index l.functions)))
