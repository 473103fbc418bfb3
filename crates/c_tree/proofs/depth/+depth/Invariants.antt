use Rattle.std.proofs.Common.{◌≡◌, ◌≤◌, ◌+◌, drop, max}
use Rattle.c_tree.specs.Limits.{capped}
use Rattle.c_tree.specs.Depth.{args_depth}
use Rattle.c_tree.proofs.depth.+depth.Given as goal

abbrev pub invariant-args_depth-loop-arg : goal.invariant-args_depth-loop-arg
invariant-args_depth-loop-arg l = record {
  deepest : max l.most (capped (args_depth l.held (drop l.arg-index l.args))) ≡ capped (args_depth l.before l.args);
  counted : l.held ≡ l.before + l.arg-index;
  least : 1 ≤ l.most;
}
