use Rattle.std.proofs.Common.{◌≤◌, arith}
use Rattle.c_tree.specs.Depth as spec
use Rattle.c_tree.proofs.DepthLaws.{held_least}
use Rattle.c_tree.proofs.depth.+depth.Goals as goal

pub args_depth-loop-arg-init : goal.args_depth-loop-arg-init
args_depth-loop-arg-init t c = let least : 1 ≤ spec.args_depth c.args.before c.args.args.now = held_least _ _ in record { deepest = omega arith; counted = omega arith; least = omega arith }
