use Rattle.std.proofs.Common.{◌≡◌, drop, max}
use Rattle.c_tree.specs.Limits.{capped}
use Rattle.c_tree.specs.Depth.{items_depth}
use Rattle.c_tree.proofs.depth.items_depth.Given as goal

abbrev pub invariant-loop-item : goal.invariant-loop-item
invariant-loop-item l = max l.most (capped (items_depth (drop l.item-index l.items))) ≡ capped (items_depth l.items)
