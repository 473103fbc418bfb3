use Rattle.std.proofs.Common.{◌≡◌, ◌+◌, ℕ, List, drop, length}
use Rattle.c_tree.specs.Placed.{AreMarks}
use Rattle.c_homes.specs.Blocks.{seen, with_locals}
use Rattle.c_homes.proofs.block.add_locals.Given as goal

abbrev pub invariant-loop-x : goal.invariant-loop-x
invariant-loop-x l = record {
  many : length l.block.offsets ≡ length l.fn.block.offsets + l.x-index;
  placed : (taken : List ℕ) → AreMarks l.marks.set taken → with_locals taken (seen l.block) (drop l.x-index l.xs) ≡ with_locals taken (seen l.fn.block) l.xs;
}
