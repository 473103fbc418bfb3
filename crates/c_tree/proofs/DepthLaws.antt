-- Operands hold one value at least.
use Rattle.std.proofs.Common.{ℕ, ◌+◌, ◌≤◌, List, [], ◌∷◌, arith}
use Rattle.c_tree.specs.Depth.{held}

pub held_least : (before : ℕ) (ds : List ℕ) → 1 ≤ held before ds
held_least before [] = omega arith
held_least before (d ∷ ds) = let least : 1 ≤ held (before + 1) ds = held_least (before + 1) ds in omega arith
