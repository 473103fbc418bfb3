-- Laws on the sizes and the places of tables.
use Rattle.std.proofs.Common.{◌≡◌, ℕ, List, ◌++◌, replicate, length, ◌+◌, ◌%◌, ◌<◌, ◌≤◌, refl, arith}
use Rattle.elf32.specs.Tables.{padding, aligned, padded}

pub aligned_is : (at : ℕ) → aligned at ≡ at + padding at
unfolding aligned
aligned_is at = refl

pub padding_below : (at : ℕ) → padding at < 4
unfolding padding
padding_below at = omega arith

pub aligned_least : (at : ℕ) → at ≤ aligned at
unfolding aligned
aligned_least at = omega arith

pub aligned_below : (at : ℕ) → aligned at < at + 4
unfolding aligned padding
aligned_below at = omega arith

pub padded_is : (at : ℕ) (part : List ℕ) → padded at part ≡ part ++ replicate (padding (at + length part)) 0
unfolding padded
padded_is at part = refl
