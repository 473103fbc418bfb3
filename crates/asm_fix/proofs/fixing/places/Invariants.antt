use Rattle.std.proofs.Common.{◌≡◌, ℕ, ◌+◌, ◌≤◌, None, drop}
use Rattle.std.specs.Prelude.{nat_eq}
use Rattle.std.specs.HashMap as hash
use Rattle.asm_fix.specs.Fixed.{bytes_in, label_at}
use Rattle.asm_fix.proofs.fixing.places.Given as goal

abbrev pub invariant-loop-a : goal.invariant-loop-a
invariant-loop-a l = record {
  labels : (q : ℕ) → label_at q (hash.get nat_eq l.places q) l.at (drop l.a-index l.asm) ≡ label_at q None 0 l.asm;
  at : l.at + bytes_in (drop l.a-index l.asm) ≡ bytes_in l.asm;
}
