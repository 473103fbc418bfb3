-- All bytes of a range lie in a row exactly where its first and its last one do.
use Rattle.std.proofs.Common.{◌≡◌, ℕ, zero, suc, ◌+◌, true, ap, ◌∙◌, arith}
use Rattle.std.specs.Prelude.{◌&&◌, leb, ltb}
use Rattle.std.proofs.lemmas.Bool.Decides.{nat_tests}
use Rattle.ns_types.specs.Platform.{row, in_row, lies_in}
use Rattle.ns_types.specs.Range.{all_in}

-- one byte more at the end of a range that isn't empty
one_more : (from to p n : ℕ) → ((leb from (p + suc n) && ltb (p + suc n) to) && (leb from p && leb (p + suc n) to)) ≡ (leb from p && leb (p + suc (suc n)) to)
one_more from to p n = grind (arith, nat_tests)

one_byte : (from to p : ℕ) → ((leb from (p + 0) && ltb (p + 0) to) && true) ≡ (leb from p && leb (p + 1) to)
one_byte from to p = grind (arith, nat_tests)

pub all_is_ends : (k p n : ℕ) → all_in k p (suc n) ≡ lies_in k p (suc n)
all_is_ends k p zero = one_byte (row k).from (row k).to p
all_is_ends k p (suc n) = ap (λ b. in_row k (p + suc n) && b) (all_is_ends k p n) ∙ one_more (row k).from (row k).to p n
