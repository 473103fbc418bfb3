use Rattle.std.proofs.Common.{◌≡◌, ◌<◌, ◌≤◌, ℕ, List, [], ◌∷◌, length, drop, min, refl, ap, ◌∙◌, ⊎_elim, arith}
use Rattle.std.specs.Prelude.{nat_eq}
use Rattle.std.specs.List.{common_prefix_len}
use Rattle.std.proofs.lemmas.Bool.{cases_lt}
use Rattle.std.proofs.lemmas.List.{drop_all}
use Rattle.elf_object.proofs.read.common_len.Goals as goal

none_right : (xs : List ℕ) → common_prefix_len nat_eq xs [] ≡ 0
none_right [] = refl
none_right (x ∷ xs) = refl

common_end : (xs ys : List ℕ) (n : ℕ) → n ≡ min (length xs) (length ys) → common_prefix_len nat_eq (drop n xs) (drop n ys) ≡ 0
common_end xs ys n e =
    ⊎_elim
    (λ (lt : length xs < length ys). ap (λ l. common_prefix_len nat_eq l (drop n ys)) (drop_all n xs (omega arith)))
    (λ (le : length ys ≤ length xs). ap (λ l. common_prefix_len nat_eq (drop n xs) l) (drop_all n ys (omega arith)) ∙ none_right (drop n xs))
    (cases_lt (length xs) (length ys))

pub returns : goal.returns
returns c =
    let e = common_end c.args.a.now c.args.b.now c.loop-i.i (omega arith) in
    omega (arith, c.loop-i.invariant, e)
