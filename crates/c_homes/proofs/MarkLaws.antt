-- A mark that is set is read back, and no other changes.
use Rattle.std.proofs.Common.{◌≡◌, ◌≢◌, ℕ, ◌<◌, ◌==◌, ◌||◌, Bool, true, false, List, [], ◌∷◌, length, slice_index_or, slice_set, refl, sym, ap, ◌∙◌, arith, get_or-set_same, get_or-set_other, lt-length-set}
use Rattle.std.proofs.Math.Bool.{or-false}
use Rattle.std.proofs.lemmas.Bool.{eqb-false, eqb-true}
use Rattle.c_tree.specs.Placed.{is_in, marked}

or_swap : (a b c : Bool) → (a || (b || c)) ≡ ((b || a) || c)
or_swap true true c = refl
or_swap true false c = refl
or_swap false true c = refl
or_swap false false c = refl

mark_by : (marks : List Bool) (k n : ℕ) (b : Bool) → (k == n) ≡ b → n < length marks → slice_index_or (slice_set marks k true) n false ≡ (b || slice_index_or marks n false)
mark_by marks k n true is lt = let same : k ≡ n = eqb-true k n is in rw same (get_or-set_same marks n true false lt)
mark_by marks k n false is lt = let other : n ≢ k = λ e. eqb-false k n is (sym e) in get_or-set_other marks k n true false other

pub marked_is : (marks : List Bool) (ns : List ℕ) (n : ℕ) → n < length marks → slice_index_or (marked marks ns) n false ≡ (is_in ns n || slice_index_or marks n false)
marked_is marks [] n lt = refl
marked_is marks (k ∷ ks) n lt = marked_is (slice_set marks k true) ks n (lt-length-set marks k true lt) ∙ (ap (λ b. is_in ks n || b) (mark_by marks k n (k == n) refl lt) ∙ or_swap (is_in ks n) (k == n) (slice_index_or marks n false))

or_clear : (a b : Bool) → b ≡ false → (a || b) ≡ a
or_clear a b clear = rw clear (or-false a)

-- marks that were all clear say which numbers were marked
pub marked_from_clear : (marks : List Bool) (ns : List ℕ) → 2048 ≡ length marks → ((n : ℕ) → n < 2048 → slice_index_or marks n false ≡ false) → (n : ℕ) → n < 2048 → slice_index_or (marked marks ns) n false ≡ is_in ns n
marked_from_clear marks ns many clear n lt = let within : n < length marks = omega arith in marked_is marks ns n within ∙ or_clear (is_in ns n) (slice_index_or marks n false) (clear n lt)
