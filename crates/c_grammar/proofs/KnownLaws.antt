-- The names that a set keeps, and the list that they are seen as.
use Rattle.std.proofs.Common.{◌≡◌, ℕ, Bool, true, false, List, [], ◌∷◌, ◌++◌, map, refl, ap, ◌||◌, if◌then◌else◌}
use Rattle.std.proofs.lemmas.List.{map-append}
use Rattle.std.specs.List.{list_any}
use Rattle.std.specs.Str.{bytes_eq}
use Rattle.indexmap.specs.IndexSet.{insert_key}
use Rattle.c_grammar.specs.Tokens.{known, with_name}

module _ {V : Type 0} (items : V → List ℕ) where
  pub known_kept : (ks : List V) (x : List ℕ) → known (map items ks) x ≡ list_any (λ k. bytes_eq x (items k)) ks
  known_kept [] x = refl
  known_kept (k ∷ ks) x = ap (λ b. bytes_eq x (items k) || b) (known_kept ks x)

  pub with_kept : (ks : List V) (k : V) → map items (insert_key (λ a b. bytes_eq (items a) (items b)) ks k) ≡ with_name (map items ks) (items k)
  unfolding with_name
  with_kept ks k = go (list_any (λ y. bytes_eq (items k) (items y)) ks) refl
    where
      go : (b : Bool) → list_any (λ y. bytes_eq (items k) (items y)) ks ≡ b → map items (insert_key (λ a b. bytes_eq (items a) (items b)) ks k) ≡ with_name (map items ks) (items k)
      go true e = rw (known_kept ks (items k), e) refl
      go false e = rw (known_kept ks (items k), e) (map-append items ks (k ∷ []))
