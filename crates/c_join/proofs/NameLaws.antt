-- A name that stands later among names that differ is none of those before it.
use Rattle.std.proofs.Common.{◌≡◌, ℕ, zero, suc, ◌||◌, Bool, true, false, not, ◌&&◌, List, [], ◌∷◌, take, length, ◌<◌, arith, slice_get, slice_index_or, ap, sym, ◌∙◌, subst, refl, Some, true≢false, bytes_eq}
use Rattle.std.specs.List.{list_any}
use Rattle.c_tree.specs.declared.program.Extern.{Extern}
use Rattle.c_tree.specs.Conditions.{TUnit, all_differ, extern_names}
use Rattle.join_laws.specs.Keys.{unit_names}
use Rattle.join_laws.proofs.Declared.{name_same, names_equal}

among : (xs : List Extern) (m : ℕ) (x : Extern) (name : List ℕ) → name ≡ x.name → slice_get xs m ≡ Some x → list_any (bytes_eq name) (extern_names xs) ≡ true
among [] m x name e h = cc
among (y ∷ ys) zero x name e h = ap (λ b. b || list_any (bytes_eq name) (extern_names ys)) same
  where
    same : bytes_eq name y.name ≡ true
    same = let i : y ≡ x = cc in subst (λ z. bytes_eq name z ≡ true) (e ∙ ap (λ z. z.name) (sym i)) (name_same name)
among (y ∷ ys) (suc m) x name e h = by (bytes_eq name y.name) (among ys m x name e h)
  where
    by : (b : Bool) → list_any (bytes_eq name) (extern_names ys) ≡ true → (b || list_any (bytes_eq name) (extern_names ys)) ≡ true
    by true g = refl
    by false g = g

pub is_new : (xs : List Extern) (i : ℕ) (x : Extern) → all_differ (extern_names xs) ≡ true → slice_get xs i ≡ Some x → list_any (bytes_eq x.name) (extern_names (take i xs)) ≡ false
is_new [] i x d h = cc
is_new (y ∷ ys) zero x d h = refl
is_new (y ∷ ys) (suc i) x d h = by (bytes_eq x.name y.name) refl (list_any (bytes_eq y.name) (extern_names ys)) refl d (λ r. is_new ys i x r h)
  where
    by : (b : Bool) → bytes_eq x.name y.name ≡ b → (c : Bool) → list_any (bytes_eq y.name) (extern_names ys) ≡ c → (not c && all_differ (extern_names ys)) ≡ true → (all_differ (extern_names ys) ≡ true → list_any (bytes_eq x.name) (extern_names (take i ys)) ≡ false) → (b || list_any (bytes_eq x.name) (extern_names (take i ys))) ≡ false
    by false is c other e go = go (rest c e)
      where
        rest : (c : Bool) → (not c && all_differ (extern_names ys)) ≡ true → all_differ (extern_names ys) ≡ true
        rest true g = absurd (true≢false (sym g))
        rest false g = g
    by true is true other e go = absurd (true≢false (sym e))
    by true is false other e go = absurd (true≢false (sym (among ys i x y.name (sym (names_equal x.name y.name is)) h) ∙ other))

pub item_at : (xs : List Extern) (i : ℕ) (x : Extern) → i < length xs → x ≡ slice_index_or xs i x → slice_get xs i ≡ Some x
item_at [] i x lt is = absurd (omega arith)
item_at (y ∷ ys) zero x lt is = ap Some (sym is)
item_at (y ∷ ys) (suc i) x lt is = item_at ys i x (omega arith) is

pub unit_names_take : (us : List TUnit) (n : ℕ) → take n (unit_names us) ≡ unit_names (take n us)
unit_names_take [] zero = refl
unit_names_take [] (suc n) = refl
unit_names_take (u ∷ us) zero = refl
unit_names_take (u ∷ us) (suc n) = ap (λ ns. extern_names u.externs ∷ ns) (unit_names_take us n)
