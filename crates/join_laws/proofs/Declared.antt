-- An extern is found by its name.
use Rattle.std.proofs.Common.{◌≡◌, ℕ, zero, suc, ◌+◌, ◌||◌, Bool, true, false, not, ◌&&◌, cond, nat_lt, List, [], ◌∷◌, map, length, slice_get, ap, sym, ◌∙◌, subst, refl, None, Some, true≢false, arith, bytes_eq, ltb-false, ◌≤◌}
use Rattle.std.specs.Prelude.{option_and_then}
use Rattle.std.specs.List.{find, list_any, position_or_len}
use Rattle.std.proofs.lemmas.List.Folds.{find_at}
use Rattle.std.proofs.lemmas.Option.{slice_get_past}
use Rattle.std.proofs.lemmas.Slice.Eq.{bytes_eq-Decides}
use Rattle.c_tree.specs.declared.program.Extern.{Extern}
use Rattle.c_tree.specs.Conditions.{all_differ, declared, extern_names}

first_map : {X Y : Type 0} (p : Y → Bool) (f : X → Y) (xs : List X) → position_or_len p (map f xs) ≡ position_or_len (λ x. p (f x)) xs
first_map p f [] = refl
first_map p f (x ∷ xs) = ap (λ k. cond (not (p (f x))) (1 + k) 0) (first_map p f xs)

lengths : {X Y : Type 0} (f : X → Y) (xs : List X) → length (map f xs) ≡ length xs
lengths f [] = refl
lengths f (x ∷ xs) = ap suc (lengths f xs)

get_by : (xs : List Extern) (i n : ℕ) (b : Bool) → nat_lt i n ≡ b → n ≡ length xs → option_and_then (slice_get xs) (cond b (Some i) None) ≡ slice_get xs i
get_by xs i n true is e = refl
get_by xs i n false is e = let low : n ≤ i = ltb-false i n is in sym (slice_get_past xs i (omega arith))

pub declared_find : (xs : List Extern) (name : List ℕ) → declared xs name ≡ find (λ x. bytes_eq name x.name) xs
declared_find xs name =
    let p : List ℕ → Bool = bytes_eq name in
    get_by xs (position_or_len p (extern_names xs)) (length (extern_names xs)) (nat_lt (position_or_len p (extern_names xs)) (length (extern_names xs))) refl (lengths (λ x. x.name) xs)
    ∙ (ap (slice_get xs) (first_map p (λ x. x.name) xs) ∙ sym (find_at (λ x. p x.name) xs))

pub name_same : (a : List ℕ) → bytes_eq a a ≡ true
name_same a = (bytes_eq-Decides a a).1 refl

pub names_equal : (a b : List ℕ) → bytes_eq a b ≡ true → a ≡ b
names_equal a b h = (bytes_eq-Decides a b).0 h

-- an extern's name is among those of its list
among : (xs : List Extern) (m : ℕ) (x : Extern) (name : List ℕ) → name ≡ x.name → slice_get xs m ≡ Some x → list_any (bytes_eq name) (extern_names xs) ≡ true
among [] m x name e h = cc
among (y ∷ ys) zero x name e h = by (bytes_eq name y.name) same
  where
    same : bytes_eq name y.name ≡ true
    same = let i : y ≡ x = cc in subst (λ z. bytes_eq name z ≡ true) (e ∙ ap (λ z. z.name) (sym i)) (name_same name)

    by : (b : Bool) → b ≡ true → (b || list_any (bytes_eq name) (extern_names ys)) ≡ true
    by true g = refl
    by false g = absurd (true≢false (sym g))
among (y ∷ ys) (suc m) x name e h = by (bytes_eq name y.name) (among ys m x name e h)
  where
    by : (b : Bool) → list_any (bytes_eq name) (extern_names ys) ≡ true → (b || list_any (bytes_eq name) (extern_names ys)) ≡ true
    by true g = refl
    by false g = g

found : (xs : List Extern) (m : ℕ) (x : Extern) → all_differ (extern_names xs) ≡ true → slice_get xs m ≡ Some x → find (λ y. bytes_eq x.name y.name) xs ≡ Some x
found [] m x d h = cc
found (y ∷ ys) zero x d h = by (bytes_eq x.name y.name) same
  where
    i : y ≡ x
    i = cc

    same : bytes_eq x.name y.name ≡ true
    same = subst (λ z. bytes_eq x.name z ≡ true) (ap (λ z. z.name) (sym i)) (name_same x.name)

    by : (b : Bool) → b ≡ true → cond b (Some y) (find (λ y. bytes_eq x.name y.name) ys) ≡ Some x
    by true g = h
    by false g = absurd (true≢false (sym g))
found (y ∷ ys) (suc m) x d h = by (bytes_eq x.name y.name) refl (list_any (bytes_eq y.name) (extern_names ys)) refl d (λ r. found ys m x r h)
  where
    by : (b : Bool) → bytes_eq x.name y.name ≡ b → (c : Bool) → list_any (bytes_eq y.name) (extern_names ys) ≡ c → (not c && all_differ (extern_names ys)) ≡ true → (all_differ (extern_names ys) ≡ true → find (λ y. bytes_eq x.name y.name) ys ≡ Some x) → cond b (Some y) (find (λ y. bytes_eq x.name y.name) ys) ≡ Some x
    by false is c other e go = go (rest c e)
      where
        rest : (c : Bool) → (not c && all_differ (extern_names ys)) ≡ true → all_differ (extern_names ys) ≡ true
        rest true g = absurd (true≢false (sym g))
        rest false g = g
    by true is true other e go = absurd (true≢false (sym e))
    by true is false other e go = absurd (true≢false (sym (among ys m x y.name (sym (names_equal x.name y.name is)) h) ∙ other))

-- the extern at a place is the one of its name
pub declared_itself : (xs : List Extern) (m : ℕ) (x : Extern) → all_differ (extern_names xs) ≡ true → slice_get xs m ≡ Some x → declared xs x.name ≡ Some x
declared_itself xs m x d h = declared_find xs x.name ∙ found xs m x d h

found_at : (p : Extern → Bool) (xs : List Extern) (y : Extern) → find p xs ≡ Some y → (q : ℕ) × (slice_get xs q ≡ Some y) × (p y ≡ true)
found_at p [] y h = cc
found_at p (x ∷ xs) y h = by (p x) refl h (found_at p xs y)
  where
    by : (b : Bool) → p x ≡ b → cond b (Some x) (find p xs) ≡ Some y → (find p xs ≡ Some y → (q : ℕ) × (slice_get xs q ≡ Some y) × (p y ≡ true)) → (q : ℕ) × (slice_get (x ∷ xs) q ≡ Some y) × (p y ≡ true)
    by true is g rest = let s : x ≡ y = cc in (0, g, subst (λ z. p z ≡ true) s is)
    by false is g rest = let found = rest g in (suc found.0, found.1, found.2)

-- what is found by a name has this name
pub declared_at : (xs : List Extern) (name : List ℕ) (y : Extern) → declared xs name ≡ Some y → (q : ℕ) × (slice_get xs q ≡ Some y) × (name ≡ y.name)
declared_at xs name y h =
    let at = found_at (λ x. bytes_eq name x.name) xs y (sym (declared_find xs name) ∙ h) in
    (at.0, at.1, names_equal name y.name at.2)
