-- Names as the keys of a set, seen through what each key holds.
use Rattle.std.proofs.Common.{◌≡◌, ℕ, ◌+◌, Bool, true, false, ◌||◌, not, cond, nat_lt, Option, Some, None, List, [], ◌∷◌, ◌++◌, if◌then◌else◌, map, length, position, refl, sym, ap, ◌∙◌}
use Rattle.std.proofs.lemmas.List.{length-map, map-append}
use Rattle.std.specs.List.{prefix_len, list_any}

prefix_len_map : {A B : Type 0} (f : A → B) (q : B → Bool) (xs : List A) → prefix_len q (map f xs) ≡ prefix_len (λ x. q (f x)) xs
prefix_len_map f q [] = refl
prefix_len_map f q (x ∷ xs) = ap (λ n. cond (q (f x)) (1 + n) 0) (prefix_len_map f q xs)

pub position_map : {A B : Type 0} (f : A → B) (p : B → Bool) (xs : List A) → position p (map f xs) ≡ position (λ x. p (f x)) xs
position_map f p xs =
    ap (λ n. cond (nat_lt (prefix_len (λ y. not (p y)) (map f xs)) n) (Some (prefix_len (λ y. not (p y)) (map f xs))) None) (length-map xs f)
    ∙ ap (λ l. cond (nat_lt l (length xs)) (Some l) None) (prefix_len_map f (λ y. not (p y)) xs)

pub list_any_map : {A B : Type 0} (f : A → B) (p : B → Bool) (xs : List A) → list_any p (map f xs) ≡ list_any (λ x. p (f x)) xs
list_any_map f p [] = refl
list_any_map f p (x ∷ xs) = ap (λ b. p (f x) || b) (list_any_map f p xs)

map_if : {A B : Type 0} (f : A → B) (b : Bool) (xs : List A) (x : A) → map f (if b then xs else (xs ++ x ∷ [])) ≡ (if b then map f xs else (map f xs ++ f x ∷ []))
map_if f true xs x = refl
map_if f false xs x = map-append f xs (x ∷ [])

-- a key that is added unless it is there
pub added_map : {A B : Type 0} (f : A → B) (p : B → Bool) (xs : List A) (x : A) → map f (if list_any (λ y. p (f y)) xs then xs else (xs ++ x ∷ [])) ≡ (if list_any p (map f xs) then map f xs else (map f xs ++ f x ∷ []))
added_map f p xs x =
    map_if f (list_any (λ y. p (f y)) xs) xs x
    ∙ ap (λ b. if b then map f xs else (map f xs ++ f x ∷ [])) (sym (list_any_map f p xs))
