-- The keys of a set, seen through what each of them holds.
use Rattle.std.proofs.Common.{◌≡◌, ℕ, ◌+◌, ◌≤◌, ◌<◌, Bool, true, false, not, ◌||◌, cond, nat_lt, Option, Some, None, List, [], ◌∷◌, ◌++◌, if◌then◌else◌, map, length, position, refl, sym, ap, ◌∙◌, true≢false, arith, lt-ltb}
use Rattle.std.proofs.lemmas.List.{length-map, map-append}
use Rattle.std.specs.List.{list_any, position_or_len}

position_or_len_map : {A B : Type 0} (f : A → B) (p : B → Bool) (xs : List A) → position_or_len p (map f xs) ≡ position_or_len (λ x. p (f x)) xs
position_or_len_map f p [] = refl
position_or_len_map f p (x ∷ xs) = ap (λ n. cond (not (p (f x))) (1 + n) 0) (position_or_len_map f p xs)

pub position_map : {A B : Type 0} (f : A → B) (p : B → Bool) (xs : List A) → position p (map f xs) ≡ position (λ x. p (f x)) xs
position_map f p xs =
    ap (λ n. cond (nat_lt (position_or_len p (map f xs)) n) (Some (position_or_len p (map f xs))) None) (length-map xs f)
    ∙ ap (λ l. cond (nat_lt l (length xs)) (Some l) None) (position_or_len_map f p xs)

list_any_map : {A B : Type 0} (f : A → B) (p : B → Bool) (xs : List A) → list_any p (map f xs) ≡ list_any (λ x. p (f x)) xs
list_any_map f p [] = refl
list_any_map f p (x ∷ xs) = ap (λ b. p (f x) || b) (list_any_map f p xs)

-- a key that isn't there goes last
pub added_new : {A B : Type 0} (f : A → B) (p : B → Bool) (xs : List A) (x : A) → list_any p (map f xs) ≡ false → map f (if list_any (λ y. p (f y)) xs then xs else (xs ++ x ∷ [])) ≡ map f xs ++ f x ∷ []
added_new f p xs x h =
    ap (λ b. map f (if b then xs else (xs ++ x ∷ []))) (sym (list_any_map f p xs) ∙ h) ∙ map-append f xs (x ∷ [])

found_within : {A : Type 0} (p : A → Bool) (xs : List A) → list_any p xs ≡ true → position_or_len p xs < length xs
found_within p [] h = absurd (true≢false (sym h))
found_within p (x ∷ xs) h = by (p x) (found_within p xs) h
  where
    by : (b : Bool) → (list_any p xs ≡ true → position_or_len p xs < length xs) → (b || list_any p xs) ≡ true → cond (not b) (1 + position_or_len p xs) 0 < length (x ∷ xs)
    by true rest h = omega arith
    by false rest h = let low : position_or_len p xs < length xs = rest h in omega (arith, low)

-- what stands nowhere is none of them
pub none_there : {A : Type 0} (p : A → Bool) (xs : List A) → position p xs ≡ None → list_any p xs ≡ false
none_there p xs h = by (list_any p xs) refl
  where
    by : (b : Bool) → list_any p xs ≡ b → b ≡ false
    by false e = refl
    by true e =
        let low : position_or_len p xs < length xs = found_within p xs e in
        let found : position p xs ≡ Some (position_or_len p xs) = ap (λ b. cond b (Some (position_or_len p xs)) None) (lt-ltb (position_or_len p xs) (length xs) low) in
        let both : Some (position_or_len p xs) ≡ None = sym found ∙ h in
        cc
