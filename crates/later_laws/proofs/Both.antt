-- `&&`, and lists of which each element passes a test.
use Rattle.std.proofs.Common.{◌≡◌, ℕ, zero, suc, Bool, true, false, ◌&&◌, List, [], ◌∷◌, ◌++◌, map, take, ap, sym, ◌∙◌, refl, true≢false, Option, None, Some, slice_get, slice_set, reverse, subst}
use Rattle.std.proofs.lemmas.List.{reverse-append}
use Rattle.std.specs.List.{list_all}

pub no : {A : Type 0} → false ≡ true → A
no h = absurd (true≢false (sym h))

pub left : (a b : Bool) → (a && b) ≡ true → a ≡ true
left true b h = refl
left false b h = h

pub right : (a b : Bool) → (a && b) ≡ true → b ≡ true
right true b h = h
right false b h = no h

pub both : {a b : Bool} → a ≡ true → b ≡ true → (a && b) ≡ true
both {a} {b} h k = ap (λ x. x && b) h ∙ k

pub is_or_not : (b : Bool) → {A : Type 0} → (b ≡ true → A) → (b ≡ false → A) → A
is_or_not true t f = t refl
is_or_not false t f = f refl

abbrev pub or_pass : {X : Type 0} → (X → Bool) → Option X → Bool
or_pass p (Some x) = p x
or_pass p None = true

pub all_get : {X : Type 0} (p : X → Bool) (xs : List X) (n : ℕ) → list_all p xs ≡ true → or_pass p (slice_get xs n) ≡ true
all_get p [] n h = refl
all_get p (x ∷ xs) zero h = left (p x) (list_all p xs) h
all_get p (x ∷ xs) (suc n) h = all_get p xs n (right (p x) (list_all p xs) h)

pub all_push : {X : Type 0} (p : X → Bool) (xs : List X) (x : X) → list_all p xs ≡ true → p x ≡ true → list_all p (xs ++ x ∷ []) ≡ true
all_push p [] x h k = both k refl
all_push p (y ∷ ys) x h k = both (left (p y) (list_all p ys) h) (all_push p ys x (right (p y) (list_all p ys) h) k)

pub all_append : {X : Type 0} (p : X → Bool) (xs ys : List X) → list_all p xs ≡ true → list_all p ys ≡ true → list_all p (xs ++ ys) ≡ true
all_append p [] ys h k = k
all_append p (x ∷ xs) ys h k = both (left (p x) (list_all p xs) h) (all_append p xs ys (right (p x) (list_all p xs) h) k)

pub all_set : {X : Type 0} (p : X → Bool) (xs : List X) (n : ℕ) (x : X) → list_all p xs ≡ true → p x ≡ true → list_all p (slice_set xs n x) ≡ true
all_set p [] n x h k = refl
all_set p (y ∷ ys) zero x h k = both k (right (p y) (list_all p ys) h)
all_set p (y ∷ ys) (suc n) x h k = both (left (p y) (list_all p ys) h) (all_set p ys n x (right (p y) (list_all p ys) h) k)

pub all_take : {X : Type 0} (p : X → Bool) (n : ℕ) (xs : List X) → list_all p xs ≡ true → list_all p (take n xs) ≡ true
all_take p zero xs h = refl
all_take p (suc n) [] h = refl
all_take p (suc n) (x ∷ xs) h = both (left (p x) (list_all p xs) h) (all_take p n xs (right (p x) (list_all p xs) h))

-- the same of a mapped list
pub all_map : {X Y : Type 0} (p : Y → Bool) (f : X → Y) (xs : List X) → list_all (λ x. p (f x)) xs ≡ list_all p (map f xs)
all_map p f [] = refl
all_map p f (x ∷ xs) = ap (λ b. p (f x) && b) (all_map p f xs)

pub all_reversed : {X : Type 0} (p : X → Bool) (xs : List X) → list_all p xs ≡ true → list_all p (reverse xs) ≡ true
all_reversed p [] h = refl
all_reversed p (x ∷ xs) h = subst (λ ys. list_all p ys ≡ true) (sym (reverse-append (x ∷ []) xs)) (all_append p (reverse xs) (x ∷ []) (all_reversed p xs (right (p x) (list_all p xs) h)) (both (left (p x) (list_all p xs) h) refl))
