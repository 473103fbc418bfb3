-- Sets of variables: a bit vector, with a Boolean for each variable.
use Rattle.std.specs.Prelude.{ℕ, zero, suc, Bool, true, false, cond, List, [], ◌∷◌, length, replicate, slice_set, Option, Some, None}

abbrev pub Set : Type 0
Set = List Bool

-- the empty set of as many variables
abbrev pub nothing : Set → Set
nothing xs = replicate (length xs) false

abbrev pub with_one : Set → ℕ → Set
with_one xs v = slice_set xs v true

abbrev pub with_all : Set → List ℕ → Set
with_all xs [] = xs
with_all xs (v ∷ vs) = with_all (with_one xs v) vs

abbrev pub without : Set → ℕ → Set
without xs v = slice_set xs v false

-- with a variable that is set, if there is one; without it
abbrev pub with_set : Set → Option ℕ → Set
with_set xs (Some v) = with_one xs v
with_set xs None = xs

abbrev pub without_set : Set → Option ℕ → Set
without_set xs (Some v) = without xs v
without_set xs None = xs

-- the variables in a set, ascending, the first of which has this number
abbrev pub members_from : ℕ → Set → List ℕ
members_from n [] = []
members_from n (b ∷ bs) = cond b (n ∷ members_from (suc n) bs) (members_from (suc n) bs)

abbrev pub members : Set → List ℕ
members xs = members_from 0 xs

-- what is in one of two sets
abbrev pub either : Set → Set → Set
either xs ys = with_all xs (members ys)

-- with the first variables, so many
abbrev pub with_first : ℕ → Set → Set
with_first zero xs = xs
with_first (suc n) xs = with_one (with_first n xs) n
