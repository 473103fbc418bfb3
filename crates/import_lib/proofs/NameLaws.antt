-- Where a name ends, and which names a set has.
use Rattle.std.proofs.Common.{◌≡◌, ℕ, ◌<◌, ◌==◌, ◌||◌, Bool, List, [], ◌∷◌, length, map, Some, position, refl, ap}
use Rattle.std.specs.List.{list_any}
use Rattle.std.proofs.lemmas.List.Quantifiers.{position-Some}

pub zero_within : (bytes : List ℕ) (n : ℕ) → position (λ b. b == 0) bytes ≡ Some n → n < length bytes
zero_within bytes n h = (position-Some (λ b. b == 0) bytes n 0 h).0

pub list_any_map : {A B : Type 0} (f : A → B) (p : B → Bool) (xs : List A) → list_any p (map f xs) ≡ list_any (λ x. p (f x)) xs
list_any_map f p [] = refl
list_any_map f p (x ∷ xs) = ap (λ b. p (f x) || b) (list_any_map f p xs)
