-- Clashes: two variables that are live at one point and share a place.
use Rattle.std.specs.Prelude.{ℕ, eqb, ltb, ◌&&◌, ◌||◌, Bool, false, cond, List, [], ◌∷◌, slice_get, Option, Some, None}
use Rattle.live.specs.declared.lives.Point.{Point}
use Rattle.live.specs.declared.places.Where.{Where}
use Rattle.live.specs.declared.places.Where.TheVariants.{Register, Frame}

abbrev pub same_place : Where → Where → Bool
same_place (Register a) (Register b) = eqb a b
same_place (Register a) (Frame b) = false
same_place (Frame a) (Register b) = false
same_place (Frame a) (Frame b) = eqb a b

abbrev pub share : Option Where → Option Where → Bool
share None q = false
share (Some p) None = false
share (Some p) (Some q) = same_place p q

-- whether two variables have one place
abbrev pub shares : List Where → ℕ → ℕ → Bool
shares places v w = share (slice_get places v) (slice_get places w)

-- the first of these variables that has the place of another
abbrev pub first_sharing : List Where → ℕ → List ℕ → Option ℕ
first_sharing places v [] = None
first_sharing places v (w ∷ ws) = cond (shares places v w) (Some w) (first_sharing places v ws)

abbrev pub pair_or : ℕ → Option ℕ → Option (ℕ × ℕ) → Option (ℕ × ℕ)
pair_or v (Some w) rest = Some (v, w)
pair_or v None rest = rest

-- the least pair of ascending variables that have one place
abbrev pub pair_in : List Where → List ℕ → Option (ℕ × ℕ)
pair_in places [] = None
pair_in places (v ∷ vs) = pair_or v (first_sharing places v vs) (pair_in places vs)

-- by the first number, and then by the second
abbrev pub is_less : ℕ × ℕ → ℕ × ℕ → Bool
is_less p q = ltb p.0 q.0 || (eqb p.0 q.0 && ltb p.1 q.1)

abbrev pub lesser : Option (ℕ × ℕ) → Option (ℕ × ℕ) → Option (ℕ × ℕ)
lesser None q = q
lesser (Some p) None = Some p
lesser (Some p) (Some q) = Some (cond (is_less q p) q p)

-- the least of one that was found and of those at these points
abbrev pub least_from : List Where → Option (ℕ × ℕ) → List Point → Option (ℕ × ℕ)
least_from places found [] = found
least_from places found (p ∷ ps) = least_from places (lesser (lesser found (pair_in places p.before)) (pair_in places p.after)) ps

-- the least clash, if there is any
abbrev pub clash : List Where → List Point → Option (ℕ × ℕ)
clash places points = least_from places None points
