-- Names in order, each once.
use Rattle.std.specs.Prelude.{ℕ, List, [], ◌∷◌, ◌++◌, if◌then◌else◌, Option, position, bytes_eq}
use Rattle.std.specs.List.{list_any}

-- the place of the name that has these bytes
abbrev pub place_of : List (List ℕ) → List ℕ → Option ℕ
place_of names text = position (λ name. bytes_eq text name) names

-- a name at the end, unless it is there already
abbrev pub added : List (List ℕ) → List ℕ → List (List ℕ)
added names text = if list_any (λ name. bytes_eq text name) names then names else (names ++ text ∷ [])
