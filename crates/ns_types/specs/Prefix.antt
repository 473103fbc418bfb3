-- The front of a list.
use Rattle.std.specs.Prelude.{◌≡◌, List, ◌++◌}

-- xs is the front of ys
abbrev pub IsFront : {X : Type 0} → List X → List X → Type 0
IsFront {X} xs ys = (rest : List X) × (xs ++ rest ≡ ys)
