-- Words of a function's frame.
use Rattle.std.specs.Prelude.{ℕ, zero, suc, max, List, [], ◌∷◌}
use Rattle.live.specs.declared.places.Where.{Where}
use Rattle.live.specs.declared.places.Where.TheVariants.{Register, Frame}

-- so many words, from one of this number on
abbrev pub words : ℕ → ℕ → List Where
words n zero = []
words n (suc k) = Frame n ∷ words (suc n) k

-- the words up to the greatest that these places name
abbrev pub frame_size : List Where → ℕ
frame_size [] = 0
frame_size (Register r ∷ ps) = frame_size ps
frame_size (Frame i ∷ ps) = max (suc i) (frame_size ps)
