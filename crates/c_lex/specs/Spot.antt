-- Where a byte stands, from the bytes before it.
use Rattle.std.specs.Prelude.{ℕ, ◌+◌, true, ◌&&◌, ◌==◌, List, [], ◌∷◌, if◌then◌else◌}
use Rattle.cm_base.specs.declared.place.Place.{Place}
use Rattle.c_lex.specs.declared.spot.Spot.{Spot}
use Rattle.c_lex.specs.Classes.{is_blank}

-- A text begins at line 1, column 1, the first of its line.
abbrev pub start : Spot
start = record { line = 1; col = 1; fresh = true }

-- A line feed begins the next line. Each other byte is one column, and only blanks leave what follows the first of its line.
unfoldable pub past : Spot → ℕ → Spot
past p b = if b == 10 then record { line = p.line + 1; col = 1; fresh = true } else record { line = p.line; col = p.col + 1; fresh = p.fresh && is_blank b }

-- where a byte stands that has these bytes between it and p
abbrev pub after : Spot → List ℕ → Spot
after p [] = p
after p (b ∷ bs) = after (past p b) bs

abbrev pub place_of : ℕ → Spot → Place
place_of unit p = record { unit = unit; line = p.line; col = p.col }
