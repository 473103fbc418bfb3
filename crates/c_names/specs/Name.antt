-- Names of a source (C11 6.4.2.1, without universal character names).
use Rattle.std.specs.Prelude.{ℕ, ◌==◌, Bool, false, ◌&&◌, ◌||◌, nat_le, List, [], ◌∷◌, length}
use Rattle.std.specs.List.{list_all}

abbrev pub within : ℕ → ℕ → ℕ → Bool
within low high b = nat_le low b && nat_le b high

-- A to Z, a to z and _
unfoldable pub is_letter : ℕ → Bool
is_letter b = within 65 90 b || within 97 122 b || b == 95

-- 0 to 9
unfoldable pub is_digit : ℕ → Bool
is_digit b = within 48 57 b

-- what may follow in a name
unfoldable pub is_name_byte : ℕ → Bool
is_name_byte b = is_letter b || is_digit b

-- a letter or _, then letters, digits and _, at most 255 bytes in all
unfoldable pub is_name : List ℕ → Bool
is_name [] = false
is_name (b ∷ bs) = is_letter b && list_all is_name_byte bs && nat_le (length (b ∷ bs)) 255
