-- The outside as the program sees it: files by their names, bytes taken, and counts of faults.
use Rattle.std.specs.Prelude.{◌≡◌, ◌≢◌, ℕ, ◌<◌, ◌⊎◌, List, [], ◌∷◌, ◌++◌, take, Option, Some, None, IsSome, option_map, option_and_then, bytes_eq, if◌then◌else◌}

-- files as pairs of name and bytes
abbrev pub Files : Type 0
Files = List (List ℕ × List ℕ)

-- the bytes of the file of this name, or None where no file has it
abbrev pub file_at : Files → List ℕ → Option (List ℕ)
file_at [] name = None
file_at (file ∷ files) name = if bytes_eq file.0 name then Some file.1 else file_at files name

-- the same files, but the one of this name holds these bytes; a new one stands at the end
abbrev pub with_file : Files → List ℕ → List ℕ → Files
with_file [] name bytes = (name, bytes) ∷ []
with_file (file ∷ files) name bytes =
    if bytes_eq file.0 name then (name, bytes) ∷ files else file ∷ with_file files name bytes

-- no two files have one name
abbrev pub NamesDiffer : Files → Type 0
NamesDiffer [] = Unit {0}
NamesDiffer (file ∷ files) = (file_at files file.0 ≡ None) × NamesDiffer files

-- the bytes of the file of this name, where the store tells its files and holds it
abbrev pub held : Option Files → List ℕ → Option (List ℕ)
held files name = option_and_then (λ told. file_at told name) files

-- where the store tells its files, it doesn't hold this one
abbrev pub IsMissing : Option Files → List ℕ → Type 0
IsMissing files name = IsSome files × (held files name ≡ None)

-- each other file is as it was
abbrev pub OthersStay : Option Files → Option Files → List ℕ → Type 0
OthersStay old new name = (other : List ℕ) → other ≢ name → held new other ≡ held old other

-- these bytes were added to what was given, where that is told
abbrev pub given_more : Option (List ℕ) → List ℕ → Option (List ℕ)
given_more given bytes = option_map (λ before. before ++ bytes) given

-- what was given has grown by the first n of these bytes, for some n
abbrev pub GrownByPrefix : Option (List ℕ) → Option (List ℕ) → List ℕ → Type 0
GrownByPrefix old new bytes = (n : ℕ) × (new ≡ given_more old (take n bytes))

-- the greatest number that a count of faults reaches
abbrev pub last_count : ℕ
last_count = 18446744073709551615

-- the count rose in a call: it is greater at the end than at the start, or it stands at its last value
abbrev pub Rose : ℕ → ℕ → Type 0
Rose old new = (old < new) ⊎ (new ≡ last_count)
