-- Which entry a caller enters where, from the veneers that an import library lists and the entries of a program.
use Rattle.std.specs.Prelude.{ℕ, suc, cond, eqb, List, [], ◌∷◌, Option, Some, None, bytes_eq, option_map, option_and_then}
use Rattle.ns_types.specs.declared.event.Veneer.{Veneer}

-- the place of a name among names, the first one where it stands more than once
abbrev pub place_of : List (List ℕ) → List ℕ → Option ℕ
place_of [] name = None
place_of (n ∷ ns) name = cond (bytes_eq n name) (Some 0) (option_map suc (place_of ns name))

-- the name of the veneer at an address, of the first one where there are more
abbrev pub name_at : List Veneer → ℕ → Option (List ℕ)
name_at [] a = None
name_at (v ∷ vs) a = cond (eqb a v.address) (Some v.name) (name_at vs a)

-- the entry that a branch to an address enters, by its place among the names of the program's entries
abbrev pub enters_of : List Veneer → List (List ℕ) → ℕ → Option ℕ
enters_of veneers entries a = option_and_then (λ name. place_of entries name) (name_at veneers a)
