-- The veneers of a program's entries, and of one build after another (ECM0359818, Secure gateway veneers).
use Rattle.std.specs.Prelude.{◌≡◌, ◌≢◌, ℕ, ◌≤◌, true, List, [], ◌∷◌, length, map, None, All, AllPairs, Contains}
use Rattle.std.specs.List.Sorted.{IsStrictlyIncreasing}
use Rattle.ns_types.specs.declared.event.Veneer.{Veneer}
use Rattle.veneer_link.specs.Assign.{is_place, first_gone, first_misplaced, IsAssigned}

-- veneers in ascending order of address, each at a place of its own, one for each entry, under its name
pub record AreVeneersOf (entries : List (List ℕ)) (veneers : List Veneer) : Type 0 where
  pub places : All (λ v. is_place v.address ≡ true) veneers
  pub ascending : IsStrictlyIncreasing (map (λ v. v.address) veneers)
  pub named : All (λ v. Contains entries v.name) veneers
  pub listed : All (Contains (map (λ v. v.name) veneers)) entries
  pub differ : AllPairs (λ v w. v.name ≢ w.name) veneers

-- at most 512 entries with different names, and old veneers with different names, none of which is gone or misplaced
pub record CanAssign (entries : List (List ℕ)) (old : List Veneer) : Type 0 where
  pub few : length entries ≤ 512
  pub entries_differ : AllPairs (λ a b. a ≢ b) entries
  pub old_differ : AllPairs (λ v w. v.name ≢ w.name) old
  pub gone : first_gone entries old ≡ None
  pub misplaced : first_misplaced old ≡ None

abbrev pub AssignLaw : Type 0
AssignLaw = (entries : List (List ℕ)) (old new : List Veneer) → CanAssign entries old → IsAssigned entries old new → AreVeneersOf entries new

-- each old veneer stands in the new list, at its address
abbrev pub Keeps : List Veneer → List Veneer → Type 0
Keeps old new = All (Contains new) old

-- each build but the first keeps the veneers of the one before it
abbrev pub EachKeeps : List (List Veneer) → Type 0
EachKeeps [] = Unit {0}
EachKeeps (a ∷ []) = Unit {0}
EachKeeps (a ∷ b ∷ builds) = Keeps a b × EachKeeps (b ∷ builds)

abbrev pub KeepLaw : Type 0
KeepLaw = (builds : List (List Veneer)) → EachKeeps builds → AllPairs Keeps builds
