-- Where the veneers of a program's entries stand, when those of an old import library keep their addresses (ECM0359818, Secure
-- gateway veneers).
use Rattle.std.specs.Prelude.{◌≡◌, ℕ, ◌+◌, ◌%◌, ◌==◌, ◌&&◌, Bool, not, nat_lt, nat_le, zero, suc, List, [], ◌∷◌, ◌++◌, filter, bytes_eq, Option, Some, None, option_map, Result, Ok, Err, if◌then◌else◌}
use Rattle.std.specs.List.{list_any}
use Rattle.std.specs.List.Sorted.{IsPermutation, IsNonDecreasingBy}
use Rattle.cm_base.specs.declared.regions.TheConstants.{NSC}
use Rattle.ns_types.specs.declared.event.Veneer.{Veneer}
use Rattle.ns_types.specs.declared.event.Veneers.{Veneers}
use Rattle.veneer_link.specs.declared.fault.LinkFault.{LinkFault}
use Rattle.veneer_link.specs.declared.fault.LinkFault.TheVariants.{Gone, BadAddress, NoMemory}

-- the veneers of an old library, or none
abbrev pub old_list : Option Veneers → List Veneer
old_list None = []
old_list (Some veneers) = veneers.list

-- whether a name is one of these
abbrev pub is_among : List (List ℕ) → List ℕ → Bool
is_among names name = list_any (λ n. bytes_eq n name) names

-- whether one of these veneers has a name
abbrev pub has_name : List Veneer → List ℕ → Bool
has_name veneers name = list_any (λ v. bytes_eq v.name name) veneers

-- whether one of these veneers stands at an address
abbrev pub is_taken : List Veneer → ℕ → Bool
is_taken veneers address = list_any (λ v. v.address == address) veneers

-- the first old veneer whose name isn't an entry
abbrev pub first_gone : List (List ℕ) → List Veneer → Option Veneer
first_gone entries [] = None
first_gone entries (v ∷ vs) = if not (is_among entries v.name) then Some v else first_gone entries vs

-- whether a veneer can stand at an address: a multiple of 8 in the Non-secure callable region
abbrev pub is_place : ℕ → Bool
is_place address = nat_le NSC.from address && (nat_lt address NSC.to && (address % 8 == 0))

-- the first of these veneers that doesn't stand at a place, or stands where one of them or of the earlier ones before it does
abbrev pub misplaced_after : List Veneer → List Veneer → Option Veneer
misplaced_after earlier [] = None
misplaced_after earlier (v ∷ vs) =
    if not (is_place v.address) then Some v
    else if is_taken earlier v.address then Some v
    else misplaced_after (earlier ++ v ∷ []) vs

abbrev pub first_misplaced : List Veneer → Option Veneer
first_misplaced old = misplaced_after [] old

-- n places of veneers from an address on, 8 bytes each
abbrev pub places_from : ℕ → ℕ → List ℕ
places_from zero a = []
places_from (suc n) a = a ∷ places_from n (a + 8)

-- as many places as the Non-secure callable region has; proofs don't compute lists of this length
unfoldable pub place_count : ℕ
place_count = 512

-- the places that no old veneer stands at, the lowest first
abbrev pub free : List Veneer → List ℕ
free old = filter (λ a. not (is_taken old a)) (places_from place_count NSC.from)

-- the entries that no old veneer has the name of, in the order of the program
abbrev pub newcomers : List (List ℕ) → List Veneer → List (List ℕ)
newcomers entries old = filter (λ name. not (has_name old name)) entries

-- a veneer for each name, at these places in their order
abbrev pub placed : List (List ℕ) → List ℕ → List Veneer
placed names [] = []
placed [] (a ∷ places) = []
placed (name ∷ names) (a ∷ places) = record { name = name; address = a } ∷ placed names places

-- The new veneers: the old ones at their addresses, and the other entries, in the order of the program, at the lowest free
-- places; all in ascending order of address.
pub record IsAssigned (entries : List (List ℕ)) (old new : List Veneer) : Type 0 where
  pub members : IsPermutation (old ++ placed (newcomers entries old) (free old)) new
  pub ascending : IsNonDecreasingBy (λ v. v.address) new

-- a fault that names this veneer
abbrev pub fault_of : Veneer → LinkFault
fault_of v = BadAddress v.name v.address

-- The answer: the new veneers, where each old name is an entry and each old veneer stands at a place of its own; else the first old
-- name that isn't an entry; and where there is none, the first old veneer that is misplaced. Memory may always run out.
abbrev pub Assigns : List (List ℕ) → List Veneer → Result Veneers LinkFault → Type 0
Assigns entries old (Ok new) =
    (first_gone entries old ≡ None) × (first_misplaced old ≡ None) × IsAssigned entries old new.list
Assigns entries old (Err (Gone name)) = option_map (λ v. v.name) (first_gone entries old) ≡ Some name
Assigns entries old (Err (BadAddress name address)) =
    (first_gone entries old ≡ None) × (option_map fault_of (first_misplaced old) ≡ Some (BadAddress name address))
Assigns entries old (Err NoMemory) = Unit {0}
