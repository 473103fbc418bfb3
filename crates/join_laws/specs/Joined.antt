-- What a list of units joins to: the program, or the first fault.
use Rattle.std.specs.Prelude.{◌≡◌, ◌≤◌, ℕ, ◌+◌, ◌&&◌, ◌||◌, Bool, false, not, nat_le, List, [], ◌∷◌, ◌++◌, map, length, sum, Option, Some, None, is_some, option_map, cond, All, Result, Ok, Err}
use Rattle.std.specs.List.{filter, fold, list_any}
use Rattle.std.specs.Option.{option_or}
use Rattle.c_types.specs.Same.{same_across_units}
use Rattle.c_tree.specs.declared.program.Extern.{Extern}
use Rattle.c_tree.specs.declared.program.TFunction.{TFunction}
use Rattle.c_tree.specs.declared.program.TGlobal.{TGlobal}
use Rattle.c_tree.specs.Conditions.{IsProgram, IsUnit, Program, TUnit, declared}
use Rattle.c_tree.specs.Globals.{globals_bytes}
use Rattle.c_tree.specs.Limits.{capped}
use Rattle.c_tree.specs.Nodes.{program_nodes}
use Rattle.cm_base.specs.declared.place.Place.{Place}
use Rattle.join_laws.specs.declared.fault.JoinFault.{JoinFault}
use Rattle.join_laws.specs.declared.fault.JoinFault.TheVariants.{Named as NamedFault, Count}
use Rattle.join_laws.specs.Keys.{Key, key_of, place_of_key, per_unit, function_keys, global_keys, numbers_of}
use Rattle.join_laws.specs.Renumber.{renumbered_function}
use Rattle.join_laws.specs.Uses.{Named, earlier, functions_uses, noted}

-- ---- a name with two definitions

-- who is defined so far, functions and globals each by their numbers in the program, and the earliest of the definitions
-- that weren't the first of their name
pub record Seen : Type 0 where
  pub functions : List Key
  pub globals : List Key
  pub again : Option Named

-- somebody is defined so far
abbrev pub is_seen : Seen → Key → Bool
is_seen seen k = is_some (place_of_key seen.functions k) || is_some (place_of_key seen.globals k)

-- a definition that isn't the first of its name
abbrev pub saw_again : Seen → Key → Place → Seen
saw_again seen k place = record { functions = seen.functions; globals = seen.globals; again = earlier seen.again (record { name = k.1; place = place }) }

-- after a definition of a function, and after one of a global
abbrev pub see_function : Seen → Key → Place → Seen
see_function seen k place = cond (is_seen seen k) (saw_again seen k place) (record { functions = seen.functions ++ k ∷ []; globals = seen.globals; again = seen.again })

abbrev pub see_global : Seen → Key → Place → Seen
see_global seen k place = cond (is_seen seen k) (saw_again seen k place) (record { functions = seen.functions; globals = seen.globals ++ k ∷ []; again = seen.again })

-- after the functions of a unit with this number and these externs, and after its globals
abbrev pub see_functions : ℕ → List Extern → Seen → List TFunction → Seen
see_functions n externs = fold (λ seen f. see_function seen (key_of n externs f.name) f.place)

abbrev pub see_globals : ℕ → List Extern → Seen → List TGlobal → Seen
see_globals n externs = fold (λ seen g. see_global seen (key_of n externs g.name) g.place)

abbrev pub see_units : ℕ → Seen → List TUnit → Seen
see_units n seen [] = seen
see_units n seen (u ∷ us) = see_units (n + 1) (see_globals n u.externs (see_functions n u.externs seen u.functions) u.globals) us

abbrev pub seen_in : List TUnit → Seen
seen_in us = see_units 0 (record { functions = []; globals = []; again = None }) us

-- the earliest second definition
abbrev pub defined_twice : List TUnit → Option Named
defined_twice us = (seen_in us).again

-- ---- a name whose types differ between units

-- another unit declares this name for all units with another type
abbrev pub differs : Extern → Option Extern → Bool
differs x None = false
differs x (Some y) = not y.is_static && not (same_across_units y.ctype x.ctype)

-- the types of this name differ in an earlier unit
abbrev pub is_disputed : List TUnit → Extern → Bool
is_disputed before x = not x.is_static && list_any (λ u. differs x (declared u.externs x.name)) before

-- the first of these externs, in order of declaration, that an earlier unit declares with another type
abbrev pub first_disputed : List TUnit → List Extern → Option (List ℕ)
first_disputed before [] = None
first_disputed before (x ∷ xs) = cond (is_disputed before x) (Some x.name) (first_disputed before xs)

-- the first of all units, those before being known
abbrev pub disputed : List TUnit → List TUnit → Option (List ℕ)
disputed before [] = None
disputed before (u ∷ us) = option_or (first_disputed before u.externs) (disputed (before ++ u ∷ []) us)

-- ---- a used name without a definition

abbrev pub undefined_from : List Key → List Key → ℕ → Option Named → List TUnit → Option Named
undefined_from functions globals n best [] = best
undefined_from functions globals n best (u ∷ us) = undefined_from functions globals (n + 1) (noted (numbers_of functions globals n u.externs) u.externs best (functions_uses u.functions)) us

-- the earliest use of a name that no unit defines
abbrev pub undefined_use : List TUnit → Option Named
undefined_use us = undefined_from (function_keys us) (global_keys us) 0 None us

-- ---- the program

-- the functions of a unit with the numbers of the program
abbrev pub unit_functions : List Key → List Key → ℕ → TUnit → List TFunction
unit_functions functions globals n u = map (renumbered_function (numbers_of functions globals n u.externs)) u.functions

abbrev pub all_functions : List TUnit → List TFunction
all_functions us = per_unit (unit_functions (function_keys us) (global_keys us)) 0 us

abbrev pub unit_globals : ℕ → TUnit → List TGlobal
unit_globals n u = u.globals

abbrev pub all_globals : List TUnit → List TGlobal
all_globals us = per_unit unit_globals 0 us

-- the names of entry functions, in order
abbrev pub entry_names : List TFunction → List (List ℕ)
entry_names fs = map (λ f. f.name) (filter (λ f. f.entry) fs)

-- the nodes of a program are those of its units
abbrev pub units_nodes : List TUnit → ℕ
units_nodes us = sum (map (λ u. program_nodes u.functions u.globals) us)

abbrev pub program : List TUnit → Program
program us = record { functions = all_functions us; globals = all_globals us; entries = entry_names (all_functions us) }

-- ---- the first fault, or the program

-- the functions and globals of a unit have its number as their unit
abbrev pub Numbered : ℕ → List TUnit → Type 0
Numbered n [] = Unit {0}
Numbered n (u ∷ us) = All (λ f. f.unit ≡ n) u.functions × All (λ g. g.unit ≡ n) u.globals × Numbered (n + 1) us

abbrev pub Checked : Type 0
Checked = Result Program JoinFault

abbrev pub named_or : ℕ → Option (List ℕ) → Checked → Checked
named_or code None rest = rest
named_or code (Some name) rest = Err (NamedFault code name)

abbrev pub name_in : Option Named → Option (List ℕ)
name_in found = option_map (λ x. x.name) found

-- at most so many; a fault says how many there are, as far as a u64 counts
abbrev pub at_most : ℕ → ℕ → ℕ → Checked → Checked
at_most code most n rest = cond (nat_le n most) rest (Err (Count code (capped n)))

abbrev pub joined : List TUnit → Checked
joined us =
    named_or 61 (name_in (defined_twice us))
    (named_or 62 (disputed [] us)
    (named_or 60 (name_in (undefined_use us))
    (at_most 51 16000 (units_nodes us)
    (at_most 52 49152 (globals_bytes (all_globals us))
    (at_most 54 512 (length (entry_names (all_functions us))) (Ok (program us)))))))

-- what no fault hinders is a program
abbrev pub MakesProgram : Type 0
MakesProgram =
    (us : List TUnit) → All IsUnit us → Numbered 0 us → defined_twice us ≡ None → disputed [] us ≡ None → undefined_use us ≡ None
    → units_nodes us ≤ 16000 → globals_bytes (all_globals us) ≤ 49152 → length (entry_names (all_functions us)) ≤ 512 → IsProgram (program us)
