-- Who means whom by a name: a static name belongs to its unit alone, every other name to all units.
use Rattle.std.specs.Prelude.{◌≡◌, AllPairs, ℕ, ◌+◌, ◌==◌, ◌&&◌, Bool, false, cond, List, [], ◌∷◌, ◌++◌, map, position, Option, Some, None, bytes_eq}
use Rattle.c_types.specs.Kind.{is_function}
use Rattle.c_tree.specs.declared.program.Extern.{Extern}
use Rattle.c_tree.specs.declared.program.TFunction.{TFunction}
use Rattle.c_tree.specs.declared.program.TGlobal.{TGlobal}
use Rattle.c_tree.specs.Conditions.{TUnit, declared, extern_names}

-- 0 for a name of all units, and else the number of its unit and one; with the name
abbrev pub Key : Type 0
Key = ℕ × List ℕ

abbrev pub key : ℕ → Bool → List ℕ → Key
key unit is_static name = (cond is_static (unit + 1) 0, name)

abbrev pub same_key : Key → Key → Bool
same_key a b = a.0 == b.0 && bytes_eq a.1 b.1

-- each key is another than those before it
abbrev pub Distinct : List Key → Type 0
Distinct ks = AllPairs (λ x y. same_key y x ≡ false) ks

-- where a key stands among keys
abbrev pub place_of_key : List Key → Key → Option ℕ
place_of_key keys k = position (same_key k) keys

abbrev pub is_static : Option Extern → Bool
is_static None = false
is_static (Some x) = x.is_static

-- what a name means in a unit that declares these externs
abbrev pub key_of : ℕ → List Extern → List ℕ → Key
key_of unit externs name = key unit (is_static (declared externs name)) name

-- the names of each unit's externs
abbrev pub unit_names : List TUnit → List (List (List ℕ))
unit_names us = map (λ u. extern_names u.externs) us

-- what each unit gives, in order, the first of them having this number
abbrev pub per_unit : {B : Type 0} → (ℕ → TUnit → List B) → ℕ → List TUnit → List B
per_unit f n [] = []
per_unit f n (u ∷ us) = f n u ++ per_unit f (n + 1) us

-- the functions that a unit defines, and the globals
abbrev pub keys_of_functions : ℕ → List Extern → List TFunction → List Key
keys_of_functions n externs fs = map (λ f. key_of n externs f.name) fs

abbrev pub keys_of_globals : ℕ → List Extern → List TGlobal → List Key
keys_of_globals n externs gs = map (λ g. key_of n externs g.name) gs

abbrev pub unit_function_keys : ℕ → TUnit → List Key
unit_function_keys n u = keys_of_functions n u.externs u.functions

abbrev pub unit_global_keys : ℕ → TUnit → List Key
unit_global_keys n u = keys_of_globals n u.externs u.globals

-- the functions of all units in order, and the globals
abbrev pub function_keys : List TUnit → List Key
function_keys = per_unit unit_function_keys 0

abbrev pub global_keys : List TUnit → List Key
global_keys = per_unit unit_global_keys 0

-- The number that an extern of a unit has in the program: its place among the functions or among the globals; none where
-- no unit defines it.
abbrev pub number_of : List Key → List Key → ℕ → Extern → Option ℕ
number_of functions globals unit x = cond (is_function x.ctype) (place_of_key functions (key unit x.is_static x.name)) (place_of_key globals (key unit x.is_static x.name))

-- those of all externs of a unit
abbrev pub numbers_of : List Key → List Key → ℕ → List Extern → List (Option ℕ)
numbers_of functions globals unit externs = map (number_of functions globals unit) externs
