-- What holds of each typed unit and of each program.
use Rattle.std.specs.Prelude.{◌≡◌, ◌≢◌, ℕ, ◌≤◌, ◌||◌, ◌&&◌, Bool, true, false, not, cond, IsTrue, List, [], ◌∷◌, map, length, take, position, slice_get, Option, Some, None, option_and_then, codes, All, AllPairs, bytes_eq}
use Rattle.std.specs.List.{filter, list_any}
use Rattle.c_types.specs.declared.ctype.CType.{CType}
use Rattle.c_types.specs.Same.{same_flag, same_type}
use Rattle.c_types.specs.Kind.{look}
use Rattle.c_tree.specs.declared.program.Extern.{Extern}
use Rattle.c_tree.specs.declared.program.TFunction.{TFunction}
use Rattle.c_tree.specs.declared.program.TGlobal.{TGlobal}
use Rattle.c_tree.specs.Numbers.{Names, function_in_range, looks_called, names_of_program, names_of_unit}
use Rattle.c_tree.specs.Nodes.{function_nodes, program_nodes}
use Rattle.c_tree.specs.Slots.{all_fit, bytes_of, placed_bytes, slots}
use Rattle.c_tree.specs.Globals as g
use Rattle.c_tree.specs.Globals.{globals_bytes}

-- a name that begins as that of an entry function's code does
abbrev pub is_twin : List ℕ → Bool
is_twin name = bytes_eq (take 10 name) (codes "__acle_se_")

-- A function within the limits. Its type has as many parameters, its name is no twin's, an entry function has at most four
-- parameters and isn't static, and the numbers in it are in range where these names stand around it.
pub record IsFunction (names : Names) (f : TFunction) : Type 0 where
  pub params : length f.params ≤ 8
  pub nodes : function_nodes f ≤ 2000
  pub slots : slots f ≤ 900
  pub placed : placed_bytes f ≤ 16384
  pub types : IsTrue (all_fit f.locals)
  pub typed : IsTrue (looks_called (length f.params) (look f.ctype))
  pub named : is_twin f.name ≡ false
  pub entry : f.entry ≡ true → (length f.params ≤ 4) × (f.is_static ≡ false)
  pub numbers : IsTrue (function_in_range names f)

-- a global with all of its bytes, or with none where it is left as it is at the start
pub record IsGlobal (x : TGlobal) : Type 0 where
  pub init : length x.init ≡ cond x.noinit 0 (bytes_of x.ctype)
  pub named : is_twin x.name ≡ false

-- a typed unit as contracts see it
pub record TUnit : Type 0 where
  pub functions : List TFunction
  pub globals : List TGlobal
  pub externs : List Extern

-- where a name stands among names
abbrev pub place_of : List (List ℕ) → List ℕ → Option ℕ
place_of names name = position (bytes_eq name) names

-- no name stands twice among names
abbrev pub all_differ : List (List ℕ) → Bool
all_differ [] = true
all_differ (name ∷ names) = not (list_any (bytes_eq name) names) && all_differ names

abbrev pub extern_names : List Extern → List (List ℕ)
extern_names externs = map (λ x. x.name) externs

-- the extern of this name
abbrev pub declared : List Extern → List ℕ → Option Extern
declared externs name = option_and_then (slice_get externs) (place_of (extern_names externs) name)

-- whether it has this type
abbrev pub has_type : CType → Option Extern → Bool
has_type t None = false
has_type t (Some x) = same_type x.ctype t

-- and whether it is static where it is to be
abbrev pub has_linkage : Bool → Option Extern → Bool
has_linkage is_static None = false
has_linkage is_static (Some x) = same_flag x.is_static is_static

-- Each function and each global stands among the externs with its type, and a function with its linkage.
abbrev pub function_declared : List Extern → TFunction → Bool
function_declared externs f = has_type f.ctype (declared externs f.name) && has_linkage f.is_static (declared externs f.name)

abbrev pub global_declared : List Extern → TGlobal → Bool
global_declared externs g = has_type g.ctype (declared externs g.name)

-- what holds of a unit
pub record IsUnit (u : TUnit) : Type 0 where
  pub functions : All (IsFunction (names_of_unit u.externs)) u.functions
  pub globals : All IsGlobal u.globals
  pub types : IsTrue (g.all_fit u.globals)
  pub named : All (λ x. is_twin x.name ≡ false) u.externs
  pub differ : IsTrue (all_differ (extern_names u.externs))
  pub functions_declared : All (λ f. IsTrue (function_declared u.externs f)) u.functions
  pub globals_declared : All (λ g. IsTrue (global_declared u.externs g)) u.globals

-- a program as contracts see it
pub record Program : Type 0 where
  pub functions : List TFunction
  pub globals : List TGlobal
  pub entries : List (List ℕ)

-- What holds of a program: it is within the limits. Two functions of one name are of different units, and one of them is
-- static. The entries are the names of the entry functions, in their order.
pub record IsProgram (p : Program) : Type 0 where
  pub functions : All (IsFunction (names_of_program p.functions p.globals)) p.functions
  pub globals : All IsGlobal p.globals
  pub types : IsTrue (g.all_fit p.globals)
  pub nodes : program_nodes p.functions p.globals ≤ 16000
  pub bytes : globals_bytes p.globals ≤ 49152
  pub differ : AllPairs (λ f h. f.name ≡ h.name → (f.unit ≢ h.unit) × IsTrue (f.is_static || h.is_static)) p.functions
  pub entries : p.entries ≡ map (λ f. f.name) (filter (λ f. f.entry) p.functions)
  pub few_entries : length p.entries ≤ 512
