-- What holds of each program of the middle form.
use Rattle.std.specs.Prelude.{◌≡◌, ◌≢◌, ℕ, ◌<◌, ◌≤◌, ◌%◌, ◌||◌, ◌&&◌, Bool, true, false, cond, IsTrue, eqb, List, [], ◌∷◌, ◌++◌, map, length, take, codes, All, AllPairs, bytes_eq}
use Rattle.std.specs.List.{filter, list_all}
use Rattle.std.specs.Fmt.{decimal}
use Rattle.c_names.specs.Name.{is_name}
use Rattle.mid_ir.specs.declared.program.MidFn.{MidFn}
use Rattle.mid_ir.specs.Numbers.{is_kind, function_in_range}

-- what stands before the first point
abbrev pub before_point : List ℕ → List ℕ
before_point [] = []
before_point (b ∷ bs) = cond (eqb b 46) [] (b ∷ before_point bs)

-- a name, a point and a unit
abbrev pub is_static_name : ℕ → List ℕ → Bool
is_static_name unit name = is_name (before_point name) && bytes_eq name (before_point name ++ 46 ∷ decimal unit)

-- what a function of this unit can be called
abbrev pub is_function_name : ℕ → List ℕ → Bool
is_function_name unit name = is_name name || is_static_name unit name

-- a name that begins as that of an entry function's code does
abbrev pub is_twin : List ℕ → Bool
is_twin name = bytes_eq (take 10 name) (codes "__acle_se_")

-- A function among these: it has at most eight parameters, an entry function at most four, each with a kind of
-- conversion and a variable. Its block keeps the data stack aligned, and the numbers in it are in range.
pub record IsFunction (functions : List MidFn) (f : MidFn) : Type 0 where
  pub named : IsTrue (is_function_name f.unit f.name)
  pub no_twin : is_twin f.name ≡ false
  pub params : length f.narrow ≤ 8
  pub entry : f.entry ≡ true → length f.narrow ≤ 4
  pub kinds : IsTrue (list_all is_kind f.narrow)
  pub vars : length f.narrow ≤ f.vars
  pub block : f.block < 65536
  pub aligned : f.block % 8 ≡ 0
  pub numbers : IsTrue (function_in_range functions f)

-- a program as contracts see it
pub record Mid : Type 0 where
  pub functions : List MidFn
  pub entries : List (List ℕ)
  pub init : List ℕ
  pub stack_base : ℕ

-- What holds of a program. The names of functions differ, and the entries are the names of the entry functions, in their
-- order. The data stack begins in Secure data, behind the globals.
pub record IsMid (p : Mid) : Type 0 where
  pub functions : All (IsFunction p.functions) p.functions
  pub differ : AllPairs (λ f g. f.name ≢ g.name) p.functions
  pub entries : p.entries ≡ map (λ f. f.name) (filter (λ f. f.entry) p.functions)
  pub from : 0x30000000 ≤ p.stack_base
  pub to : p.stack_base ≤ 0x3000C000
  pub aligned : p.stack_base % 8 ≡ 0
