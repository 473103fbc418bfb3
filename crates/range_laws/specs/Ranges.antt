-- The numbers that there are at a place of a unit's text. More declarations only add some.
use Rattle.std.specs.Prelude.{◌≡◌, ℕ, ◌≤◌, Bool, true, List, map, length}
use Rattle.c_tree.specs.declared.program.Extern.{Extern}
use Rattle.c_tree.specs.Numbers.{Names, names_of_unit}
use Rattle.c_tree.specs.Numbers.{Around as Range}
use Rattle.c_scope.specs.declared.tables.Known.{Known}
use Rattle.c_scope.specs.declared.tables.Tables.{Tables}
use Rattle.later_laws.specs.Later.{Kept, Later}

-- a function or a global as a unit lists it
abbrev pub extern_of : Known → Extern
extern_of k = record { name = k.name; ctype = k.ctype; is_static = k.state.is_static; place = k.place }

abbrev pub externs_of : Tables → List Extern
externs_of s = map extern_of s.externs

-- what stands around a function here, and in it, where it is an entry function or not
abbrev pub names : Tables → Names
names s = names_of_unit (externs_of s)

abbrev pub range : Bool → Tables → Range
range entry s = record { names = names s; locals = length s.locals; entry = entry }

-- a global of a is one of b, and so is each function, with as many parameters
pub record NamesWithin (a b : Names) : Type 0 where
  pub globals : (n : ℕ) → a.is_global n ≡ true → b.is_global n ≡ true
  pub functions : (n many : ℕ) → a.is_function n many ≡ true → b.is_function n many ≡ true

-- b has each number of a
pub record IsWithin (a b : Range) : Type 0 where
  pub names : NamesWithin a.names b.names
  pub locals : a.locals ≤ b.locals
  pub entry : a.entry ≡ true → b.entry ≡ true

-- What declarations do in a function: the locals of s are there in t too, and what is declared before it is as it was.
pub record Grows (s t : Tables) : Type 0 where
  pub locals : length s.locals ≤ length t.locals
  pub kept : Kept s t

-- What they do at file scope: the functions and globals of s are there in t too.
pub record Follows (s t : Tables) : Type 0 where
  pub names : NamesWithin (names s) (names t)
  pub later : Later s t
