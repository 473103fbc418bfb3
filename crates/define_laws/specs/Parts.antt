-- What holds of what a unit's parts define, at a place of its text.
use Rattle.std.specs.Prelude.{◌≡◌, ℕ, true, All}
use Rattle.c_tree.specs.declared.program.TFunction.{TFunction}
use Rattle.c_tree.specs.Conditions.{IsFunction}
use Rattle.c_scope.specs.declared.tables.Tables.{Tables}
use Rattle.c_define.specs.declared.units.Made.{Made}
use Rattle.range_laws.specs.Ranges.{names}
use Rattle.range_laws.specs.Stood.{Standing}
use Rattle.unit_laws.specs.Globals.{GlobalsAt}

-- a function: it is within the limits, and stands among the externs with its linkage
pub record FunctionAt (t : Tables) (f : TFunction) : Type 0 where
  pub holds : IsFunction (names t) f
  pub number : ℕ
  pub standing : Standing f.name f.ctype number t
  pub body : standing.stood.known.state.has_body ≡ true
  pub linkage : standing.stood.known.state.is_static ≡ f.is_static

abbrev pub DefinedAt : TFunction → Tables → Type 0
DefinedAt f t = FunctionAt t f

-- all functions and globals that are defined so far
pub record MadeAt (all : Made) (t : Tables) : Type 0 where
  pub functions : All (FunctionAt t) all.functions
  pub globals : GlobalsAt all.globals t
