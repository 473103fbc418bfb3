-- What holds of the globals that a unit defines, at a place of its text.
use Rattle.std.specs.Prelude.{◌≡◌, ℕ, true, List, All}
use Rattle.c_types.specs.Sizes.{fits}
use Rattle.c_tree.specs.declared.program.TGlobal.{TGlobal}
use Rattle.c_tree.specs.Conditions.{IsGlobal}
use Rattle.c_scope.specs.declared.tables.Tables.{Tables}
use Rattle.range_laws.specs.Stood.{Standing}

-- its bytes are all there, its type isn't too large, and it stands among the externs
pub record GlobalAt (t : Tables) (g : TGlobal) : Type 0 where
  pub holds : IsGlobal g
  pub small : fits g.ctype ≡ true
  pub number : ℕ
  pub standing : Standing g.name g.ctype number t

abbrev pub GlobalsAt : List TGlobal → Tables → Type 0
GlobalsAt gs t = All (GlobalAt t) gs
