-- What stands under the number of a function or a global that is declared.
use Rattle.std.specs.Prelude.{◌≡◌, ℕ, Bool, true, false, not, ◌&&◌, ◌||◌, List, slice_get, Some}
use Rattle.c_ast.specs.declared.expr.Name.{Name}
use Rattle.c_types.specs.declared.ctype.CType.{CType}
use Rattle.c_types.specs.Kind.{look}
use Rattle.c_types.specs.Same.{same_type}
use Rattle.c_types.specs.Sizes.{fits}
use Rattle.c_tree.specs.Conditions.{is_twin}
use Rattle.c_scope.specs.declared.tables.Known.{Known}
use Rattle.c_scope.specs.declared.tables.Linkage.{Linkage}
use Rattle.c_scope.specs.declared.tables.Tables.{Tables}
use Rattle.c_scope.specs.Blocks.{is_made}
use Rattle.c_scope.specs.FileScope.{is_unsized}

-- the extern of this number has this name, and a type that is one with this
pub record Stood (text : List ℕ) (t : CType) (n : ℕ) (s : Tables) : Type 0 where
  pub known : Known
  pub there : slice_get s.externs n ≡ Some known
  pub name : known.name ≡ text
  pub typed : same_type known.ctype t ≡ true

-- and the name is none that the tools reserve, and the type isn't too large
pub record IsDeclared (name : Name) (t : CType) (n : ℕ) (s : Tables) : Type 0 where
  pub stood : Stood name.text t n s
  pub free : is_twin name.text ≡ false
  pub small : fits t ≡ true

-- a global: it is complete, or the declaration is extern or has an initialiser
pub record IsDeclaredObject (name : Name) (t : CType) (how : Linkage) (initialised : Bool) (n : ℕ) (s : Tables) : Type 0 where
  pub declared : IsDeclared name t n s
  pub made : ((how.is_extern && not initialised) || is_made initialised t) ≡ true

-- its type won't change any more
pub record Standing (text : List ℕ) (t : CType) (n : ℕ) (s : Tables) : Type 0 where
  pub stood : Stood text t n s
  pub sized : is_unsized (look stood.known.ctype) ≡ false
