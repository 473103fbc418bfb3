-- What a name means at a place of the text.
use Rattle.std.specs.Prelude.{ℕ, Bool, true, false, cond, is_some, List, [], ◌∷◌, slice_get, bytes_eq, Option, Some, None, Ok}
use Rattle.cm_base.specs.declared.place.Place.{Place}
use Rattle.c_ast.specs.declared.expr.Name.{Name}
use Rattle.c_types.specs.declared.ctype.CType.{CType}
use Rattle.c_tree.specs.declared.expr.Expr.{Expr}
use Rattle.c_tree.specs.declared.expr.ExprKind.TheVariants as kind
use Rattle.c_tree.specs.declared.program.TLocal.{TLocal}
use Rattle.c_rows.specs.declared.intrinsics.Intrinsic.{Intrinsic as Call}
use Rattle.c_rows.specs.Answers.{Checked, fault}
use Rattle.c_rows.specs.Nodes.{node, constant_node, null_node}
use Rattle.c_scope.specs.declared.tables.InBlock.{InBlock}
use Rattle.c_scope.specs.declared.tables.Known.{Known}
use Rattle.c_scope.specs.declared.tables.Meaning.{Meaning}
use Rattle.c_scope.specs.declared.tables.Meaning.TheVariants.{Extern, Constant, Null, Typedef, Intrinsic}
use Rattle.c_scope.specs.declared.tables.StructInfo.{StructInfo}
use Rattle.c_scope.specs.declared.tables.Tables.{Tables}
use Rattle.c_scope.specs.Index.{place_of}
use Rattle.c_scope.specs.Refresh.{refreshed}

-- the tables at the beginning of a unit
abbrev pub nothing : Tables
nothing = record { names = []; meanings = []; blocks = []; locals = []; tags = []; tag_meanings = []; block_tags = []; structs = []; externs = []; has_std_int = false; has_arm_cmse = false }

-- the local that the last of these names it is has; found is what the names before them say
abbrev pub newest_from : Option ℕ → List InBlock → List ℕ → Option ℕ
newest_from found [] text = found
newest_from found (b ∷ bs) text = newest_from (cond (bytes_eq b.name text) (Some b.local) found) bs text

-- in blocks the innermost declaration counts, which is the last one
abbrev pub newest : List InBlock → List ℕ → Option ℕ
newest names text = newest_from None names text

abbrev pub at_place : {X : Type 0} → List X → Option ℕ → Option X
at_place xs (Some i) = slice_get xs i
at_place xs None = None

-- what a name of file scope means
abbrev pub file_meaning : Tables → List ℕ → Option Meaning
file_meaning s text = at_place s.meanings (place_of s.names text)

abbrev pub local_node : Tables → ℕ → Place → Option TLocal → Checked Expr
local_node s n place (Some l) = Ok (node (kind.Local n) (refreshed s.structs l.ctype) place)
local_node s n place None = fault 20 place

abbrev pub extern_node : Tables → ℕ → Place → Option Known → Checked Expr
extern_node s n place (Some k) = Ok (node (kind.Global n) (refreshed s.structs k.ctype) place)
extern_node s n place None = fault 20 place

-- a name of file scope as an expression; that of a call of arm_cmse.h is no value
abbrev pub meant : Tables → Place → Option Meaning → Checked Expr
meant s place (Some (Extern n)) = extern_node s n place (slice_get s.externs n)
meant s place (Some (Constant n)) = Ok (constant_node place n)
meant s place (Some Null) = Ok (null_node place)
meant s place (Some (Typedef t)) = fault 20 place
meant s place (Some (Intrinsic i)) = fault 29 place
meant s place None = fault 20 place

abbrev pub named_as : Tables → Name → Option ℕ → Checked Expr
named_as s name (Some n) = local_node s n name.place (slice_get s.locals n)
named_as s name None = meant s name.place (file_meaning s name.text)

-- a name as an expression
abbrev pub named : Tables → Name → Checked Expr
named s name = named_as s name (newest s.blocks name.text)

abbrev pub type_meant : Tables → Place → Option Meaning → Checked CType
type_meant s place (Some (Typedef t)) = Ok (refreshed s.structs t)
type_meant s place (Some (Extern n)) = fault 20 place
type_meant s place (Some (Constant n)) = fault 20 place
type_meant s place (Some Null) = fault 20 place
type_meant s place (Some (Intrinsic i)) = fault 20 place
type_meant s place None = fault 20 place

-- a name as a type; typedefs stand at file scope
abbrev pub type_named : Tables → Name → Checked CType
type_named s name = type_meant s name.place (file_meaning s name.text)

abbrev pub call_of : Option Meaning → Option Call
call_of (Some (Intrinsic i)) = Some i
call_of (Some (Extern n)) = None
call_of (Some (Constant n)) = None
call_of (Some Null) = None
call_of (Some (Typedef t)) = None
call_of None = None

-- the call of arm_cmse.h that a name means
abbrev pub intrinsic_named : Tables → List ℕ → Option Call
intrinsic_named s text = cond (is_some (newest s.blocks text)) None (call_of (file_meaning s text))
