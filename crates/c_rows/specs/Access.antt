-- Places: `&` (C11 6.5.3.2), members (6.5.2.3), `sizeof` (6.5.3.4), and casts (6.5.4).
use Rattle.std.specs.Prelude.{ℕ, Bool, true, false, not, cond, Option, Some, None, Ok}
use Rattle.cm_base.specs.declared.place.Place.{Place}
use Rattle.c_types.specs.Convert.{casts}
use Rattle.c_types.specs.Derived.{pointer_to, qualified, unqualified}
use Rattle.c_types.specs.Kind.{is_function}
use Rattle.c_types.specs.declared.ctype.CType.{CType}
use Rattle.c_tree.specs.declared.expr.Expr.{Expr}
use Rattle.c_tree.specs.declared.expr.ExprKind.{ExprKind, out-ExprKind}
use Rattle.c_tree.specs.declared.expr.ExprKind.TheVariants as kind
use Rattle.c_tree.specs.declared.expr.ExprKind.TheOpen.{ExprKind-F, Local, Global, Deref, Member}
use Rattle.c_rows.specs.Answers.{Checked, fault}
use Rattle.c_rows.specs.Nodes.{node, size_node}
use Rattle.c_rows.specs.Pointers.{whole_size}

abbrev pub place_in : ExprKind-F ExprKind Expr → Bool
place_in (Local n) = true
place_in (Global n) = true
place_in (Deref e) = true
place_in (Member e offset) = true
place_in _ = false

-- whether an expression is a place, which may be read and written
abbrev pub is_place : Expr → Bool
is_place e = place_in (out-ExprKind e.kind)

-- `&` on a place; a function's name is none
abbrev pub address : Place → Expr → Checked Expr
address place e =
    cond (is_function e.ctype) (fault 29 place)
    (cond (not (is_place e)) (fault 23 place) (Ok (node (kind.Addr e) (pointer_to e.ctype) place)))

-- a member of this type, so many bytes into a struct, with the struct's qualifiers
abbrev pub member : Place → Expr → CType → ℕ → Expr
member place e t offset = node (kind.Member e offset) (qualified e.ctype.is_const e.ctype.is_volatile t) place

abbrev pub sized_as : Place → Option ℕ → Checked Expr
sized_as place (Some n) = Ok (size_node place n)
sized_as place None = fault 25 place

-- `sizeof`
abbrev pub size_of : Place → CType → Checked Expr
size_of place t = sized_as place (whole_size t)

-- a cast
abbrev pub cast : Place → CType → Expr → Checked Expr
cast place t e = cond (not (casts e.ctype t)) (fault 22 place) (Ok (node (kind.Convert e) (unqualified t) place))
