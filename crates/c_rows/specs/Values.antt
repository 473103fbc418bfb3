-- Expressions as values (C11 6.3.2.1), and conversions of values (6.3).
use Rattle.std.specs.Prelude.{◌||◌, not, cond, Option, Some, None, Ok}
use Rattle.cm_base.specs.declared.place.Place.{Place}
use Rattle.c_types.specs.Convert.{converts}
use Rattle.c_types.specs.Derived.{arith_type, pointer_to, unqualified}
use Rattle.c_types.specs.Kind.{element, is_function, is_struct}
use Rattle.c_types.specs.Same.{same_unqualified}
use Rattle.c_types.specs.declared.arith.Arith.{Arith}
use Rattle.c_types.specs.declared.ctype.CType.{CType}
use Rattle.c_tree.specs.declared.expr.Expr.{Expr}
use Rattle.c_tree.specs.declared.expr.ExprKind.TheVariants as kind
use Rattle.c_const.specs.Constant.{is_null_constant}
use Rattle.c_rows.specs.Answers.{Checked, fault}
use Rattle.c_rows.specs.Nodes.{node}

-- the address of what holds elements of this type, as a pointer to its first one
abbrev pub first_element : Expr → CType → Expr
first_element e of = node (kind.Addr e) (pointer_to of) e.place

-- neither a function's name nor a struct is a value
abbrev pub value_itself : Expr → Place → Checked Expr
value_itself e first = cond (is_function e.ctype || is_struct e.ctype) (fault 29 first) (Ok e)

abbrev pub valued_as : Expr → Place → Option CType → Checked Expr
valued_as e first (Some of) = Ok (first_element e of)
valued_as e first None = value_itself e first

-- an expression as a value, its first token standing at this place: an array is a pointer to its first element
abbrev pub valued : Expr → Place → Checked Expr
valued e first = valued_as e first (element e.ctype)

-- a value in a type: itself where its own type is that one
abbrev pub converted_to : CType → Expr → Expr
converted_to to v = cond (same_unqualified v.ctype to) v (node (kind.Convert v) (unqualified to) v.place)

-- a value in an arithmetic type
abbrev pub in_kind : Arith → Expr → Expr
in_kind k v = converted_to (arith_type k) v

-- a value implicitly converted to a type
abbrev pub fitted : CType → Expr → Place → Checked Expr
fitted to v place = cond (not (converts v.ctype to (is_null_constant v))) (fault 22 place) (Ok (converted_to to v))
