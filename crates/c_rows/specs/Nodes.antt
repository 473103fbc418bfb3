-- Nodes of the typed tree, and constants.
use Rattle.std.specs.Prelude.{ℕ, Bool, if◌then◌else◌}
use Rattle.cm_base.specs.declared.place.Place.{Place}
use Rattle.c_types.specs.Derived.{arith_type, plain, pointer_to}
use Rattle.c_types.specs.declared.arith.Arith.{Arith}
use Rattle.c_types.specs.declared.arith.Arith.TheVariants as a
use Rattle.c_types.specs.declared.ctype.CType.{CType}
use Rattle.c_types.specs.declared.ctype.Shape.TheVariants as made
use Rattle.c_tree.specs.declared.expr.Expr.{Expr}
use Rattle.c_tree.specs.declared.expr.ExprKind.{ExprKind}
use Rattle.c_tree.specs.declared.expr.ExprKind.TheVariants as kind

abbrev pub node : ExprKind → CType → Place → Expr
node k t p = record { kind = k; ctype = t; place = p }

abbrev pub int_type : CType
int_type = arith_type a.Int

abbrev pub void_pointer : CType
void_pointer = pointer_to (plain made.Void)

-- the type of a number's constant
abbrev pub number_kind : Bool → Bool → Arith
number_kind unsigned long = if unsigned then (if long then a.UnsignedLong else a.Unsigned) else (if long then a.Long else a.Int)

abbrev pub number : Place → ℕ → Bool → Bool → Expr
number place n unsigned long = node (kind.Const n) (arith_type (number_kind unsigned long)) place

-- an enumeration constant, which is an int; a character constant is one too
abbrev pub constant_node : Place → ℕ → Expr
constant_node place n = node (kind.Const n) int_type place

-- `NULL`
abbrev pub null_node : Place → Expr
null_node place = node (kind.Const 0) void_pointer place

-- what `sizeof` gives
abbrev pub size_node : Place → ℕ → Expr
size_node place n = node (kind.Const n) (arith_type a.Unsigned) place
