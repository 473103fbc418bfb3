-- Pointers: `+ -` (C11 6.5.6), `[]` (6.5.2.1) and `*` (6.5.3.2).
use Rattle.std.specs.Prelude.{ℕ, not, cond, Option, Some, None, Ok}
use Rattle.cm_base.specs.declared.place.Place.{Place}
use Rattle.ns_types.specs.Operators.{negate}
use Rattle.c_types.specs.Derived.{unqualified}
use Rattle.c_types.specs.Kind.{is_arithmetic, is_complete, is_function, referenced}
use Rattle.c_types.specs.Same.{same_unqualified}
use Rattle.c_types.specs.Sizes.{fits, size_of}
use Rattle.c_types.specs.declared.ctype.CType.{CType}
use Rattle.c_tree.specs.declared.expr.BinOp.TheVariants as bin
use Rattle.c_tree.specs.declared.expr.Expr.{Expr}
use Rattle.c_tree.specs.declared.expr.ExprKind.TheVariants as kind
use Rattle.c_rows.specs.Answers.{Checked, fault, ◌>>=◌}
use Rattle.c_rows.specs.Nodes.{node, int_type}
use Rattle.c_rows.specs.Arithmetic.{binary}

-- the size of a complete object type; no type that a declaration or a type name may have is too large
abbrev pub whole_size : CType → Option ℕ
whole_size t = cond (fits t) (size_of t) None

abbrev pub step_in : Option CType → Option ℕ
step_in (Some to) = whole_size to
step_in None = None

-- the size of what a pointer points to, where that is a complete object type
abbrev pub step_of : CType → Option ℕ
step_of t = step_in (referenced t)

-- a pointer that is moved by an integer times a size
abbrev pub moved : Place → Expr → Expr → ℕ → Expr
moved place p i size = node (kind.PtrAdd p i size) (unqualified p.ctype) place

abbrev pub moved_as : Place → Expr → Expr → Option ℕ → Checked Expr
moved_as place p i (Some size) = cond (not (is_arithmetic i.ctype)) (fault 22 place) (Ok (moved place p i size))
moved_as place p i None = fault 22 place

-- a pointer and an integer
abbrev pub moved_on : Place → Expr → Expr → Checked Expr
moved_on place p i = moved_as place p i (step_of p.ctype)

-- `+`: two arithmetic operands, or a pointer and an integer in either order
abbrev pub added : Place → Expr → Expr → Checked Expr
added place a b =
    cond (is_arithmetic a.ctype)
    (cond (is_arithmetic b.ctype) (binary bin.Add place a b) (moved_on place b a))
    (moved_on place a b)

abbrev pub moved_back_as : Place → Expr → Expr → Option ℕ → Checked Expr
moved_back_as place p i (Some size) = Ok (moved place p i (negate size))
moved_back_as place p i None = fault 22 place

-- a pointer less an integer
abbrev pub moved_back : Place → Expr → Expr → Checked Expr
moved_back place p i = moved_back_as place p i (step_of p.ctype)

abbrev pub apart_as : Place → Expr → Expr → Option ℕ → Checked Expr
apart_as place p q (Some size) = cond (not (same_unqualified p.ctype q.ctype)) (fault 22 place) (Ok (node (kind.PtrDiff p q size) int_type place))
apart_as place p q None = fault 22 place

-- two pointers to one complete object type
abbrev pub apart : Place → Expr → Expr → Checked Expr
apart place p q = apart_as place p q (step_of p.ctype)

-- `-`
abbrev pub subtracted : Place → Expr → Expr → Checked Expr
subtracted place a b =
    cond (is_arithmetic a.ctype) (binary bin.Sub place a b)
    (cond (is_arithmetic b.ctype) (moved_back place a b) (apart place a b))

-- what a pointer to this type points to
abbrev pub target : Place → Expr → CType → Checked Expr
target place p to = cond (is_function to) (fault 22 place) (cond (not (is_complete to)) (fault 25 place) (Ok (node (kind.Deref p) to place)))

abbrev pub dereferenced_as : Place → Expr → Option CType → Checked Expr
dereferenced_as place p (Some to) = target place p to
dereferenced_as place p None = fault 22 place

-- unary `*`
abbrev pub dereferenced : Place → Expr → Checked Expr
dereferenced place p = dereferenced_as place p (referenced p.ctype)

-- `a[i]` is `*(a + i)`
abbrev pub element : Place → Expr → Expr → Checked Expr
element place a i = added place a i >>= dereferenced place
