-- Calls (C11 6.5.2.2).
use Rattle.std.specs.Prelude.{ℕ, Bool, false, not, cond, eqb, List, [], ◌∷◌, ◌++◌, length, Option, Some, None, Ok}
use Rattle.cm_base.specs.declared.place.Place.{Place}
use Rattle.c_types.specs.Derived.{plain, unqualified}
use Rattle.c_types.specs.Kind.{Look, look, is_nonsecure_function, referenced}
use Rattle.c_types.specs.declared.ctype.CType.{CType}
use Rattle.c_types.specs.declared.ctype.Shape.TheVariants as made
use Rattle.c_types.specs.declared.ctype.Shape.TheOpen as shape
use Rattle.c_types.specs.declared.ctype.Shape.TheOpen.{Shape-F}
use Rattle.c_tree.specs.declared.expr.Expr.{Expr}
use Rattle.c_tree.specs.declared.expr.ExprKind.{ExprKind, out-ExprKind}
use Rattle.c_tree.specs.declared.expr.ExprKind.TheVariants as kind
use Rattle.c_tree.specs.declared.expr.ExprKind.TheOpen.{ExprKind-F, Global}
use Rattle.c_rows.specs.declared.calls.Arg.{Arg}
use Rattle.c_rows.specs.Answers.{Checked, fault, ◌>>=◌}
use Rattle.c_rows.specs.Nodes.{node}
use Rattle.c_rows.specs.Values.{fitted}

-- each argument as its parameter, from left to right, behind those that are done
abbrev pub fitted_from : List Expr → List CType → List Arg → Checked (List Expr)
fitted_from done [] args = Ok done
fitted_from done (t ∷ ts) [] = Ok done
fitted_from done (t ∷ ts) (a ∷ args) = fitted t a.value a.first >>= (λ v. fitted_from (done ++ v ∷ []) ts args)

abbrev pub fitted_args : List CType → List Arg → Checked (List Expr)
fitted_args ts args = fitted_from [] ts args

abbrev pub arguments_as : Place → List Arg → Look → Checked (List Expr)
arguments_as place args (shape.Function gives params nonsecure) = cond (not (eqb (length params) (length args))) (fault 22 place) (fitted_args params args)
arguments_as place args _ = fault 22 place

-- the arguments of a function of this type: as many as it has parameters
abbrev pub arguments : Place → CType → List Arg → Checked (List Expr)
arguments place t args = arguments_as place args (look t)

abbrev pub result_as : Look → CType
result_as (shape.Function gives params nonsecure) = unqualified gives
result_as _ = plain made.Void

-- what a function of this type gives
abbrev pub result_of : CType → CType
result_of t = result_as (look t)

abbrev pub looks_secure : Look → Bool
looks_secure (shape.Function gives params nonsecure) = not nonsecure
looks_secure _ = false

-- a function that isn't Non-secure
abbrev pub is_secure_function : CType → Bool
is_secure_function t = looks_secure (look t)

abbrev pub secure_as : CType → ExprKind-F ExprKind Expr → Option ℕ
secure_as t (Global n) = cond (is_secure_function t) (Some n) None
secure_as t _ = None

-- the number of the Secure function whose name an expression is
abbrev pub secure_number : Expr → Option ℕ
secure_number f = secure_as f.ctype (out-ExprKind f.kind)

abbrev pub nonsecure_as : Option CType → Option CType
nonsecure_as (Some to) = cond (is_nonsecure_function to) (Some to) None
nonsecure_as None = None

-- the Non-secure function type that a pointer points to
abbrev pub nonsecure_target : CType → Option CType
nonsecure_target t = nonsecure_as (referenced t)

abbrev pub nonsecure_in : Option CType → Bool
nonsecure_in (Some to) = is_nonsecure_function to
nonsecure_in None = false

-- whether a type is that of pointers to Non-secure functions
abbrev pub points_to_nonsecure : CType → Bool
points_to_nonsecure t = nonsecure_in (referenced t)

abbrev pub secure_call : Place → Expr → ℕ → List Arg → Checked Expr
secure_call place f n args = arguments place f.ctype args >>= (λ vs. Ok (node (kind.Call n vs) (result_of f.ctype) place))

abbrev pub nonsecure_call : Place → Expr → List Arg → CType → Checked Expr
nonsecure_call place f args to = arguments place to args >>= (λ vs. Ok (node (kind.NsCall f vs) (result_of to) place))

abbrev pub pointer_as : Place → Expr → List Arg → Option CType → Checked Expr
pointer_as place f args (Some to) = nonsecure_call place f args to
pointer_as place f args None = fault 22 place

abbrev pub called_by_pointer : Place → Expr → List Arg → Checked Expr
called_by_pointer place f args = pointer_as place f args (nonsecure_target f.ctype)

abbrev pub called_as : Place → Expr → List Arg → Option ℕ → Checked Expr
called_as place f args (Some n) = secure_call place f n args
called_as place f args None = called_by_pointer place f args

-- A call: of a Secure function by its name, or of a Non-secure function by a pointer.
abbrev pub called : Place → Expr → List Arg → Checked Expr
called place f args = called_as place f args (secure_number f)
