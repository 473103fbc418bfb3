-- What holds of each tree that is made where the numbers of a range are there.
use Rattle.std.specs.Prelude.{◌≡◌, ℕ, Bool, true, List, [], ◌∷◌, length}
use Rattle.c_types.specs.Kind.{Look, look}
use Rattle.c_types.specs.declared.ctype.Shape.TheOpen as shape
use Rattle.c_tree.specs.declared.expr.Expr.{Expr}
use Rattle.c_tree.specs.declared.expr.ExprKind.{ExprKind, out-ExprKind}
use Rattle.c_tree.specs.declared.expr.ExprKind.TheOpen.{ExprKind-F, Global}
use Rattle.c_tree.specs.Numbers.{expr_in_range}
use Rattle.c_tree.specs.Numbers.{Around as Range}
use Rattle.c_rows.specs.declared.calls.Arg.{Arg}
use Rattle.range_laws.specs.Few.{few}

-- a value: its numbers are in range
pub record IsValue (a : Range) (e : Expr) : Type 0 where
  pub numbers : expr_in_range a e ≡ true
  pub typed : few e.ctype ≡ true

-- the number of an extern: a function's name is one of as many parameters as its type has
abbrev pub names_fit : Range → ℕ → Look → Bool
names_fit a n (shape.Function gives params nonsecure) = a.names.is_function n (length params)
names_fit a n _ = a.names.is_global n

abbrev pub kind_fits : Range → Expr → ExprKind-F ExprKind Expr → Bool
kind_fits a e (Global n) = names_fit a n (look e.ctype)
kind_fits a e _ = expr_in_range a e

-- A tree: its numbers are in range, unless it is a function's name, which can only be called.
pub record IsTree (a : Range) (e : Expr) : Type 0 where
  pub numbers : kind_fits a e (out-ExprKind e.kind) ≡ true
  pub typed : few e.ctype ≡ true

-- both: what an operator makes
pub record IsMade (a : Range) (e : Expr) : Type 0 where
  pub value : IsValue a e
  pub tree : IsTree a e

-- an argument is a value
abbrev pub IsArg : Range → Arg → Type 0
IsArg a x = IsValue a x.value

-- and so is each of these
abbrev pub AreArgs : Range → List Arg → Type 0
AreArgs a [] = Unit {0}
AreArgs a (x ∷ xs) = IsArg a x × AreArgs a xs
