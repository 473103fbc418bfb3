-- Where a part of a source begins: the place of its first token. The place of an operation in the tree is its operator's, so
-- that of its first token is found in its first operand where the operator doesn't stand in front.
use Rattle.std.specs.Prelude.{List, [], ◌∷◌, Option, Some, None, ⊤}
use Rattle.cm_base.specs.declared.place.Place.{Place}
use Rattle.c_ast.specs.declared.expr.Expr.{Expr}
use Rattle.c_ast.specs.declared.expr.Spec.{Spec}
use Rattle.c_ast.specs.declared.expr.StructSpec.{StructSpec}
use Rattle.c_ast.specs.declared.expr.EnumSpec.{EnumSpec}
use Rattle.c_ast.specs.declared.stmt.Initial.{Initial}
use Rattle.c_ast.specs.declared.stmt.Initial.TheOpen.{Initial-F, Assign, Braces}
use Rattle.c_ast.specs.declared.stmt.Initial.TheFolds.{fold-Initial}
use Rattle.c_ast.specs.declared.expr.Abstract.TheOpen.{Expr-F, Spec-F, StructSpec-F, EnumSpec-F}
use Rattle.c_ast.specs.declared.expr.Abstract.TheOpen as t
use Rattle.c_ast.specs.declared.expr.Abstract.TheFolds.{fold-Expr, fold-Spec, fold-StructSpec, fold-EnumSpec}

-- of an expression, of which each part is replaced by the place of its own first token
abbrev pub expr_step : Expr-F ⊤ ⊤ Place Place ⊤ ⊤ ⊤ Place Place ⊤ ⊤ ⊤ ⊤ ⊤ ⊤ → Place
expr_step (t.Name name) = name.place
expr_step (t.Number place _ _) = place
expr_step (t.Char place _) = place
expr_step (t.Str place _) = place
expr_step (t.Expr::Group place _) = place
expr_step (t.Postfix primary _) = primary
expr_step (t.Expr::Step place _ _) = place
expr_step (t.Unary place _ _) = place
expr_step (t.SizeofExpr place _) = place
expr_step (t.SizeofType place _) = place
expr_step (t.Cast place _ _) = place
expr_step (t.Binary first _) = first
expr_step (t.Choice _ test _ _) = test
expr_step (t.Assign _ _ to _) = to
expr_step (t.Comma first _) = first

abbrev pub struct_step : StructSpec-F ⊤ ⊤ Place Place ⊤ ⊤ ⊤ Place Place ⊤ ⊤ ⊤ ⊤ ⊤ ⊤ → Place
struct_step (t.StructSpec::Body place _ _) = place
struct_step (t.StructSpec::Tag place _) = place

abbrev pub enum_step : EnumSpec-F ⊤ ⊤ Place Place ⊤ ⊤ ⊤ Place Place ⊤ ⊤ ⊤ ⊤ ⊤ ⊤ → Place
enum_step (t.EnumSpec::Body place _ _) = place
enum_step (t.EnumSpec::Tag place _) = place

abbrev pub spec_step : Spec-F ⊤ ⊤ Place Place ⊤ ⊤ ⊤ Place Place ⊤ ⊤ ⊤ ⊤ ⊤ ⊤ → Place
spec_step (t.Word place _) = place
spec_step (t.TypeName name) = name.place
spec_step (t.Struct place) = place
spec_step (t.Enum place) = place
spec_step (t.Attr attr) = attr.place

-- of an expression
abbrev pub first_place : Expr → Place
first_place = fold-Expr ⊤ ⊤ Place Place ⊤ ⊤ ⊤ Place Place ⊤ ⊤ ⊤ ⊤ ⊤ ⊤
    (λ _. tt) (λ _. tt) enum_step expr_step (λ _. tt) (λ _. tt) (λ _. tt) spec_step struct_step (λ _. tt) (λ _. tt) (λ _. tt) (λ _. tt) (λ _. tt) (λ _. tt)

-- of a struct and of an enum
abbrev pub struct_place : StructSpec → Place
struct_place = fold-StructSpec ⊤ ⊤ Place Place ⊤ ⊤ ⊤ Place Place ⊤ ⊤ ⊤ ⊤ ⊤ ⊤
    (λ _. tt) (λ _. tt) enum_step expr_step (λ _. tt) (λ _. tt) (λ _. tt) spec_step struct_step (λ _. tt) (λ _. tt) (λ _. tt) (λ _. tt) (λ _. tt) (λ _. tt)

abbrev pub enum_place : EnumSpec → Place
enum_place = fold-EnumSpec ⊤ ⊤ Place Place ⊤ ⊤ ⊤ Place Place ⊤ ⊤ ⊤ ⊤ ⊤ ⊤
    (λ _. tt) (λ _. tt) enum_step expr_step (λ _. tt) (λ _. tt) (λ _. tt) spec_step struct_step (λ _. tt) (λ _. tt) (λ _. tt) (λ _. tt) (λ _. tt) (λ _. tt)

-- of a specifier
abbrev pub spec_place : Spec → Place
spec_place = fold-Spec ⊤ ⊤ Place Place ⊤ ⊤ ⊤ Place Place ⊤ ⊤ ⊤ ⊤ ⊤ ⊤
    (λ _. tt) (λ _. tt) enum_step expr_step (λ _. tt) (λ _. tt) (λ _. tt) spec_step struct_step (λ _. tt) (λ _. tt) (λ _. tt) (λ _. tt) (λ _. tt) (λ _. tt)

-- of a list of specifiers
abbrev pub specs_place : List Spec → Option Place
specs_place [] = None
specs_place (s ∷ _) = Some (spec_place s)

-- of an initialiser
abbrev pub initial_step : Initial-F Place → Place
initial_step (Assign e) = first_place e
initial_step (Braces place _) = place

abbrev pub initial_place : Initial → Place
initial_place = fold-Initial Place initial_step
