-- The uses of names in a tree, and the earliest of those that mean nothing.
use Rattle.std.specs.Prelude.{◌≡◌, ℕ, ◌==◌, ◌&&◌, ◌||◌, Bool, true, nat_lt, List, [], ◌∷◌, ◌++◌, map, Option, Some, None, cond, is_some, slice_get, if◌then◌else◌}
use Rattle.std.specs.List.{flat_map, fold, list_all}
use Rattle.cm_base.specs.declared.place.Place.{Place}
use Rattle.c_tree.specs.declared.expr.Expr.{Expr}
use Rattle.c_tree.specs.declared.expr.ExprKind.{ExprKind}
use Rattle.c_tree.specs.declared.expr.ExprKind.TheOpen.{ExprKind-F, Expr-F, Const, Local, Global, Deref, Member, Addr, Convert, Unary, Binary, PtrAdd, PtrDiff, And, Or, Cond, Assign, AssignOp, Step, Comma, Call, NsCall, Range, NsCreate, NsTest, NsCaller}
use Rattle.c_tree.specs.declared.expr.ExprKind.TheFolds.{fold-Expr, fold-ExprKind}
use Rattle.c_tree.specs.declared.program.Extern.{Extern}
use Rattle.c_tree.specs.declared.program.TFunction.{TFunction}
use Rattle.c_tree.specs.declared.stmt.Item.{Item}
use Rattle.c_tree.specs.declared.stmt.Stmt.{Stmt}
use Rattle.c_tree.specs.declared.stmt.Part.{Part}
use Rattle.c_tree.specs.declared.stmt.Part.TheOpen as s
use Rattle.c_tree.specs.declared.stmt.Part.TheOpen.{Stmt-F, Part-F}
use Rattle.c_tree.specs.declared.stmt.Part.TheFolds.{fold-Stmt, fold-Part}
use Rattle.c_tree.specs.Numbers.{Names}
use Rattle.join_laws.specs.Renumber.{number_in, renumber}

-- a place before another: by unit, then by line, then by column
abbrev pub is_before : Place → Place → Bool
is_before p q = nat_lt p.unit q.unit || (p.unit == q.unit && (nat_lt p.line q.line || (p.line == q.line && nat_lt p.col q.col)))

-- a name at a place
pub record Named : Type 0 where
  pub name : List ℕ
  pub place : Place

-- the earlier of two; the first of them where neither is before the other
abbrev pub earlier : Option Named → Named → Option Named
earlier None x = Some x
earlier (Some best) x = if is_before x.place best.place then Some x else Some best

-- an extern that is used, by its number in its unit, and where
pub record Use : Type 0 where
  pub number : ℕ
  pub place : Place

-- what an expression of a kind uses: what it names itself, and what its operands use
pub record Uses : Type 0 where
  pub own : Option ℕ
  pub inner : List Use

abbrev pub uses_in : List Use → Uses
uses_in us = record { own = None; inner = us }

abbrev pub kind_step : ExprKind-F Uses (List Use) → Uses
kind_step (Const _) = uses_in []
kind_step (Local _) = uses_in []
kind_step (Global n) = record { own = Some n; inner = [] }
kind_step (Deref a) = uses_in a
kind_step (Member a _) = uses_in a
kind_step (Addr a) = uses_in a
kind_step (Convert a) = uses_in a
kind_step (Unary _ a) = uses_in a
kind_step (Binary _ a b) = uses_in (a ++ b)
kind_step (PtrAdd a b _) = uses_in (a ++ b)
kind_step (PtrDiff a b _) = uses_in (a ++ b)
kind_step (And a b) = uses_in (a ++ b)
kind_step (Or a b) = uses_in (a ++ b)
kind_step (Cond a b c) = uses_in ((a ++ b) ++ c)
kind_step (Assign a b) = uses_in (a ++ b)
kind_step (AssignOp _ a b) = uses_in (a ++ b)
kind_step (Step a _ _) = uses_in a
kind_step (Comma a b) = uses_in (a ++ b)
kind_step (Call f args) = record { own = Some f; inner = flat_map (λ us. us) args }
kind_step (NsCall p args) = uses_in (p ++ flat_map (λ us. us) args)
kind_step (Range a b c) = uses_in ((a ++ b) ++ c)
kind_step (NsCreate a) = uses_in a
kind_step (NsTest a) = uses_in a
kind_step NsCaller = uses_in []

-- the use of what is named here
abbrev pub own_use : Option ℕ → Place → List Use
own_use None place = []
own_use (Some n) place = record { number = n; place = place } ∷ []

abbrev pub expr_step : Expr-F Uses (List Use) → List Use
expr_step e = own_use e.kind.own e.place ++ e.kind.inner

-- what an expression uses
abbrev pub uses : Expr → List Use
uses = fold-Expr Uses (List Use) kind_step expr_step

abbrev pub kind_uses : ExprKind → Uses
kind_uses = fold-ExprKind Uses (List Use) kind_step expr_step

abbrev pub own_of : ExprKind → Option ℕ
own_of k = (kind_uses k).own

abbrev pub inner_of : ExprKind → List Use
inner_of k = (kind_uses k).inner

abbrev pub all_uses : List Expr → List Use
all_uses es = flat_map (λ us. us) (map uses es)

abbrev pub uses_or : Option Expr → List Use
uses_or None = []
uses_or (Some e) = uses e

abbrev pub items_uses : List Item → List Use
items_uses items = flat_map (λ i. uses i.value) items

abbrev pub or_none : Option (List Use) → List Use
or_none None = []
or_none (Some us) = us

abbrev pub stmt_step : Stmt-F (List Use) (List Use) → List Use
stmt_step s.Empty = []
stmt_step (s.Expr e) = uses e
stmt_step (s.Declare local items) = items_uses items
stmt_step (s.Block list) = flat_map (λ us. us) list
stmt_step (s.If test on off) = (uses test ++ on) ++ or_none off
stmt_step (s.While test body) = uses test ++ body
stmt_step (s.DoWhile body test) = body ++ uses test
stmt_step (s.For first test next body) = ((flat_map (λ us. us) first ++ uses_or test) ++ uses_or next) ++ body
stmt_step (s.Switch value parts) = uses value ++ flat_map (λ us. us) parts
stmt_step s.Break = []
stmt_step s.Continue = []
stmt_step (s.Return value) = uses_or value

abbrev pub part_step : Part-F (List Use) (List Use) → List Use
part_step (s.Case _) = []
part_step s.Default = []
part_step (s.Stmt us) = us

-- what a statement uses
abbrev pub stmt_uses : Stmt → List Use
stmt_uses = fold-Stmt (List Use) (List Use) part_step stmt_step

abbrev pub part_uses : Part → List Use
part_uses = fold-Part (List Use) (List Use) part_step stmt_step

abbrev pub stmt_uses_or : Option Stmt → List Use
stmt_uses_or None = []
stmt_uses_or (Some x) = stmt_uses x

abbrev pub stmts_uses : List Stmt → List Use
stmts_uses list = flat_map (λ us. us) (map stmt_uses list)

abbrev pub parts_uses : List Part → List Use
parts_uses parts = flat_map (λ us. us) (map part_uses parts)

-- what functions use
abbrev pub functions_uses : List TFunction → List Use
functions_uses fs = flat_map (λ f. stmt_uses f.body) fs

-- a unit defines extern n
abbrev pub is_defined : List (Option ℕ) → ℕ → Bool
is_defined numbers n = is_some (number_in numbers n)

-- each of these uses is defined
abbrev pub all_defined : List (Option ℕ) → List Use → Bool
all_defined numbers us = list_all (λ x. is_defined numbers x.number) us

-- each number of a global or of a function before, if it is defined, has a new one that is such a number afterwards
abbrev pub Carried : List (Option ℕ) → Names → Names → Type 0
Carried numbers before after =
    ((n : ℕ) → before.is_global n ≡ true → is_defined numbers n ≡ true → after.is_global (renumber numbers n) ≡ true)
    × ((n many : ℕ) → before.is_function n many ≡ true → is_defined numbers n ≡ true → after.is_function (renumber numbers n) many ≡ true)

-- the name of an extern, if there is one
abbrev pub name_of : Option Extern → List ℕ
name_of None = []
name_of (Some x) = x.name

abbrev pub name_at : List Extern → ℕ → List ℕ
name_at externs n = name_of (slice_get externs n)

-- After a use: the earliest so far of those that no unit defines, where the externs have these numbers in the program.
abbrev pub note : List (Option ℕ) → List Extern → Option Named → Use → Option Named
note numbers externs best x = cond (is_defined numbers x.number) best (earlier best (record { name = name_at externs x.number; place = x.place }))

abbrev pub noted : List (Option ℕ) → List Extern → Option Named → List Use → Option Named
noted numbers externs = fold (note numbers externs)
