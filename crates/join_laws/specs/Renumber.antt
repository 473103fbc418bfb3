-- A tree in which each global and each function has its number in the program.
use Rattle.std.specs.Prelude.{ℕ, Bool, true, nat_lt, List, map, Option, Some, None, unwrap_or, slice_get, option_and_then}
use Rattle.std.specs.List.{list_all}
use Rattle.c_tree.specs.declared.expr.Expr.{Expr}
use Rattle.c_tree.specs.declared.expr.ExprKind.{ExprKind}
use Rattle.c_tree.specs.declared.expr.ExprKind.TheVariants as kind
use Rattle.c_tree.specs.declared.expr.ExprKind.TheOpen.{ExprKind-F, Expr-F, Const, Local, Global, Deref, Member, Addr, Convert, Unary, Binary, PtrAdd, PtrDiff, And, Or, Cond, Assign, AssignOp, Step, Comma, Call, NsCall, Range, NsCreate, NsTest, NsCaller}
use Rattle.c_tree.specs.declared.expr.ExprKind.TheFolds.{fold-Expr, fold-ExprKind}
use Rattle.c_tree.specs.declared.program.TFunction.{TFunction}
use Rattle.c_tree.specs.declared.stmt.Item.{Item}
use Rattle.c_tree.specs.declared.stmt.Stmt.{Stmt}
use Rattle.c_tree.specs.declared.stmt.Part.{Part}
use Rattle.c_tree.specs.declared.stmt.Part.TheVariants as part
use Rattle.c_tree.specs.declared.stmt.Stmt.TheVariants as stmt
use Rattle.c_tree.specs.declared.stmt.Part.TheOpen as s
use Rattle.c_tree.specs.declared.stmt.Part.TheOpen.{Stmt-F, Part-F}
use Rattle.c_tree.specs.declared.stmt.Part.TheFolds.{fold-Stmt, fold-Part}

-- the number in the program of extern n, if it is defined
abbrev pub number_in : List (Option ℕ) → ℕ → Option ℕ
number_in numbers n = option_and_then (λ x. x) (slice_get numbers n)

-- the new number; one without keeps its old
abbrev pub renumber : List (Option ℕ) → ℕ → ℕ
renumber numbers n = unwrap_or (number_in numbers n) n

abbrev pub kind_step : List (Option ℕ) → ExprKind-F ExprKind Expr → ExprKind
kind_step ns (Const v) = kind.Const v
kind_step ns (Local n) = kind.Local n
kind_step ns (Global n) = kind.Global (renumber ns n)
kind_step ns (Deref a) = kind.Deref a
kind_step ns (Member a offset) = kind.Member a offset
kind_step ns (Addr a) = kind.Addr a
kind_step ns (Convert a) = kind.Convert a
kind_step ns (Unary op a) = kind.Unary op a
kind_step ns (Binary op a b) = kind.Binary op a b
kind_step ns (PtrAdd a b size) = kind.PtrAdd a b size
kind_step ns (PtrDiff a b size) = kind.PtrDiff a b size
kind_step ns (And a b) = kind.And a b
kind_step ns (Or a b) = kind.Or a b
kind_step ns (Cond a b c) = kind.Cond a b c
kind_step ns (Assign a b) = kind.Assign a b
kind_step ns (AssignOp op a b) = kind.AssignOp op a b
kind_step ns (Step a by_value old) = kind.Step a by_value old
kind_step ns (Comma a b) = kind.Comma a b
kind_step ns (Call f args) = kind.Call (renumber ns f) args
kind_step ns (NsCall p args) = kind.NsCall p args
kind_step ns (Range a b c) = kind.Range a b c
kind_step ns (NsCreate a) = kind.NsCreate a
kind_step ns (NsTest a) = kind.NsTest a
kind_step ns NsCaller = kind.NsCaller

abbrev pub expr_step : Expr-F ExprKind Expr → Expr
expr_step e = record { kind = e.kind; ctype = e.ctype; place = e.place }

-- the expression with new numbers
abbrev pub renumbered : List (Option ℕ) → Expr → Expr
renumbered ns = fold-Expr ExprKind Expr (kind_step ns) expr_step

abbrev pub renumbered_kind : List (Option ℕ) → ExprKind → ExprKind
renumbered_kind ns = fold-ExprKind ExprKind Expr (kind_step ns) expr_step

abbrev pub all_renumbered : List (Option ℕ) → List Expr → List Expr
all_renumbered ns es = map (renumbered ns) es

abbrev pub renumbered_or : List (Option ℕ) → Option Expr → Option Expr
renumbered_or ns None = None
renumbered_or ns (Some e) = Some (renumbered ns e)

abbrev pub renumbered_item : List (Option ℕ) → Item → Item
renumbered_item ns i = record { offset = i.offset; value = renumbered ns i.value }

abbrev pub renumbered_items : List (Option ℕ) → List Item → List Item
renumbered_items ns items = map (renumbered_item ns) items

abbrev pub stmt_step : List (Option ℕ) → Stmt-F Part Stmt → Stmt
stmt_step ns s.Empty = stmt.Empty
stmt_step ns (s.Expr e) = stmt.Expr (renumbered ns e)
stmt_step ns (s.Declare local items) = stmt.Declare local (renumbered_items ns items)
stmt_step ns (s.Block list) = stmt.Block list
stmt_step ns (s.If test on off) = stmt.If (renumbered ns test) on off
stmt_step ns (s.While test body) = stmt.While (renumbered ns test) body
stmt_step ns (s.DoWhile body test) = stmt.DoWhile body (renumbered ns test)
stmt_step ns (s.For first test next body) = stmt.For first (renumbered_or ns test) (renumbered_or ns next) body
stmt_step ns (s.Switch value parts) = stmt.Switch (renumbered ns value) parts
stmt_step ns s.Break = stmt.Break
stmt_step ns s.Continue = stmt.Continue
stmt_step ns (s.Return value) = stmt.Return (renumbered_or ns value)

abbrev pub part_step : Part-F Part Stmt → Part
part_step (s.Case v) = part.Case v
part_step s.Default = part.Default
part_step (s.Stmt x) = part.Stmt x

-- the statement with new numbers
abbrev pub renumbered_stmt : List (Option ℕ) → Stmt → Stmt
renumbered_stmt ns = fold-Stmt Part Stmt part_step (stmt_step ns)

abbrev pub renumbered_part : List (Option ℕ) → Part → Part
renumbered_part ns = fold-Part Part Stmt part_step (stmt_step ns)

abbrev pub renumbered_stmt_or : List (Option ℕ) → Option Stmt → Option Stmt
renumbered_stmt_or ns None = None
renumbered_stmt_or ns (Some x) = Some (renumbered_stmt ns x)

abbrev pub renumbered_stmts : List (Option ℕ) → List Stmt → List Stmt
renumbered_stmts ns list = map (renumbered_stmt ns) list

abbrev pub renumbered_parts : List (Option ℕ) → List Part → List Part
renumbered_parts ns parts = map (renumbered_part ns) parts

-- the function with new numbers in its body
abbrev pub renumbered_function : List (Option ℕ) → TFunction → TFunction
renumbered_function ns f = record f { body = renumbered_stmt ns f.body }

-- a number that a u32 has, if there is one
abbrev pub is_small : Option ℕ → Bool
is_small None = true
is_small (Some n) = nat_lt n 4294967296

abbrev pub all_small : List (Option ℕ) → Bool
all_small ns = list_all is_small ns
