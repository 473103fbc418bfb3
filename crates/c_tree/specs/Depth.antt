-- How many values an expression holds at once, at most.
use Rattle.std.specs.Prelude.{ℕ, ◌+◌, max, List, [], ◌∷◌, map, Option, Some, None}
use Rattle.c_tree.specs.declared.expr.Expr.{Expr}
use Rattle.c_tree.specs.declared.expr.ExprKind.{ExprKind}
use Rattle.c_tree.specs.declared.expr.ExprKind.TheOpen.{ExprKind-F, Expr-F, Const, Local, Global, Deref, Member, Addr, Convert, Unary, Binary, PtrAdd, PtrDiff, And, Or, Cond, Assign, AssignOp, Step, Comma, Call, NsCall, Range, NsCreate, NsTest, NsCaller}
use Rattle.c_tree.specs.declared.expr.ExprKind.TheFolds.{fold-Expr, fold-ExprKind}
use Rattle.c_tree.specs.declared.program.TFunction.{TFunction}
use Rattle.c_tree.specs.declared.stmt.Item.{Item}
use Rattle.c_tree.specs.declared.stmt.Stmt.{Stmt}
use Rattle.c_tree.specs.declared.stmt.Part.{Part}
use Rattle.c_tree.specs.declared.stmt.Part.TheOpen as s
use Rattle.c_tree.specs.declared.stmt.Part.TheOpen.{Stmt-F, Part-F}
use Rattle.c_tree.specs.declared.stmt.Part.TheFolds.{fold-Stmt, fold-Part}
use Rattle.c_tree.specs.Nodes.{or_zero}

-- the most values that are held while operands of these depths are evaluated in order, so many operands standing before
-- them: each operand's own and one for each before it, and 1 at least
abbrev pub held : ℕ → List ℕ → ℕ
held before [] = 1
held before (d ∷ ds) = max (before + d) (held (before + 1) ds)

-- the depth of an expression, from those of its operands
abbrev pub kind_step : ExprKind-F ℕ ℕ → ℕ
kind_step (Const _) = 1
kind_step (Local _) = 1
kind_step (Global _) = 1
kind_step (Deref a) = a
kind_step (Member a _) = a
kind_step (Addr a) = a
kind_step (Convert a) = a
kind_step (Unary _ a) = a
kind_step (Binary _ a b) = held 0 (a ∷ b ∷ [])
kind_step (PtrAdd a b _) = held 0 (a ∷ b ∷ [])
kind_step (PtrDiff a b _) = held 0 (a ∷ b ∷ [])
kind_step (And a b) = max a b
kind_step (Or a b) = max a b
kind_step (Cond a b c) = max (max a b) c
kind_step (Assign a b) = held 0 (a ∷ b ∷ [])
kind_step (AssignOp _ a b) = held 0 (a ∷ b ∷ [])
kind_step (Step a _ _) = a
kind_step (Comma a b) = max a b
kind_step (Call _ args) = held 0 args
kind_step (NsCall p args) = held 0 (p ∷ args)
kind_step (Range a b c) = held 0 (a ∷ b ∷ c ∷ [])
kind_step (NsCreate a) = a
kind_step (NsTest a) = a
kind_step NsCaller = 1

-- an expression is as deep as its kind says
abbrev pub expr_step : Expr-F ℕ ℕ → ℕ
expr_step e = e.kind

-- the depth of an expression: the most values that it holds at once
abbrev pub depth : Expr → ℕ
depth = fold-Expr ℕ ℕ kind_step expr_step

-- the depth of an expression of this kind
abbrev pub kind_depth : ExprKind → ℕ
kind_depth = fold-ExprKind ℕ ℕ kind_step expr_step

-- what arguments hold with so many operands before them
abbrev pub args_depth : ℕ → List Expr → ℕ
args_depth before args = held before (map depth args)

-- the greatest of some depths, 0 where there is none
abbrev pub greatest : List ℕ → ℕ
greatest [] = 0
greatest (d ∷ ds) = max d (greatest ds)

-- the depth of an expression that may be left out
abbrev pub depth_or : Option Expr → ℕ
depth_or None = 0
depth_or (Some e) = depth e

-- an element of an initialiser is assigned to the name that is declared, whose depth is 1
abbrev pub item_depth : Item → ℕ
item_depth i = held 0 (1 ∷ depth i.value ∷ [])

-- the greatest depth of an element of an initialiser
abbrev pub items_depth : List Item → ℕ
items_depth items = greatest (map item_depth items)

-- the greatest depth of an expression in a statement, from those of the statements in it
abbrev pub stmt_step : Stmt-F ℕ ℕ → ℕ
stmt_step s.Empty = 0
stmt_step (s.Expr e) = depth e
stmt_step (s.Declare local items) = items_depth items
stmt_step (s.Block list) = greatest list
stmt_step (s.If test on off) = max (max (depth test) on) (or_zero off)
stmt_step (s.While test body) = max (depth test) body
stmt_step (s.DoWhile body test) = max body (depth test)
stmt_step (s.For first test next body) = max (max (max (greatest first) (depth_or test)) (depth_or next)) body
stmt_step (s.Switch value parts) = max (depth value) (greatest parts)
stmt_step s.Break = 0
stmt_step s.Continue = 0
stmt_step (s.Return value) = depth_or value

-- the same of a part of a switch
abbrev pub part_step : Part-F ℕ ℕ → ℕ
part_step (s.Case _) = 0
part_step s.Default = 0
part_step (s.Stmt d) = d

-- the greatest depth of an expression in a statement
abbrev pub stmt_depth : Stmt → ℕ
stmt_depth = fold-Stmt ℕ ℕ part_step stmt_step

-- the greatest depth of an expression in a part of a switch
abbrev pub part_depth : Part → ℕ
part_depth = fold-Part ℕ ℕ part_step stmt_step

-- the same of a statement that may be left out
abbrev pub stmt_depth_or : Option Stmt → ℕ
stmt_depth_or None = 0
stmt_depth_or (Some x) = stmt_depth x

-- the greatest depth of an expression in statements
abbrev pub stmts_depth : List Stmt → ℕ
stmts_depth list = greatest (map stmt_depth list)

-- the greatest depth of an expression in the parts of a switch
abbrev pub parts_depth : List Part → ℕ
parts_depth parts = greatest (map part_depth parts)

-- the greatest depth of an expression of a function
abbrev pub function_depth : TFunction → ℕ
function_depth f = stmt_depth f.body
