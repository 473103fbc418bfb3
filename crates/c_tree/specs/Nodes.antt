-- How many nodes a typed tree has.
use Rattle.std.specs.Prelude.{ℕ, ◌+◌, List, length, map, sum, Option, Some, None}
use Rattle.c_tree.specs.declared.expr.Expr.{Expr}
use Rattle.c_tree.specs.declared.expr.ExprKind.{ExprKind}
use Rattle.c_tree.specs.declared.expr.ExprKind.TheOpen.{ExprKind-F, Expr-F, Const, Local, Global, Deref, Member, Addr, Convert, Unary, Binary, PtrAdd, PtrDiff, And, Or, Cond, Assign, AssignOp, Step, Comma, Call, NsCall, Range, NsCreate, NsTest, NsCaller}
use Rattle.c_tree.specs.declared.expr.ExprKind.TheFolds.{fold-Expr, fold-ExprKind}
use Rattle.c_tree.specs.declared.program.TFunction.{TFunction}
use Rattle.c_tree.specs.declared.program.TGlobal.{TGlobal}
use Rattle.c_tree.specs.declared.stmt.Item.{Item}
use Rattle.c_tree.specs.declared.stmt.Stmt.{Stmt}
use Rattle.c_tree.specs.declared.stmt.Part.{Part}
use Rattle.c_tree.specs.declared.stmt.Part.TheOpen as s
use Rattle.c_tree.specs.declared.stmt.Part.TheOpen.{Stmt-F, Part-F}
use Rattle.c_tree.specs.declared.stmt.Part.TheFolds.{fold-Stmt, fold-Part}

-- the nodes of an expression's operands, from theirs
abbrev pub kind_step : ExprKind-F ℕ ℕ → ℕ
kind_step (Const _) = 0
kind_step (Local _) = 0
kind_step (Global _) = 0
kind_step (Deref a) = a
kind_step (Member a _) = a
kind_step (Addr a) = a
kind_step (Convert a) = a
kind_step (Unary _ a) = a
kind_step (Binary _ a b) = a + b
kind_step (PtrAdd a b _) = a + b
kind_step (PtrDiff a b _) = a + b
kind_step (And a b) = a + b
kind_step (Or a b) = a + b
kind_step (Cond a b c) = a + b + c
kind_step (Assign a b) = a + b
kind_step (AssignOp _ a b) = a + b
kind_step (Step a _ _) = a
kind_step (Comma a b) = a + b
kind_step (Call _ args) = sum args
kind_step (NsCall p args) = p + sum args
kind_step (Range a b c) = a + b + c
kind_step (NsCreate a) = a
kind_step (NsTest a) = a
kind_step NsCaller = 0

-- one for the expression itself
abbrev pub expr_step : Expr-F ℕ ℕ → ℕ
expr_step e = e.kind + 1

-- the nodes of an expression: itself and all below it, conversions included
abbrev pub nodes : Expr → ℕ
nodes = fold-Expr ℕ ℕ kind_step expr_step

-- the nodes below an expression of this kind
abbrev pub kind_nodes : ExprKind → ℕ
kind_nodes = fold-ExprKind ℕ ℕ kind_step expr_step

-- the nodes of a list of expressions
abbrev pub all_nodes : List Expr → ℕ
all_nodes es = sum (map nodes es)

-- the nodes of an expression that may be left out
abbrev pub nodes_or : Option Expr → ℕ
nodes_or None = 0
nodes_or (Some e) = nodes e

-- the nodes of an element that an initialiser sets: itself, and those of its value
abbrev pub item_nodes : Item → ℕ
item_nodes i = nodes i.value + 1

-- the nodes of all elements that an initialiser sets
abbrev pub items_nodes : List Item → ℕ
items_nodes items = sum (map item_nodes items)

-- a number that may be left out
abbrev pub or_zero : Option ℕ → ℕ
or_zero None = 0
or_zero (Some n) = n

-- the nodes of a statement, from those of the statements in it: one for itself
abbrev pub stmt_step : Stmt-F ℕ ℕ → ℕ
stmt_step s.Empty = 1
stmt_step (s.Expr e) = nodes e + 1
stmt_step (s.Declare local items) = items_nodes items + 1
stmt_step (s.Block list) = sum list + 1
stmt_step (s.If test on off) = nodes test + on + or_zero off + 1
stmt_step (s.While test body) = nodes test + body + 1
stmt_step (s.DoWhile body test) = body + nodes test + 1
stmt_step (s.For first test next body) = sum first + nodes_or test + nodes_or next + body + 1
stmt_step (s.Switch value parts) = nodes value + sum parts + 1
stmt_step s.Break = 1
stmt_step s.Continue = 1
stmt_step (s.Return value) = nodes_or value + 1

-- the nodes of a part of a switch: one for a case label
abbrev pub part_step : Part-F ℕ ℕ → ℕ
part_step (s.Case _) = 1
part_step s.Default = 1
part_step (s.Stmt n) = n

-- the nodes of a statement
abbrev pub stmt_nodes : Stmt → ℕ
stmt_nodes = fold-Stmt ℕ ℕ part_step stmt_step

-- the nodes of a part of a switch
abbrev pub part_nodes : Part → ℕ
part_nodes = fold-Part ℕ ℕ part_step stmt_step

-- the nodes of a statement that may be left out
abbrev pub stmt_nodes_or : Option Stmt → ℕ
stmt_nodes_or None = 0
stmt_nodes_or (Some x) = stmt_nodes x

-- the nodes of a list of statements
abbrev pub stmts_nodes : List Stmt → ℕ
stmts_nodes list = sum (map stmt_nodes list)

-- the nodes of the parts of a switch
abbrev pub parts_nodes : List Part → ℕ
parts_nodes parts = sum (map part_nodes parts)

-- the nodes of a function: itself, its parameters and locals, and its statements
abbrev pub function_nodes : TFunction → ℕ
function_nodes f = length f.params + length f.locals + stmt_nodes f.body + 1

-- the nodes of functions and globals, one for each global
abbrev pub program_nodes : List TFunction → List TGlobal → ℕ
program_nodes functions globals = sum (map function_nodes functions) + length globals
