-- Which locals and parameters stand in memory: arrays, structs, and those whose address is taken.
use Rattle.std.specs.Prelude.{◌≡◌, ℕ, ◌<◌, ◌==◌, ◌||◌, Bool, true, false, List, [], ◌∷◌, ◌++◌, map, Option, Some, None, slice_set, slice_index_or}
use Rattle.std.specs.List.{fold, flat_map, list_any}
use Rattle.c_types.specs.declared.ctype.CType.{CType}
use Rattle.c_types.specs.Kind.{is_array, is_struct}
use Rattle.c_tree.specs.declared.expr.Expr.{Expr}
use Rattle.c_tree.specs.declared.expr.ExprKind.{ExprKind}
use Rattle.c_tree.specs.declared.expr.ExprKind.TheOpen.{ExprKind-F, Expr-F, Const, Local, Global, Deref, Member, Addr, Convert, Unary, Binary, PtrAdd, PtrDiff, And, Or, Cond, Assign, AssignOp, Step, Comma, Call, NsCall, Range, NsCreate, NsTest, NsCaller}
use Rattle.c_tree.specs.declared.expr.ExprKind.TheFolds.{fold-Expr, fold-ExprKind}
use Rattle.c_tree.specs.declared.program.TLocal.{TLocal}
use Rattle.c_tree.specs.declared.stmt.Item.{Item}
use Rattle.c_tree.specs.declared.stmt.Stmt.{Stmt}
use Rattle.c_tree.specs.declared.stmt.Part.{Part}
use Rattle.c_tree.specs.declared.stmt.Part.TheOpen as s
use Rattle.c_tree.specs.declared.stmt.Part.TheOpen.{Stmt-F, Part-F}
use Rattle.c_tree.specs.declared.stmt.Part.TheFolds.{fold-Stmt, fold-Part}

-- what an expression does with locals: the one that it is, or is a part of, and those whose address is taken in it
pub record Uses : Type 0 where
  pub base : Option ℕ
  pub taken : List ℕ

-- an expression that is no local and no part of one
abbrev pub takes : List ℕ → Uses
takes ns = record { base = None; taken = ns }

-- a local as a list of one
abbrev pub listed : Option ℕ → List ℕ
listed None = []
listed (Some n) = n ∷ []

-- what an expression does with locals, from what its operands do
abbrev pub kind_step : ExprKind-F Uses Uses → Uses
kind_step (Const _) = takes []
kind_step (Local n) = record { base = Some n; taken = [] }
kind_step (Global _) = takes []
kind_step (Deref a) = takes a.taken
kind_step (Member a _) = a
kind_step (Addr a) = takes (a.taken ++ listed a.base)
kind_step (Convert a) = takes a.taken
kind_step (Unary _ a) = takes a.taken
kind_step (Binary _ a b) = takes (a.taken ++ b.taken)
kind_step (PtrAdd a b _) = takes (a.taken ++ b.taken)
kind_step (PtrDiff a b _) = takes (a.taken ++ b.taken)
kind_step (And a b) = takes (a.taken ++ b.taken)
kind_step (Or a b) = takes (a.taken ++ b.taken)
kind_step (Cond a b c) = takes ((a.taken ++ b.taken) ++ c.taken)
kind_step (Assign a b) = takes (a.taken ++ b.taken)
kind_step (AssignOp _ a b) = takes (a.taken ++ b.taken)
kind_step (Step a _ _) = takes a.taken
kind_step (Comma a b) = takes (a.taken ++ b.taken)
kind_step (Call _ args) = takes (flat_map (λ a. a.taken) args)
kind_step (NsCall p args) = takes (p.taken ++ flat_map (λ a. a.taken) args)
kind_step (Range a b c) = takes ((a.taken ++ b.taken) ++ c.taken)
kind_step (NsCreate a) = takes a.taken
kind_step (NsTest a) = takes a.taken
kind_step NsCaller = takes []

-- an expression does what its kind says
abbrev pub expr_step : Expr-F Uses Uses → Uses
expr_step e = e.kind

-- what an expression does with locals
abbrev pub uses : Expr → Uses
uses = fold-Expr Uses Uses kind_step expr_step

-- what an expression of this kind does with locals
abbrev pub kind_uses : ExprKind → Uses
kind_uses = fold-ExprKind Uses Uses kind_step expr_step

-- the local that an expression is, or is a part of
abbrev pub base_of : Expr → Option ℕ
base_of e = (uses e).base

-- the locals whose address is taken in an expression
abbrev pub taken : Expr → List ℕ
taken e = (uses e).taken

-- the same of a kind
abbrev pub kind_base : ExprKind → Option ℕ
kind_base k = (kind_uses k).base

abbrev pub kind_taken : ExprKind → List ℕ
kind_taken k = (kind_uses k).taken

-- the locals whose address is taken in a list of expressions
abbrev pub all_taken : List Expr → List ℕ
all_taken es = flat_map (λ a. a.taken) (map uses es)

-- those of an expression that may be left out
abbrev pub taken_or : Option Expr → List ℕ
taken_or None = []
taken_or (Some e) = taken e

-- those of the elements of an initialiser
abbrev pub items_taken : List Item → List ℕ
items_taken items = flat_map (λ i. taken i.value) items

-- those of a statement that may be left out
abbrev pub or_none : Option (List ℕ) → List ℕ
or_none None = []
or_none (Some ns) = ns

-- the locals whose address is taken in a statement, from those of the statements in it
abbrev pub stmt_step : Stmt-F (List ℕ) (List ℕ) → List ℕ
stmt_step s.Empty = []
stmt_step (s.Expr e) = taken e
stmt_step (s.Declare local items) = items_taken items
stmt_step (s.Block list) = flat_map (λ ns. ns) list
stmt_step (s.If test on off) = (taken test ++ on) ++ or_none off
stmt_step (s.While test body) = taken test ++ body
stmt_step (s.DoWhile body test) = body ++ taken test
stmt_step (s.For first test next body) = ((flat_map (λ ns. ns) first ++ taken_or test) ++ taken_or next) ++ body
stmt_step (s.Switch value parts) = taken value ++ flat_map (λ ns. ns) parts
stmt_step s.Break = []
stmt_step s.Continue = []
stmt_step (s.Return value) = taken_or value

-- the same of a part of a switch
abbrev pub part_step : Part-F (List ℕ) (List ℕ) → List ℕ
part_step (s.Case _) = []
part_step s.Default = []
part_step (s.Stmt ns) = ns

-- the locals whose address is taken in a statement
abbrev pub stmt_taken : Stmt → List ℕ
stmt_taken = fold-Stmt (List ℕ) (List ℕ) part_step stmt_step

-- the locals whose address is taken in a part of a switch
abbrev pub part_taken : Part → List ℕ
part_taken = fold-Part (List ℕ) (List ℕ) part_step stmt_step

-- those of a statement that may be left out
abbrev pub stmt_taken_or : Option Stmt → List ℕ
stmt_taken_or None = []
stmt_taken_or (Some x) = stmt_taken x

-- the locals whose address is taken in statements
abbrev pub stmts_taken : List Stmt → List ℕ
stmts_taken list = flat_map (λ ns. ns) (map stmt_taken list)

-- the locals whose address is taken in the parts of a switch
abbrev pub parts_taken : List Part → List ℕ
parts_taken parts = flat_map (λ ns. ns) (map part_taken parts)

-- arrays and structs
abbrev pub is_aggregate : CType → Bool
is_aggregate t = is_array t || is_struct t

-- whether a number is in a list
abbrev pub is_in : List ℕ → ℕ → Bool
is_in ns n = list_any (λ k. k == n) ns

-- whether this local or parameter is placed, where it is local n and the addresses of these locals are taken
abbrev pub is_placed : List ℕ → ℕ → TLocal → Bool
is_placed ns n x = is_aggregate x.ctype || is_in ns n

-- marks after these numbers were marked too
abbrev pub marked : List Bool → List ℕ → List Bool
marked = fold (λ marks n. slice_set marks n true)

-- the marks of numbers below 2048 say which of these they are
abbrev pub AreMarks : List Bool → List ℕ → Type 0
AreMarks marks ns = (n : ℕ) → n < 2048 → slice_index_or marks n false ≡ is_in ns n
