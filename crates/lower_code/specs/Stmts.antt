-- The code of statements, by folds over the typed tree.
use Rattle.std.specs.Prelude.{ℕ, ◌+◌, List, [], ◌∷◌, ◌++◌, slice_get, Option, Some, None}
use Rattle.c_tree.specs.declared.expr.Expr.{Expr}
use Rattle.c_tree.specs.declared.stmt.Item.{Item}
use Rattle.c_tree.specs.declared.stmt.Stmt.{Stmt}
use Rattle.c_tree.specs.declared.stmt.Part.{Part}
use Rattle.c_tree.specs.declared.stmt.Part.TheOpen as s
use Rattle.c_tree.specs.declared.stmt.Part.TheOpen.{Stmt-F, Part-F}
use Rattle.c_tree.specs.declared.stmt.Part.TheFolds.{fold-Stmt, fold-Part}
use Rattle.mid_ir.specs.declared.stmt.MidStmt.{MidStmt}
use Rattle.mid_ir.specs.declared.stmt.MidStmt.TheVariants as mid
use Rattle.mid_ir.specs.declared.stmt.SetOp.TheVariants as op
use Rattle.lower_code.specs.Frames.{Frame}
use Rattle.lower_code.specs.Pieces.{kind_as, narrow, choose}
use Rattle.lower_code.specs.Exprs.{Place, place_at, member, assigned, code}

-- How many enclosing loops and blocks `break`, `continue` and `return` leave, one more than is said; a `return` that leaves
-- none of them leaves the function.
pub record Ways : Type 0 where
  pub breaks : ℕ
  pub continues : ℕ
  pub returns : Option ℕ

-- code by where these lead
abbrev pub Codes : Type 0
Codes = Ways → List MidStmt

abbrev pub farther : ℕ → Option ℕ → Option ℕ
farther n None = None
farther n (Some k) = Some (k + n)

-- In the body of a loop, which is a block of its own. `continue` leaves the block, and `break` the loop.
abbrev pub in_loop : Ways → Ways
in_loop y = record { breaks = 1; continues = 0; returns = farther 2 y.returns }

-- In what a `for` does first: whatever ends it, the loop follows.
abbrev pub in_first : Ways
in_first = record { breaks = 0; continues = 0; returns = Some 0 }

-- before so many labels of a switch
abbrev pub in_switch : ℕ → Ways → Ways
in_switch left y = record { breaks = left; continues = y.continues + left + 1; returns = farther (left + 1) y.returns }

-- ---- simple statements

-- the elements of an initialiser, one after another
abbrev pub items_code : Frame → Place → List Item → List MidStmt
items_code fr p [] = []
items_code fr p (i ∷ is) = assigned i.value.ctype (member fr.bytes p i.offset) (code fr i.value) fr.free ++ items_code fr p is

-- the value of `return` is in the first free variable
abbrev pub leave : Frame → Option ℕ → List MidStmt
leave fr None = narrow (kind_as fr.gives) fr.free ++ mid.Return fr.free ∷ []
leave fr (Some k) = mid.Break k ∷ []

abbrev pub return_code : Frame → Option Expr → Option ℕ → List MidStmt
return_code fr None None = mid.Const fr.free 0 ∷ mid.Return fr.free ∷ []
return_code fr None (Some k) = mid.Break k ∷ []
return_code fr (Some e) way = code fr e fr.free ++ leave fr way

-- an expression that may be left out
abbrev pub code_or : Frame → Option Expr → List MidStmt
code_or fr None = []
code_or fr (Some e) = code fr e fr.free

-- ---- blocks and loops

abbrev pub all_codes : List Codes → Codes
all_codes [] y = []
all_codes (d ∷ ds) y = d y ++ all_codes ds y

abbrev pub or_nothing : Option Codes → Codes
or_nothing None y = []
or_nothing (Some d) y = d y

abbrev pub block : List MidStmt → MidStmt
block body = mid.Block (mid.Seq body)

abbrev pub loop : List MidStmt → MidStmt
loop turn = mid.Loop (mid.Seq turn)

-- one turn: the rest where a test holds, and else the loop is left
abbrev pub while_so : Frame → Expr → List MidStmt → List MidStmt
while_so fr test rest = code fr test fr.free ++ choose fr.free rest (mid.Break 0 ∷ []) ∷ []

-- a test that may be left out
abbrev pub while_or : Frame → Option Expr → List MidStmt → List MidStmt
while_or fr None rest = rest
while_or fr (Some test) rest = while_so fr test rest

-- ---- switches

-- A part of a switch: a label, or code.
pub data Piece : Type 0 where
  Case : ℕ → Piece
  Default : Piece
  Code : Codes → Piece

abbrev pub labels : List Piece → ℕ
labels [] = 0
labels (Case x ∷ ps) = labels ps + 1
labels (Default ∷ ps) = labels ps + 1
labels (Code d ∷ ps) = labels ps

-- One part more, before so many labels. A label ends a block around all that stands before it.
abbrev pub after : Ways → ℕ → List MidStmt → Piece → List MidStmt
after y left before (Case x) = block before ∷ []
after y left before Default = block before ∷ []
after y left before (Code d) = before ++ d (in_switch left y)

abbrev pub nest : Ways → List MidStmt → List Piece → List MidStmt
nest y before [] = before
nest y before (p ∷ ps) = nest y (after y (labels ps) before p) ps

-- to label i where the value in n is x
abbrev pub jump : ℕ → ℕ → ℕ → List MidStmt
jump n x i = mid.Const (n + 1) x ∷ mid.Set (n + 1) op.Eq n (n + 1) ∷ choose (n + 1) (mid.Break i ∷ []) [] ∷ []

-- to the label of the value, the first of them being label i
abbrev pub jumps : ℕ → ℕ → List Piece → List MidStmt
jumps n i [] = []
jumps n i (Case x ∷ ps) = jump n x i ++ jumps n (i + 1) ps
jumps n i (Default ∷ ps) = jumps n (i + 1) ps
jumps n i (Code d ∷ ps) = jumps n i ps

-- the number of the default label, or behind them all
abbrev pub default_label : ℕ → List Piece → ℕ
default_label i [] = i
default_label i (Default ∷ ps) = i
default_label i (Case x ∷ ps) = default_label (i + 1) ps
default_label i (Code d ∷ ps) = default_label i ps

abbrev pub dispatch : ℕ → List Piece → List MidStmt
dispatch n ps = jumps n 0 ps ++ mid.Break (default_label 0 ps) ∷ []

-- ---- statements

abbrev pub part_step : Part-F Piece Codes → Piece
part_step (s.Case x) = Case x
part_step s.Default = Default
part_step (s.Stmt d) = Code d

abbrev pub stmt_step : Frame → Stmt-F Piece Codes → Codes
stmt_step fr s.Empty y = []
stmt_step fr (s.Expr e) y = code fr e fr.free
stmt_step fr (s.Declare n items) y = items_code fr (place_at (slice_get fr.homes n)) items
stmt_step fr (s.Block list) y = all_codes list y
stmt_step fr (s.If test on off) y = code fr test fr.free ++ choose fr.free (on y) (or_nothing off y) ∷ []
stmt_step fr (s.While test body) y = loop (while_so fr test (block (body (in_loop y)) ∷ [])) ∷ []
stmt_step fr (s.DoWhile body test) y = loop (block (body (in_loop y)) ∷ while_so fr test []) ∷ []
stmt_step fr (s.For first test next body) y = block (all_codes first in_first) ∷ loop (while_or fr test (block (body (in_loop y)) ∷ code_or fr next)) ∷ []
stmt_step fr (s.Switch v parts) y = code fr v fr.free ++ block (nest y (dispatch fr.free parts) parts) ∷ []
stmt_step fr s.Break y = mid.Break y.breaks ∷ []
stmt_step fr s.Continue y = mid.Break y.continues ∷ []
stmt_step fr (s.Return e) y = return_code fr e y.returns

-- the code of a statement
abbrev pub coded : Frame → Stmt → Codes
coded fr = fold-Stmt Piece Codes part_step (stmt_step fr)

abbrev pub piece : Frame → Part → Piece
piece fr = fold-Part Piece Codes part_step (stmt_step fr)
