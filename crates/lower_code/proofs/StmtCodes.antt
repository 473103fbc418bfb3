-- The code of each kind of statement, as an equation.
use Rattle.std.proofs.Common.{◌≡◌, ℕ, List, [], ◌∷◌, ◌++◌, map, sym, ap, ◌∙◌, slice_get, Option, Some, None}
use Rattle.c_tree.specs.declared.expr.Expr.{Expr}
use Rattle.c_tree.specs.declared.stmt.Item.{Item}
use Rattle.c_tree.specs.declared.stmt.Stmt.{Stmt, roll-Stmt}
use Rattle.c_tree.specs.declared.stmt.Stmt.TheVariants as s
use Rattle.c_tree.specs.declared.stmt.Part.{Part, roll-Part}
use Rattle.c_tree.specs.declared.stmt.Part.TheVariants as p
use Rattle.c_tree.specs.declared.stmt.Part.TheOpen as k
use Rattle.c_tree.specs.declared.stmt.Part.TheOpen.{Stmt-F, Part-F}
use Rattle.c_tree.specs.declared.stmt.Part.TheFolds.{map-Stmt, map-Part, fold-roll-Stmt, fold-roll-Part}
use Rattle.mid_ir.specs.declared.stmt.MidStmt.TheVariants as mid
use Rattle.lower_code.specs.Frames.{Frame}
use Rattle.lower_code.specs.Pieces.{choose}
use Rattle.lower_code.specs.Exprs.{place_at, code}
use Rattle.lower_code.specs.Stmts.{Ways, Codes, Piece, Case, Default, Code, in_loop, in_first, part_step, stmt_step, coded, piece, items_code, return_code, code_or, all_codes, block, loop, while_so, while_or, nest, dispatch}

stmt_at : (fr : Frame) (x : Stmt-F Part Stmt) (a : Stmt) (y : Ways) → roll-Stmt x ≡ a → coded fr a y ≡ stmt_step fr (map-Stmt Part Stmt Piece Codes (piece fr) (coded fr) x) y
stmt_at fr x a y h = ap (λ z. coded fr z y) (sym h) ∙ ap (λ f. f y) (fold-roll-Stmt Piece Codes part_step (stmt_step fr) x)

part_at : (fr : Frame) (x : Part-F Part Stmt) (a : Part) → roll-Part x ≡ a → piece fr a ≡ part_step (map-Part Part Stmt Piece Codes (piece fr) (coded fr) x)
part_at fr x a h = ap (piece fr) (sym h) ∙ fold-roll-Part Piece Codes part_step (stmt_step fr) x

module _ (fr : Frame) (y : Ways) where
  pub code_Empty : coded fr s.Empty y ≡ []
  code_Empty = stmt_at fr k.Empty _ y s.rolls-Empty

  pub code_Expr : (e : Expr) → coded fr (s.Expr e) y ≡ code fr e fr.free
  code_Expr e = stmt_at fr (k.Expr e) _ y (s.rolls-Expr e)

  pub code_Declare : (n : ℕ) (is : List Item) → coded fr (s.Declare n is) y ≡ items_code fr (place_at (slice_get fr.homes n)) is
  code_Declare n is = stmt_at fr (k.Declare n is) _ y (s.rolls-Declare n is)

  pub code_Block : (list : List Stmt) → coded fr (s.Block list) y ≡ all_codes (map (coded fr) list) y
  code_Block list = stmt_at fr (k.Block list) _ y (s.rolls-Block list)

  pub code_If : (e : Expr) (a : Stmt) → coded fr (s.If e a None) y ≡ code fr e fr.free ++ choose fr.free (coded fr a y) [] ∷ []
  code_If e a = stmt_at fr (k.If e a None) _ y (s.rolls-If e a None)

  pub code_Else : (e : Expr) (a b : Stmt) → coded fr (s.If e a (Some b)) y ≡ code fr e fr.free ++ choose fr.free (coded fr a y) (coded fr b y) ∷ []
  code_Else e a b = stmt_at fr (k.If e a (Some b)) _ y (s.rolls-If e a (Some b))

  pub code_While : (e : Expr) (a : Stmt) → coded fr (s.While e a) y ≡ loop (while_so fr e (block (coded fr a (in_loop y)) ∷ [])) ∷ []
  code_While e a = stmt_at fr (k.While e a) _ y (s.rolls-While e a)

  pub code_DoWhile : (a : Stmt) (e : Expr) → coded fr (s.DoWhile a e) y ≡ loop (block (coded fr a (in_loop y)) ∷ while_so fr e []) ∷ []
  code_DoWhile a e = stmt_at fr (k.DoWhile a e) _ y (s.rolls-DoWhile a e)

  pub code_For : (first : List Stmt) (test step : Option Expr) (a : Stmt)
      → coded fr (s.For first test step a) y ≡ block (all_codes (map (coded fr) first) in_first) ∷ loop (while_or fr test (block (coded fr a (in_loop y)) ∷ code_or fr step)) ∷ []
  code_For first test step a = stmt_at fr (k.For first test step a) _ y (s.rolls-For first test step a)

  pub code_Switch : (e : Expr) (ps : List Part) → coded fr (s.Switch e ps) y ≡ code fr e fr.free ++ block (nest y (dispatch fr.free (map (piece fr) ps)) (map (piece fr) ps)) ∷ []
  code_Switch e ps = stmt_at fr (k.Switch e ps) _ y (s.rolls-Switch e ps)

  pub code_Break : coded fr s.Break y ≡ mid.Break y.breaks ∷ []
  code_Break = stmt_at fr k.Break _ y s.rolls-Break

  pub code_Continue : coded fr s.Continue y ≡ mid.Break y.continues ∷ []
  code_Continue = stmt_at fr k.Continue _ y s.rolls-Continue

  pub code_Return : (e : Option Expr) → coded fr (s.Return e) y ≡ return_code fr e y.returns
  code_Return e = stmt_at fr (k.Return e) _ y (s.rolls-Return e)

module _ (fr : Frame) where
  pub piece_Case : (n : ℕ) → piece fr (p.Case n) ≡ Case n
  piece_Case n = part_at fr (k.Case n) _ (p.rolls-Case n)

  pub piece_Default : piece fr p.Default ≡ Default
  piece_Default = part_at fr k.Default _ p.rolls-Default

  pub piece_Stmt : (a : Stmt) → piece fr (p.Stmt a) ≡ Code (coded fr a)
  piece_Stmt a = part_at fr (k.Stmt a) _ (p.rolls-Stmt a)
