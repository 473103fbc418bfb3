-- int sum(int a, int b, int c, int d) { return a + b + c + d; } in the middle form.
use Rattle.std.proofs.Common.{◌≡◌, ℕ, ◌+◌, false, List, [], ◌∷◌, ◌++◌, refl, sym, ap, ◌∙◌, codes, Some, None, slice_get}
use Rattle.cm_base.specs.declared.place.Place.{Place}
use Rattle.c_types.specs.declared.arith.Arith.TheVariants as a
use Rattle.c_types.specs.Derived.{arith_type}
use Rattle.c_tree.specs.Depth as depths
use Rattle.c_tree.specs.Depth.{depth, kind_depth, held, stmt_depth}
use Rattle.c_tree.specs.declared.expr.BinOp.TheVariants as bin
use Rattle.c_tree.specs.declared.expr.Expr.{Expr}
use Rattle.c_tree.specs.declared.expr.ExprKind.{ExprKind}
use Rattle.c_tree.specs.declared.expr.ExprKind.TheVariants as kind
use Rattle.c_tree.specs.declared.expr.ExprKind.TheOpen as k
use Rattle.c_tree.specs.declared.expr.ExprKind.TheFolds.{fold-roll-ExprKind, fold-roll-Expr}
use Rattle.c_tree.specs.declared.program.TFunction.{TFunction}
use Rattle.c_tree.specs.declared.program.TLocal.{TLocal}
use Rattle.c_tree.specs.declared.stmt.Stmt.TheVariants as s
use Rattle.c_tree.specs.declared.stmt.Part.TheOpen as layer
use Rattle.c_tree.specs.declared.stmt.Part.TheFolds.{fold-roll-Stmt}
use Rattle.mid_ir.specs.declared.stmt.MidStmt.{MidStmt}
use Rattle.mid_ir.specs.declared.stmt.MidStmt.TheVariants as mid
use Rattle.mid_ir.specs.declared.stmt.SetOp.TheVariants as op
use Rattle.lower_code.specs.Frames.{Variable, Frame}
use Rattle.lower_code.specs.Exprs.{code, place_at, read}
use Rattle.lower_code.specs.Stmts.{coded}
use Rattle.lower_code.specs.Programs.{outermost, function_code}
use Rattle.lower_code.proofs.Codes.{code_Local, code_Binary}
use Rattle.lower_code.proofs.StmtCodes.{code_Return}

abbrev here : Place
here = record { unit = 0; line = 1; col = 1 }

abbrev int : ExprKind → Expr
int x = record { kind = x; ctype = arith_type a.Int; place = here }

abbrev local : ℕ → Expr
local n = int (kind.Local n)

abbrev plus : Expr → Expr → Expr
plus x y = int (kind.Binary bin.Add x y)

abbrev sum : Expr
sum = plus (plus (plus (local 0) (local 1)) (local 2)) (local 3)

-- its four parameters have the first four variables
abbrev frame : Frame
frame = record { homes = Variable 0 ∷ Variable 1 ∷ Variable 2 ∷ Variable 3 ∷ []; free = 4; bytes = 0; globals = []; gives = None }

local_code : (n t : ℕ) (v : ℕ) → slice_get frame.homes n ≡ Some (Variable v) → code frame (local n) t ≡ mid.Set t op.Copy v v ∷ []
local_code n t v e = code_Local frame (local n) n t refl ∙ ap (λ h. read (arith_type a.Int) (place_at h) t) e

plus_code : (x y : Expr) (t : ℕ) → code frame (plus x y) t ≡ code frame x t ++ (code frame y (t + 1) ++ mid.Set t op.Add t (t + 1) ∷ [])
plus_code x y t = code_Binary frame (plus x y) bin.Add x y t refl

one_more : (x : Expr) (n v : ℕ) (c : List MidStmt) → code frame x 4 ≡ c → slice_get frame.homes n ≡ Some (Variable v) → code frame (plus x (local n)) 4 ≡ c ++ (mid.Set 5 op.Copy v v ∷ mid.Set 4 op.Add 4 5 ∷ [])
one_more x n v c h e =
    plus_code x (local n) 4
    ∙ ap (λ z. z ++ (code frame (local n) 5 ++ mid.Set 4 op.Add 4 5 ∷ [])) h
    ∙ ap (λ z. c ++ (z ++ mid.Set 4 op.Add 4 5 ∷ [])) (local_code n 5 v e)

sum_code : coded frame (s.Return (Some sum)) outermost
    ≡ mid.Set 4 op.Copy 0 0 ∷ mid.Set 5 op.Copy 1 1 ∷ mid.Set 4 op.Add 4 5 ∷ mid.Set 5 op.Copy 2 2 ∷ mid.Set 4 op.Add 4 5 ∷ mid.Set 5 op.Copy 3 3 ∷ mid.Set 4 op.Add 4 5 ∷ mid.Return 4 ∷ []
sum_code =
    code_Return frame outermost (Some sum)
    ∙ ap (λ z. z ++ mid.Return 4 ∷ []) (one_more (plus (plus (local 0) (local 1)) (local 2)) 3 3 _ (one_more (plus (local 0) (local 1)) 2 2 _ (one_more (local 0) 1 1 _ (local_code 0 4 0 refl) refl) refl) refl)

-- ---- the function has four slots for its parameters, two for its sum, and so ten variables

depth_is : (x : ExprKind) → depth (int x) ≡ kind_depth x
depth_is x = fold-roll-Expr ℕ ℕ depths.kind_step depths.expr_step (record { kind = x; ctype = arith_type a.Int; place = here })

local_depth : (n : ℕ) → depth (local n) ≡ 1
local_depth n = depth_is (kind.Local n) ∙ ap kind_depth (sym (kind.rolls-Local n)) ∙ fold-roll-ExprKind ℕ ℕ depths.kind_step depths.expr_step (k.Local n)

plus_depth : (x y : Expr) (d e : ℕ) → depth x ≡ d → depth y ≡ e → depth (plus x y) ≡ held 0 (d ∷ e ∷ [])
plus_depth x y d e h i =
    depth_is (kind.Binary bin.Add x y) ∙ ap kind_depth (sym (kind.rolls-Binary bin.Add x y)) ∙ fold-roll-ExprKind ℕ ℕ depths.kind_step depths.expr_step (k.Binary bin.Add x y)
    ∙ ap (λ z. held 0 (z ∷ depth y ∷ [])) h ∙ ap (λ z. held 0 (d ∷ z ∷ [])) i

sum_depth : stmt_depth (s.Return (Some sum)) ≡ 2
sum_depth =
    ap stmt_depth (sym (s.rolls-Return (Some sum))) ∙ fold-roll-Stmt ℕ ℕ depths.part_step depths.stmt_step (layer.Return (Some sum))
    ∙ plus_depth (plus (plus (local 0) (local 1)) (local 2)) (local 3) 2 1 (plus_depth (plus (local 0) (local 1)) (local 2) 2 1 (plus_depth (local 0) (local 1) 1 1 (local_depth 0) (local_depth 1)) (local_depth 2)) (local_depth 3)

abbrev param : List ℕ → TLocal
param name = record { name = name; ctype = arith_type a.Int }

abbrev function : TFunction
function = record {
  name = codes "sum";
  unit = 0;
  ctype = arith_type a.Int;
  entry = false;
  is_static = false;
  params = param (codes "a") ∷ param (codes "b") ∷ param (codes "c") ∷ param (codes "d") ∷ [];
  locals = [];
  body = s.Return (Some sum);
  place = here;
}

ten : (function_code [] function).vars ≡ 10
ten = ap (λ d. 4 + d + 4) sum_depth
