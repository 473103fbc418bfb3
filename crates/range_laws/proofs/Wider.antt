-- What is in range stays in range where there are more numbers.
use Rattle.std.proofs.Common.{◌≡◌, ℕ, ◌+◌, Bool, true, ◌&&◌, nat_le, nat_lt, List, [], ◌∷◌, map, length, sym, ◌∙◌, subst, refl, Option, None, Some, arith}
use Rattle.std.proofs.lemmas.List.{length-map}
use Rattle.std.proofs.lemmas.Bool.{lt-ltb, ltb-true}
use Rattle.c_tree.specs.declared.expr.Expr.{Expr, roll-Expr}
use Rattle.c_tree.specs.declared.expr.ExprKind.{ExprKind, roll-ExprKind}
use Rattle.c_tree.specs.declared.expr.ExprKind.TheOpen.{ExprKind-F, Expr-F, Const, Local, Global, Deref, Member, Addr, Convert, Unary, Binary, PtrAdd, PtrDiff, And, Or, Cond, Assign, AssignOp, Step, Comma, Call, NsCall, Range, NsCreate, NsTest, NsCaller}
use Rattle.c_tree.specs.declared.expr.ExprKind.TheFolds.{map-ExprKind, map-Expr, fold-ExprKind, fold-roll-ExprKind, fold-roll-Expr, ind-Expr}
use Rattle.c_tree.specs.declared.program.TFunction.{TFunction}
use Rattle.c_tree.specs.declared.stmt.Item.{Item}
use Rattle.c_tree.specs.declared.stmt.Stmt.{Stmt, roll-Stmt}
use Rattle.c_tree.specs.declared.stmt.Part.{Part, roll-Part}
use Rattle.c_tree.specs.declared.stmt.Part.TheOpen as s
use Rattle.c_tree.specs.declared.stmt.Part.TheOpen.{Stmt-F, Part-F}
use Rattle.c_tree.specs.declared.stmt.Part.TheFolds.{map-Stmt, map-Part, fold-Part, fold-roll-Stmt, fold-roll-Part, ind-Part, ind-Stmt}
use Rattle.c_tree.specs.Numbers.{Names, all_true, expr_in_range, expr_step, function_in_range, in_range_or, items_in_range, kind_step, part_step, stmt_in_range, stmt_step}
use Rattle.c_tree.specs.Numbers.{Around as Ranged}
use Rattle.range_laws.specs.Ranges.{IsWithin, NamesWithin}
use Rattle.range_laws.proofs.Both.{both, left, right}

abbrev Goes : Bool → Bool → Type 0
Goes a b = a ≡ true → b ≡ true

two : (a b a' b' : Bool) → Goes a a' → Goes b b' → Goes (a && b) (a' && b')
two a b a' b' f g h = both (f (left a b h)) (g (right a b h))

module _ (a b : Ranged) (w : IsWithin a b) where
  abbrev Holds : Expr → Type 0
  Holds e = Goes (expr_in_range a e) (expr_in_range b e)

  abbrev low_kind : ExprKind → Bool
  low_kind = fold-ExprKind Bool Bool (kind_step a) expr_step

  abbrev high_kind : ExprKind → Bool
  high_kind = fold-ExprKind Bool Bool (kind_step b) expr_step

  abbrev KindHolds : ExprKind → Type 0
  KindHolds k = Goes (low_kind k) (high_kind k)

  abbrev AKind : Type 0
  AKind = (k : ExprKind) × KindHolds k

  abbrev AnExpr : Type 0
  AnExpr = (e : Expr) × Holds e

  abbrev firsts : List AnExpr → List Expr
  firsts es = map (λ e. e.0) es

  pair : (e f : AnExpr) → Goes (expr_in_range a e.0 && expr_in_range a f.0) (expr_in_range b e.0 && expr_in_range b f.0)
  pair e f = two (expr_in_range a e.0) (expr_in_range a f.0) (expr_in_range b e.0) (expr_in_range b f.0) e.1 f.1

  triple : (e f g : AnExpr) → Goes (expr_in_range a e.0 && (expr_in_range a f.0 && expr_in_range a g.0)) (expr_in_range b e.0 && (expr_in_range b f.0 && expr_in_range b g.0))
  triple e f g = two (expr_in_range a e.0) (expr_in_range a f.0 && expr_in_range a g.0) (expr_in_range b e.0) (expr_in_range b f.0 && expr_in_range b g.0) e.1 (pair f g)

  abbrev low_all : List AnExpr → List Bool
  low_all es = map (expr_in_range a) (firsts es)

  abbrev high_all : List AnExpr → List Bool
  high_all es = map (expr_in_range b) (firsts es)

  of_all : (es : List AnExpr) → Goes (all_true (low_all es)) (all_true (high_all es))
  of_all [] h = refl
  of_all (e ∷ es) h = two (expr_in_range a e.0) (all_true (low_all es)) (expr_in_range b e.0) (all_true (high_all es)) e.1 (of_all es) h

  many : (es : List AnExpr) → length (low_all es) ≡ length (high_all es)
  many es = length-map (firsts es) (expr_in_range a) ∙ sym (length-map (firsts es) (expr_in_range b))

  calls : (f : ℕ) (es : List AnExpr) → Goes (a.names.is_function f (length (low_all es)) && all_true (low_all es)) (b.names.is_function f (length (high_all es)) && all_true (high_all es))
  calls f es = two (a.names.is_function f (length (low_all es))) (all_true (low_all es)) (b.names.is_function f (length (high_all es))) (all_true (high_all es))
      (λ h. subst (λ z. b.names.is_function f z ≡ true) (many es) (w.names.functions f (length (low_all es)) h)) (of_all es)

  ns_calls : (e : AnExpr) (es : List AnExpr) → Goes (nat_le (length (low_all es)) 4 && (expr_in_range a e.0 && all_true (low_all es))) (nat_le (length (high_all es)) 4 && (expr_in_range b e.0 && all_true (high_all es)))
  ns_calls e es = two (nat_le (length (low_all es)) 4) (expr_in_range a e.0 && all_true (low_all es)) (nat_le (length (high_all es)) 4) (expr_in_range b e.0 && all_true (high_all es))
      (λ h. subst (λ z. nat_le z 4 ≡ true) (many es) h) (two (expr_in_range a e.0) (all_true (low_all es)) (expr_in_range b e.0) (all_true (high_all es)) e.1 (of_all es))

  locals : (n : ℕ) → Goes (nat_lt n a.locals) (nat_lt n b.locals)
  locals n h = lt-ltb n b.locals (let l = ltb-true n a.locals h in omega (arith, l, w.locals))

  into : (x : ExprKind-F ExprKind Expr) → Goes (kind_step a (map-ExprKind ExprKind Expr Bool Bool low_kind (expr_in_range a) x)) (kind_step b (map-ExprKind ExprKind Expr Bool Bool high_kind (expr_in_range b) x)) → KindHolds (roll-ExprKind x)
  into x f h = fold-roll-ExprKind Bool Bool (kind_step b) expr_step x ∙ f (sym (fold-roll-ExprKind Bool Bool (kind_step a) expr_step x) ∙ h)

  kind_law : (y : ExprKind-F AKind AnExpr) → KindHolds (roll-ExprKind (map-ExprKind AKind AnExpr ExprKind Expr (λ k. k.0) (λ e. e.0) y))
  kind_law (Const v) = into (Const v) (λ h. h)
  kind_law (Local n) = into (Local n) (locals n)
  kind_law (Global n) = into (Global n) (w.names.globals n)
  kind_law (Deref e) = into (Deref e.0) e.1
  kind_law (Member e o) = into (Member e.0 o) e.1
  kind_law (Addr e) = into (Addr e.0) e.1
  kind_law (Convert e) = into (Convert e.0) e.1
  kind_law (Unary op e) = into (Unary op e.0) e.1
  kind_law (Binary op e f) = into (Binary op e.0 f.0) (pair e f)
  kind_law (PtrAdd e f z) = into (PtrAdd e.0 f.0 z) (pair e f)
  kind_law (PtrDiff e f z) = into (PtrDiff e.0 f.0 z) (pair e f)
  kind_law (And e f) = into (And e.0 f.0) (pair e f)
  kind_law (Or e f) = into (Or e.0 f.0) (pair e f)
  kind_law (Cond e f g) = into (Cond e.0 f.0 g.0) (triple e f g)
  kind_law (Assign e f) = into (Assign e.0 f.0) (pair e f)
  kind_law (AssignOp op e f) = into (AssignOp op e.0 f.0) (pair e f)
  kind_law (Step e z o) = into (Step e.0 z o) e.1
  kind_law (Comma e f) = into (Comma e.0 f.0) (pair e f)
  kind_law (Call f es) = into (Call f (firsts es)) (calls f es)
  kind_law (NsCall e es) = into (NsCall e.0 (firsts es)) (ns_calls e es)
  kind_law (Range e f g) = into (Range e.0 f.0 g.0) (triple e f g)
  kind_law (NsCreate e) = into (NsCreate e.0) e.1
  kind_law (NsTest e) = into (NsTest e.0) e.1
  kind_law NsCaller = into NsCaller w.entry

  expr_law : (y : Expr-F AKind AnExpr) → Holds (roll-Expr (map-Expr AKind AnExpr ExprKind Expr (λ k. k.0) (λ e. e.0) y))
  expr_law y h =
      let x : Expr-F ExprKind Expr = map-Expr AKind AnExpr ExprKind Expr (λ k. k.0) (λ e. e.0) y in
      fold-roll-Expr Bool Bool (kind_step b) expr_step x ∙ y.kind.1 (sym (fold-roll-Expr Bool Bool (kind_step a) expr_step x) ∙ h)

  pub expr_wider : (e : Expr) → expr_in_range a e ≡ true → expr_in_range b e ≡ true
  expr_wider = ind-Expr KindHolds Holds
      (λ x y is. subst (λ z. KindHolds (roll-ExprKind z)) is (kind_law y))
      (λ x y is. subst (λ z. Holds (roll-Expr z)) is (expr_law y))

  pub or_wider : (e : Option Expr) → in_range_or a e ≡ true → in_range_or b e ≡ true
  or_wider None h = refl
  or_wider (Some e) h = expr_wider e h

  pub items_wider : (items : List Item) → items_in_range a items ≡ true → items_in_range b items ≡ true
  items_wider [] h = refl
  items_wider (i ∷ is) h = two (expr_in_range a i.value) (items_in_range a is) (expr_in_range b i.value) (items_in_range b is) (expr_wider i.value) (items_wider is) h

  -- ---- statements

  abbrev StmtHolds : Stmt → Type 0
  StmtHolds x = Goes (stmt_in_range a x) (stmt_in_range b x)

  abbrev low_part : Part → Bool
  low_part = fold-Part Bool Bool part_step (stmt_step a)

  abbrev high_part : Part → Bool
  high_part = fold-Part Bool Bool part_step (stmt_step b)

  abbrev PartHolds : Part → Type 0
  PartHolds x = Goes (low_part x) (high_part x)

  abbrev AStmt : Type 0
  AStmt = (x : Stmt) × StmtHolds x

  abbrev APart : Type 0
  APart = (x : Part) × PartHolds x

  abbrev stmts : List AStmt → List Stmt
  stmts xs = map (λ x. x.0) xs

  abbrev parts : List APart → List Part
  parts xs = map (λ x. x.0) xs

  of_stmts : (xs : List AStmt) → Goes (all_true (map (stmt_in_range a) (stmts xs))) (all_true (map (stmt_in_range b) (stmts xs)))
  of_stmts [] h = refl
  of_stmts (x ∷ xs) h = two (stmt_in_range a x.0) (all_true (map (stmt_in_range a) (stmts xs))) (stmt_in_range b x.0) (all_true (map (stmt_in_range b) (stmts xs))) x.1 (of_stmts xs) h

  of_parts : (xs : List APart) → Goes (all_true (map low_part (parts xs))) (all_true (map high_part (parts xs)))
  of_parts [] h = refl
  of_parts (x ∷ xs) h = two (low_part x.0) (all_true (map low_part (parts xs))) (high_part x.0) (all_true (map high_part (parts xs))) x.1 (of_parts xs) h

  stmt_into : (x : Stmt-F Part Stmt) → Goes (stmt_step a (map-Stmt Part Stmt Bool Bool low_part (stmt_in_range a) x)) (stmt_step b (map-Stmt Part Stmt Bool Bool high_part (stmt_in_range b) x)) → StmtHolds (roll-Stmt x)
  stmt_into x f h = fold-roll-Stmt Bool Bool part_step (stmt_step b) x ∙ f (sym (fold-roll-Stmt Bool Bool part_step (stmt_step a) x) ∙ h)

  part_into : (x : Part-F Part Stmt) → Goes (part_step (map-Part Part Stmt Bool Bool low_part (stmt_in_range a) x)) (part_step (map-Part Part Stmt Bool Bool high_part (stmt_in_range b) x)) → PartHolds (roll-Part x)
  part_into x f h = fold-roll-Part Bool Bool part_step (stmt_step b) x ∙ f (sym (fold-roll-Part Bool Bool part_step (stmt_step a) x) ∙ h)

  test : (e : Expr) (x y : Bool) → Goes x y → Goes (expr_in_range a e && x) (expr_in_range b e && y)
  test e x y f = two (expr_in_range a e) x (expr_in_range b e) y (expr_wider e) f

  stmt_law : (y : Stmt-F APart AStmt) → StmtHolds (roll-Stmt (map-Stmt APart AStmt Part Stmt (λ x. x.0) (λ x. x.0) y))
  stmt_law s.Empty = stmt_into s.Empty (λ h. h)
  stmt_law (s.Expr e) = stmt_into (s.Expr e) (expr_wider e)
  stmt_law (s.Declare local items) = stmt_into (s.Declare local items) (two (nat_lt local a.locals) (items_in_range a items) (nat_lt local b.locals) (items_in_range b items) (locals local) (items_wider items))
  stmt_law (s.Block xs) = stmt_into (s.Block (stmts xs)) (of_stmts xs)
  stmt_law (s.If t x None) = stmt_into (s.If t x.0 None) (test t (stmt_in_range a x.0 && true) (stmt_in_range b x.0 && true) (two (stmt_in_range a x.0) true (stmt_in_range b x.0) true x.1 (λ h. h)))
  stmt_law (s.If t x (Some z)) = stmt_into (s.If t x.0 (Some z.0)) (test t (stmt_in_range a x.0 && stmt_in_range a z.0) (stmt_in_range b x.0 && stmt_in_range b z.0) (two (stmt_in_range a x.0) (stmt_in_range a z.0) (stmt_in_range b x.0) (stmt_in_range b z.0) x.1 z.1))
  stmt_law (s.While t x) = stmt_into (s.While t x.0) (test t (stmt_in_range a x.0) (stmt_in_range b x.0) x.1)
  stmt_law (s.DoWhile x t) = stmt_into (s.DoWhile x.0 t) (two (stmt_in_range a x.0) (expr_in_range a t) (stmt_in_range b x.0) (expr_in_range b t) x.1 (expr_wider t))
  stmt_law (s.For xs t n x) = stmt_into (s.For (stmts xs) t n x.0)
      (two (all_true (map (stmt_in_range a) (stmts xs))) (in_range_or a t && (in_range_or a n && stmt_in_range a x.0)) (all_true (map (stmt_in_range b) (stmts xs))) (in_range_or b t && (in_range_or b n && stmt_in_range b x.0)) (of_stmts xs)
      (two (in_range_or a t) (in_range_or a n && stmt_in_range a x.0) (in_range_or b t) (in_range_or b n && stmt_in_range b x.0) (or_wider t)
      (two (in_range_or a n) (stmt_in_range a x.0) (in_range_or b n) (stmt_in_range b x.0) (or_wider n) x.1)))
  stmt_law (s.Switch e xs) = stmt_into (s.Switch e (parts xs)) (test e (all_true (map low_part (parts xs))) (all_true (map high_part (parts xs))) (of_parts xs))
  stmt_law s.Break = stmt_into s.Break (λ h. h)
  stmt_law s.Continue = stmt_into s.Continue (λ h. h)
  stmt_law (s.Return e) = stmt_into (s.Return e) (or_wider e)

  part_law : (y : Part-F APart AStmt) → PartHolds (roll-Part (map-Part APart AStmt Part Stmt (λ x. x.0) (λ x. x.0) y))
  part_law (s.Case n) = part_into (s.Case n) (λ h. h)
  part_law s.Default = part_into s.Default (λ h. h)
  part_law (s.Stmt x) = part_into (s.Stmt x.0) x.1

  pub stmt_wider : (x : Stmt) → stmt_in_range a x ≡ true → stmt_in_range b x ≡ true
  stmt_wider = ind-Stmt PartHolds StmtHolds
      (λ x y is. subst (λ z. PartHolds (roll-Part z)) is (part_law y))
      (λ x y is. subst (λ z. StmtHolds (roll-Stmt z)) is (stmt_law y))

  pub part_wider : (x : Part) → low_part x ≡ true → high_part x ≡ true
  part_wider = ind-Part PartHolds StmtHolds
      (λ x y is. subst (λ z. PartHolds (roll-Part z)) is (part_law y))
      (λ x y is. subst (λ z. StmtHolds (roll-Stmt z)) is (stmt_law y))

pub function_wider : (a b : Names) → NamesWithin a b → (f : TFunction) → function_in_range a f ≡ true → function_in_range b f ≡ true
function_wider a b w f h =
    let n : ℕ = length f.params + length f.locals in
    stmt_wider (record { names = a; locals = n; entry = f.entry }) (record { names = b; locals = n; entry = f.entry }) (record { names = w; locals = omega arith; entry = λ e. e }) f.body h
