-- What looks at no number of a global or function is the same of a tree with new numbers.
use Rattle.std.proofs.Common.{◌≡◌, ℕ, List, [], ◌∷◌, map, ap, ap₂, sym, ◌∙◌, subst, refl, Option, rules}
use Rattle.c_tree.specs.declared.expr.Expr.{Expr, roll-Expr}
use Rattle.c_tree.specs.declared.expr.ExprKind.{ExprKind, roll-ExprKind}
use Rattle.c_tree.specs.declared.expr.ExprKind.TheVariants as kind
use Rattle.c_tree.specs.declared.expr.ExprKind.TheOpen.{ExprKind-F, Expr-F, Const, Local, Global, Deref, Member, Addr, Convert, Unary, Binary, PtrAdd, PtrDiff, And, Or, Cond, Assign, AssignOp, Step, Comma, Call, NsCall, Range, NsCreate, NsTest, NsCaller}
use Rattle.c_tree.specs.declared.expr.ExprKind.TheFolds.{map-ExprKind, map-Expr, fold-Expr, fold-ExprKind, fold-roll-ExprKind, fold-roll-Expr, ind-Expr, the_lemmas}
use Rattle.join_laws.specs.Renumber.{renumber, renumbered, renumbered_kind, kind_step, expr_step}

-- one layer with new numbers
abbrev pub layer : {A B : Type 0} → List (Option ℕ) → ExprKind-F A B → ExprKind-F A B
layer ns (Global n) = Global (renumber ns n)
layer ns (Call f args) = Call (renumber ns f) args
layer ns x = x

module _ {A B : Type 0} (k1 k2 : ExprKind-F A B → A) (e1 : Expr-F A B → B) (ns : List (Option ℕ)) (steps : (x : ExprKind-F A B) → k2 (layer ns x) ≡ k1 x) where
  abbrev ren : Expr → Expr
  ren = renumbered ns

  abbrev one : Expr → B
  one = fold-Expr A B k1 e1

  abbrev two : Expr → B
  two = fold-Expr A B k2 e1

  abbrev one_kind : ExprKind → A
  one_kind = fold-ExprKind A B k1 e1

  abbrev two_kind : ExprKind → A
  two_kind = fold-ExprKind A B k2 e1

  abbrev KindKept : ExprKind → Type 0
  KindKept k = two_kind (renumbered_kind ns k) ≡ one_kind k

  abbrev Kept : Expr → Type 0
  Kept e = two (ren e) ≡ one e

  abbrev firsts : List ((e : Expr) × Kept e) → List Expr
  firsts es = map (λ e. e.0) es

  all : (es : List ((e : Expr) × Kept e)) → map two (map ren (firsts es)) ≡ map one (firsts es)
  all [] = refl
  all (e ∷ es) = ap₂ (λ x xs. x ∷ xs) e.1 (all es)

  rolled : (x : ExprKind-F ExprKind Expr) → one_kind (roll-ExprKind x) ≡ k1 (map-ExprKind ExprKind Expr A B one_kind one x)
  rolled = fold-roll-ExprKind A B k1 e1

  at : (x z : ExprKind-F ExprKind Expr) → kind_step ns (map-ExprKind ExprKind Expr ExprKind Expr (renumbered_kind ns) ren x) ≡ roll-ExprKind z → two_kind (renumbered_kind ns (roll-ExprKind x)) ≡ k2 (map-ExprKind ExprKind Expr A B two_kind two z)
  at x z e = ap two_kind (fold-roll-ExprKind ExprKind Expr (kind_step ns) expr_step x ∙ e) ∙ fold-roll-ExprKind A B k2 e1 z

  kind_law : (y : ExprKind-F ((k : ExprKind) × KindKept k) ((e : Expr) × Kept e)) → KindKept (roll-ExprKind (map-ExprKind ((k : ExprKind) × KindKept k) ((e : Expr) × Kept e) ExprKind Expr (λ k. k.0) (λ e. e.0) y))
  kind_law (Const n) = at (Const n) (Const n) (sym (kind.rolls-Const n)) ∙ steps (Const n) ∙ sym (rolled (Const n))
  kind_law (Local n) = at (Local n) (Local n) (sym (kind.rolls-Local n)) ∙ steps (Local n) ∙ sym (rolled (Local n))
  kind_law (Global n) = at (Global n) (Global (renumber ns n)) (sym (kind.rolls-Global (renumber ns n))) ∙ steps (Global n) ∙ sym (rolled (Global n))
  kind_law (Deref a) = at (Deref a.0) (Deref (ren a.0)) (sym (kind.rolls-Deref (ren a.0))) ∙ ap (λ v. k2 (Deref v)) a.1 ∙ steps (Deref (one a.0)) ∙ sym (rolled (Deref a.0))
  kind_law (Member a o) = at (Member a.0 o) (Member (ren a.0) o) (sym (kind.rolls-Member (ren a.0) o)) ∙ ap (λ v. k2 (Member v o)) a.1 ∙ steps (Member (one a.0) o) ∙ sym (rolled (Member a.0 o))
  kind_law (Addr a) = at (Addr a.0) (Addr (ren a.0)) (sym (kind.rolls-Addr (ren a.0))) ∙ ap (λ v. k2 (Addr v)) a.1 ∙ steps (Addr (one a.0)) ∙ sym (rolled (Addr a.0))
  kind_law (Convert a) = at (Convert a.0) (Convert (ren a.0)) (sym (kind.rolls-Convert (ren a.0))) ∙ ap (λ v. k2 (Convert v)) a.1 ∙ steps (Convert (one a.0)) ∙ sym (rolled (Convert a.0))
  kind_law (Unary op a) = at (Unary op a.0) (Unary op (ren a.0)) (sym (kind.rolls-Unary op (ren a.0))) ∙ ap (λ v. k2 (Unary op v)) a.1 ∙ steps (Unary op (one a.0)) ∙ sym (rolled (Unary op a.0))
  kind_law (Binary op a b) = at (Binary op a.0 b.0) (Binary op (ren a.0) (ren b.0)) (sym (kind.rolls-Binary op (ren a.0) (ren b.0))) ∙ ap (λ v. k2 (Binary op v (two (ren b.0)))) a.1 ∙ ap (λ v. k2 (Binary op (one a.0) v)) b.1 ∙ steps (Binary op (one a.0) (one b.0)) ∙ sym (rolled (Binary op a.0 b.0))
  kind_law (PtrAdd a b s) = at (PtrAdd a.0 b.0 s) (PtrAdd (ren a.0) (ren b.0) s) (sym (kind.rolls-PtrAdd (ren a.0) (ren b.0) s)) ∙ ap (λ v. k2 (PtrAdd v (two (ren b.0)) s)) a.1 ∙ ap (λ v. k2 (PtrAdd (one a.0) v s)) b.1 ∙ steps (PtrAdd (one a.0) (one b.0) s) ∙ sym (rolled (PtrAdd a.0 b.0 s))
  kind_law (PtrDiff a b s) = at (PtrDiff a.0 b.0 s) (PtrDiff (ren a.0) (ren b.0) s) (sym (kind.rolls-PtrDiff (ren a.0) (ren b.0) s)) ∙ ap (λ v. k2 (PtrDiff v (two (ren b.0)) s)) a.1 ∙ ap (λ v. k2 (PtrDiff (one a.0) v s)) b.1 ∙ steps (PtrDiff (one a.0) (one b.0) s) ∙ sym (rolled (PtrDiff a.0 b.0 s))
  kind_law (And a b) = at (And a.0 b.0) (And (ren a.0) (ren b.0)) (sym (kind.rolls-And (ren a.0) (ren b.0))) ∙ ap (λ v. k2 (And v (two (ren b.0)))) a.1 ∙ ap (λ v. k2 (And (one a.0) v)) b.1 ∙ steps (And (one a.0) (one b.0)) ∙ sym (rolled (And a.0 b.0))
  kind_law (Or a b) = at (Or a.0 b.0) (Or (ren a.0) (ren b.0)) (sym (kind.rolls-Or (ren a.0) (ren b.0))) ∙ ap (λ v. k2 (Or v (two (ren b.0)))) a.1 ∙ ap (λ v. k2 (Or (one a.0) v)) b.1 ∙ steps (Or (one a.0) (one b.0)) ∙ sym (rolled (Or a.0 b.0))
  kind_law (Cond a b c) = at (Cond a.0 b.0 c.0) (Cond (ren a.0) (ren b.0) (ren c.0)) (sym (kind.rolls-Cond (ren a.0) (ren b.0) (ren c.0))) ∙ ap (λ v. k2 (Cond v (two (ren b.0)) (two (ren c.0)))) a.1 ∙ ap (λ v. k2 (Cond (one a.0) v (two (ren c.0)))) b.1 ∙ ap (λ v. k2 (Cond (one a.0) (one b.0) v)) c.1 ∙ steps (Cond (one a.0) (one b.0) (one c.0)) ∙ sym (rolled (Cond a.0 b.0 c.0))
  kind_law (Assign a b) = at (Assign a.0 b.0) (Assign (ren a.0) (ren b.0)) (sym (kind.rolls-Assign (ren a.0) (ren b.0))) ∙ ap (λ v. k2 (Assign v (two (ren b.0)))) a.1 ∙ ap (λ v. k2 (Assign (one a.0) v)) b.1 ∙ steps (Assign (one a.0) (one b.0)) ∙ sym (rolled (Assign a.0 b.0))
  kind_law (AssignOp op a b) = at (AssignOp op a.0 b.0) (AssignOp op (ren a.0) (ren b.0)) (sym (kind.rolls-AssignOp op (ren a.0) (ren b.0))) ∙ ap (λ v. k2 (AssignOp op v (two (ren b.0)))) a.1 ∙ ap (λ v. k2 (AssignOp op (one a.0) v)) b.1 ∙ steps (AssignOp op (one a.0) (one b.0)) ∙ sym (rolled (AssignOp op a.0 b.0))
  kind_law (Step a s o) = at (Step a.0 s o) (Step (ren a.0) s o) (sym (kind.rolls-Step (ren a.0) s o)) ∙ ap (λ v. k2 (Step v s o)) a.1 ∙ steps (Step (one a.0) s o) ∙ sym (rolled (Step a.0 s o))
  kind_law (Comma a b) = at (Comma a.0 b.0) (Comma (ren a.0) (ren b.0)) (sym (kind.rolls-Comma (ren a.0) (ren b.0))) ∙ ap (λ v. k2 (Comma v (two (ren b.0)))) a.1 ∙ ap (λ v. k2 (Comma (one a.0) v)) b.1 ∙ steps (Comma (one a.0) (one b.0)) ∙ sym (rolled (Comma a.0 b.0))
  kind_law (Call f es) = at (Call f (firsts es)) (Call (renumber ns f) (map ren (firsts es))) (sym (kind.rolls-Call (renumber ns f) (map ren (firsts es)))) ∙ ap (λ v. k2 (Call (renumber ns f) v)) (all es) ∙ steps (Call f (map one (firsts es))) ∙ sym (rolled (Call f (firsts es)))
  kind_law (NsCall a es) = at (NsCall a.0 (firsts es)) (NsCall (ren a.0) (map ren (firsts es))) (sym (kind.rolls-NsCall (ren a.0) (map ren (firsts es)))) ∙ ap (λ v. k2 (NsCall v (map two (map ren (firsts es))))) a.1 ∙ ap (λ v. k2 (NsCall (one a.0) v)) (all es) ∙ steps (NsCall (one a.0) (map one (firsts es))) ∙ sym (rolled (NsCall a.0 (firsts es)))
  kind_law (Range a b c) = at (Range a.0 b.0 c.0) (Range (ren a.0) (ren b.0) (ren c.0)) (sym (kind.rolls-Range (ren a.0) (ren b.0) (ren c.0))) ∙ ap (λ v. k2 (Range v (two (ren b.0)) (two (ren c.0)))) a.1 ∙ ap (λ v. k2 (Range (one a.0) v (two (ren c.0)))) b.1 ∙ ap (λ v. k2 (Range (one a.0) (one b.0) v)) c.1 ∙ steps (Range (one a.0) (one b.0) (one c.0)) ∙ sym (rolled (Range a.0 b.0 c.0))
  kind_law (NsCreate a) = at (NsCreate a.0) (NsCreate (ren a.0)) (sym (kind.rolls-NsCreate (ren a.0))) ∙ ap (λ v. k2 (NsCreate v)) a.1 ∙ steps (NsCreate (one a.0)) ∙ sym (rolled (NsCreate a.0))
  kind_law (NsTest a) = at (NsTest a.0) (NsTest (ren a.0)) (sym (kind.rolls-NsTest (ren a.0))) ∙ ap (λ v. k2 (NsTest v)) a.1 ∙ steps (NsTest (one a.0)) ∙ sym (rolled (NsTest a.0))
  kind_law NsCaller = at NsCaller NsCaller (sym kind.rolls-NsCaller) ∙ steps NsCaller ∙ sym (rolled NsCaller)

  expr_law : (y : Expr-F ((k : ExprKind) × KindKept k) ((e : Expr) × Kept e)) → Kept (roll-Expr (map-Expr ((k : ExprKind) × KindKept k) ((e : Expr) × Kept e) ExprKind Expr (λ k. k.0) (λ e. e.0) y))
  expr_law y =
      let x : Expr-F ExprKind Expr = map-Expr ((k : ExprKind) × KindKept k) ((e : Expr) × Kept e) ExprKind Expr (λ k. k.0) (λ e. e.0) y in
      ap two (fold-roll-Expr ExprKind Expr (kind_step ns) expr_step x) ∙ search (rules, the_lemmas, y.kind.1)

  pub keeps : (e : Expr) → two (ren e) ≡ one e
  keeps = ind-Expr KindKept Kept
      (λ x y is. subst (λ z. KindKept (roll-ExprKind z)) is (kind_law y))
      (λ x y is. subst (λ z. Kept (roll-Expr z)) is (expr_law y))
