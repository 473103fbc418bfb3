-- Where each name that a tree uses is defined, its new numbers are in range.
use Rattle.std.proofs.Common.{◌≡◌, ℕ, suc, Bool, true, false, ◌&&◌, nat_le, nat_lt, List, [], ◌∷◌, ◌++◌, map, length, ap, ap₂, sym, ◌∙◌, subst, refl, Option, None, Some}
use Rattle.std.specs.List.{flat_map, list_all}
use Rattle.c_tree.specs.declared.expr.Expr.{Expr, roll-Expr}
use Rattle.c_tree.specs.declared.expr.ExprKind.{ExprKind, roll-ExprKind}
use Rattle.c_tree.specs.declared.expr.ExprKind.TheOpen.{ExprKind-F, Expr-F, Const, Local, Global, Deref, Member, Addr, Convert, Unary, Binary, PtrAdd, PtrDiff, And, Or, Cond, Assign, AssignOp, Step, Comma, Call, NsCall, Range, NsCreate, NsTest, NsCaller}
use Rattle.c_tree.specs.declared.expr.ExprKind.TheFolds.{map-ExprKind, map-Expr, fold-ExprKind, fold-roll-ExprKind, fold-roll-Expr, ind-Expr}
use Rattle.cm_base.specs.declared.place.Place.{Place}
use Rattle.c_tree.specs.declared.stmt.Item.{Item}
use Rattle.c_tree.specs.declared.stmt.Stmt.{Stmt, roll-Stmt}
use Rattle.c_tree.specs.declared.stmt.Part.{Part, roll-Part}
use Rattle.c_tree.specs.declared.stmt.Part.TheOpen as s
use Rattle.c_tree.specs.declared.stmt.Part.TheOpen.{Stmt-F, Part-F}
use Rattle.c_tree.specs.declared.stmt.Part.TheFolds.{map-Stmt, map-Part, fold-Part, fold-roll-Stmt, fold-roll-Part, ind-Stmt}
use Rattle.c_tree.specs.Numbers as r
use Rattle.c_tree.specs.Numbers.{Around, Names, all_true}
use Rattle.join_laws.specs.Renumber.{renumber, renumbered, renumbered_items, renumbered_or, renumbered_stmt}
use Rattle.join_laws.specs.Uses as u
use Rattle.join_laws.specs.Uses.{Use, Uses, all_defined, is_defined}
use Rattle.join_laws.proofs.Keeps.{keeps, layer}
use Rattle.join_laws.proofs.StmtKeeps.{stmt_keeps, stmt_layer}

abbrev Goes : Bool → Bool → Bool → Type 0
Goes a d b = a ≡ true → d ≡ true → b ≡ true

left : (a b : Bool) → (a && b) ≡ true → a ≡ true
left true b h = refl
left false b h = h

right : (a b : Bool) → (a && b) ≡ true → b ≡ true
right true b h = h
right false true h = refl
right false false h = h

both : (a b : Bool) → a ≡ true → b ≡ true → (a && b) ≡ true
both true b h g = g
both false b h g = h

-- of two parts
two : (a b d e a' b' : Bool) → Goes a d a' → Goes b e b' → Goes (a && b) (d && e) (a' && b')
two a b d e a' b' f g h k = both a' b' (f (left a b h) (left d e k)) (g (right a b h) (right d e k))

-- of parts of which a uses no name
free : (a b e b' : Bool) → Goes b e b' → Goes (a && b) e (a && b')
free a b e b' g h k = both a b' (left a b h) (g (right a b h) k)

pub all_append : {X : Type 0} (p : X → Bool) (xs ys : List X) → list_all p (xs ++ ys) ≡ (list_all p xs && list_all p ys)
all_append p [] ys = refl
all_append p (x ∷ xs) ys = ap (λ b. p x && b) (all_append p xs ys) ∙ and_assoc (p x) (list_all p xs) (list_all p ys)
  where
    and_assoc : (a b c : Bool) → (a && (b && c)) ≡ ((a && b) && c)
    and_assoc true b c = refl
    and_assoc false b c = refl

module _ (ns : List (Option ℕ)) (a : Around) (after : Names)
    (globals : (n : ℕ) → a.names.is_global n ≡ true → is_defined ns n ≡ true → after.is_global (renumber ns n) ≡ true)
    (functions : (n m : ℕ) → a.names.is_function n m ≡ true → is_defined ns n ≡ true → after.is_function (renumber ns n) m ≡ true) where
  -- what stands around afterwards
  abbrev pub afterwards : Around
  afterwards = record { names = after; locals = a.locals; entry = a.entry }

  -- and the same by the old numbers
  abbrev shifted : Around
  shifted = record { names = record { is_global = λ n. after.is_global (renumber ns n); is_function = λ n m. after.is_function (renumber ns n) m }; locals = a.locals; entry = a.entry }

  abbrev meant : List Use → Bool
  meant us = all_defined ns us

  abbrev own_defined : Option ℕ → Bool
  own_defined None = true
  own_defined (Some n) = is_defined ns n

  abbrev kind_defined : Uses → Bool
  kind_defined x = own_defined x.own && meant x.inner

  abbrev Holds : Expr → Type 0
  Holds e = Goes (r.expr_in_range a e) (meant (u.uses e)) (r.expr_in_range shifted e)

  abbrev old_kind : ExprKind → Bool
  old_kind = fold-ExprKind Bool Bool (r.kind_step a) r.expr_step

  abbrev new_kind : ExprKind → Bool
  new_kind = fold-ExprKind Bool Bool (r.kind_step shifted) r.expr_step

  abbrev KindHolds : ExprKind → Type 0
  KindHolds k = Goes (old_kind k) (kind_defined (u.kind_uses k)) (new_kind k)

  abbrev AKind : Type 0
  AKind = (k : ExprKind) × KindHolds k

  abbrev AnExpr : Type 0
  AnExpr = (e : Expr) × Holds e

  abbrev firsts : List AnExpr → List Expr
  firsts es = map (λ e. e.0) es

  of_two : (x y : List Use) (b c b' c' : Bool) → Goes b (meant x) b' → Goes c (meant y) c' → Goes (b && c) (meant (x ++ y)) (b' && c')
  of_two x y b c b' c' f g h k = two b c (meant x) (meant y) b' c' f g h (sym (all_append (λ z. is_defined ns z.number) x y) ∙ k)

  of_three : (x y z : List Use) (b c d b' c' d' : Bool) → Goes b (meant x) b' → Goes c (meant y) c' → Goes d (meant z) d' → Goes (b && (c && d)) (meant ((x ++ y) ++ z)) (b' && (c' && d'))
  of_three x y z b c d b' c' d' f g i h k =
      let kk = sym (all_append (λ w. is_defined ns w.number) (x ++ y) z) ∙ k in
      let kxy = sym (all_append (λ w. is_defined ns w.number) x y) ∙ left (meant (x ++ y)) (meant z) kk in
      both b' (c' && d') (f (left b (c && d) h) (left (meant x) (meant y) kxy))
      (both c' d' (g (left c d (right b (c && d) h)) (right (meant x) (meant y) kxy)) (i (right c d (right b (c && d) h)) (right (meant (x ++ y)) (meant z) kk)))

  of_all : (es : List AnExpr) → Goes (all_true (map (r.expr_in_range a) (firsts es))) (meant (flat_map (λ x. x) (map u.uses (firsts es)))) (all_true (map (r.expr_in_range shifted) (firsts es)))
  of_all [] h k = refl
  of_all (e ∷ es) h k = of_two (u.uses e.0) (flat_map (λ x. x) (map u.uses (firsts es))) (r.expr_in_range a e.0) (all_true (map (r.expr_in_range a) (firsts es))) (r.expr_in_range shifted e.0) (all_true (map (r.expr_in_range shifted) (firsts es))) e.1 (of_all es) h k

  lengths : {B C : Type 0} (f : Expr → B) (g : Expr → C) (es : List Expr) → length (map f es) ≡ length (map g es)
  lengths f g [] = refl
  lengths f g (e ∷ es) = ap suc (lengths f g es)

  into : (x : ExprKind-F ExprKind Expr) → Goes (r.kind_step a (map-ExprKind ExprKind Expr Bool Bool old_kind (r.expr_in_range a) x)) (kind_defined (u.kind_step (map-ExprKind ExprKind Expr Uses (List Use) u.kind_uses u.uses x))) (r.kind_step shifted (map-ExprKind ExprKind Expr Bool Bool new_kind (r.expr_in_range shifted) x)) → KindHolds (roll-ExprKind x)
  into x f h k = fold-roll-ExprKind Bool Bool (r.kind_step shifted) r.expr_step x ∙ f (sym (fold-roll-ExprKind Bool Bool (r.kind_step a) r.expr_step x) ∙ h) (sym (ap kind_defined (fold-roll-ExprKind Uses (List Use) u.kind_step u.expr_step x)) ∙ k)

  pair : (e f : AnExpr) → Goes (r.expr_in_range a e.0 && r.expr_in_range a f.0) (meant (u.uses e.0 ++ u.uses f.0)) (r.expr_in_range shifted e.0 && r.expr_in_range shifted f.0)
  pair e f = of_two (u.uses e.0) (u.uses f.0) (r.expr_in_range a e.0) (r.expr_in_range a f.0) (r.expr_in_range shifted e.0) (r.expr_in_range shifted f.0) e.1 f.1

  triple : (e f g : AnExpr) → Goes (r.expr_in_range a e.0 && (r.expr_in_range a f.0 && r.expr_in_range a g.0)) (meant ((u.uses e.0 ++ u.uses f.0) ++ u.uses g.0)) (r.expr_in_range shifted e.0 && (r.expr_in_range shifted f.0 && r.expr_in_range shifted g.0))
  triple e f g = of_three (u.uses e.0) (u.uses f.0) (u.uses g.0) (r.expr_in_range a e.0) (r.expr_in_range a f.0) (r.expr_in_range a g.0) (r.expr_in_range shifted e.0) (r.expr_in_range shifted f.0) (r.expr_in_range shifted g.0) e.1 f.1 g.1

  abbrev old_all : List AnExpr → List Bool
  old_all es = map (r.expr_in_range a) (firsts es)

  abbrev new_all : List AnExpr → List Bool
  new_all es = map (r.expr_in_range shifted) (firsts es)

  abbrev all_used : List AnExpr → List Use
  all_used es = flat_map (λ x. x) (map u.uses (firsts es))

  calls : (f : ℕ) (es : List AnExpr) → Goes (a.names.is_function f (length (old_all es)) && all_true (old_all es)) (is_defined ns f && meant (all_used es)) (after.is_function (renumber ns f) (length (new_all es)) && all_true (new_all es))
  calls f es h k =
      let m : length (old_all es) ≡ length (new_all es) = lengths (r.expr_in_range a) (r.expr_in_range shifted) (firsts es) in
      let known = functions f (length (old_all es)) (left (a.names.is_function f (length (old_all es))) (all_true (old_all es)) h) (left (is_defined ns f) (meant (all_used es)) k) in
      both (after.is_function (renumber ns f) (length (new_all es))) (all_true (new_all es)) (subst (λ z. after.is_function (renumber ns f) z ≡ true) m known)
      (of_all es (right (a.names.is_function f (length (old_all es))) (all_true (old_all es)) h) (right (is_defined ns f) (meant (all_used es)) k))

  ns_calls : (e : AnExpr) (es : List AnExpr) → Goes (nat_le (length (old_all es)) 4 && (r.expr_in_range a e.0 && all_true (old_all es))) (meant (u.uses e.0 ++ all_used es)) (nat_le (length (new_all es)) 4 && (r.expr_in_range shifted e.0 && all_true (new_all es)))
  ns_calls e es h k =
      let m : length (old_all es) ≡ length (new_all es) = lengths (r.expr_in_range a) (r.expr_in_range shifted) (firsts es) in
      both (nat_le (length (new_all es)) 4) (r.expr_in_range shifted e.0 && all_true (new_all es)) (subst (λ z. nat_le z 4 ≡ true) m (left (nat_le (length (old_all es)) 4) (r.expr_in_range a e.0 && all_true (old_all es)) h))
      (of_two (u.uses e.0) (all_used es) (r.expr_in_range a e.0) (all_true (old_all es)) (r.expr_in_range shifted e.0) (all_true (new_all es)) e.1 (of_all es) (right (nat_le (length (old_all es)) 4) (r.expr_in_range a e.0 && all_true (old_all es)) h) k)

  kind_law : (y : ExprKind-F AKind AnExpr) → KindHolds (roll-ExprKind (map-ExprKind AKind AnExpr ExprKind Expr (λ k. k.0) (λ e. e.0) y))
  kind_law (Const v) = into (Const v) (λ h k. h)
  kind_law (Local n) = into (Local n) (λ h k. h)
  kind_law (Global n) = into (Global n) (λ h k. globals n h (left (is_defined ns n) true k))
  kind_law (Deref e) = into (Deref e.0) e.1
  kind_law (Member e o) = into (Member e.0 o) e.1
  kind_law (Addr e) = into (Addr e.0) e.1
  kind_law (Convert e) = into (Convert e.0) e.1
  kind_law (Unary op e) = into (Unary op e.0) e.1
  kind_law (Binary op e f) = into (Binary op e.0 f.0) (pair e f)
  kind_law (PtrAdd e f z) = into (PtrAdd e.0 f.0 z) (pair e f)
  kind_law (PtrDiff e f z) = into (PtrDiff e.0 f.0 z) (pair e f)
  kind_law (And e f) = into (And e.0 f.0) (pair e f)
  kind_law (Or e f) = into (Or e.0 f.0) (pair e f)
  kind_law (Cond e f g) = into (Cond e.0 f.0 g.0) (triple e f g)
  kind_law (Assign e f) = into (Assign e.0 f.0) (pair e f)
  kind_law (AssignOp op e f) = into (AssignOp op e.0 f.0) (pair e f)
  kind_law (Step e z o) = into (Step e.0 z o) e.1
  kind_law (Comma e f) = into (Comma e.0 f.0) (pair e f)
  kind_law (Call f es) = into (Call f (firsts es)) (calls f es)
  kind_law (NsCall e es) = into (NsCall e.0 (firsts es)) (ns_calls e es)
  kind_law (Range e f g) = into (Range e.0 f.0 g.0) (triple e f g)
  kind_law (NsCreate e) = into (NsCreate e.0) e.1
  kind_law (NsTest e) = into (NsTest e.0) e.1
  kind_law NsCaller = into NsCaller (λ h k. h)

  own_split : (own : Option ℕ) (place : Place) (inner : List Use) → meant (u.own_use own place ++ inner) ≡ (own_defined own && meant inner)
  own_split None place inner = refl
  own_split (Some n) place inner = refl

  expr_law : (y : Expr-F AKind AnExpr) → Holds (roll-Expr (map-Expr AKind AnExpr ExprKind Expr (λ k. k.0) (λ e. e.0) y))
  expr_law y h k =
      let x : Expr-F ExprKind Expr = map-Expr AKind AnExpr ExprKind Expr (λ k. k.0) (λ e. e.0) y in
      let old = fold-roll-Expr Bool Bool (r.kind_step a) r.expr_step x in
      let new = fold-roll-Expr Bool Bool (r.kind_step shifted) r.expr_step x in
      let used = fold-roll-Expr Uses (List Use) u.kind_step u.expr_step x in
      new ∙ y.kind.1 (sym old ∙ h) (sym (own_split (u.kind_uses y.kind.0).own y.place (u.kind_uses y.kind.0).inner) ∙ (sym (ap meant used) ∙ k))

  pub expr_holds : (e : Expr) → Holds e
  expr_holds = ind-Expr KindHolds Holds
      (λ x y is. subst (λ z. KindHolds (roll-ExprKind z)) is (kind_law y))
      (λ x y is. subst (λ z. Holds (roll-Expr z)) is (expr_law y))

  or_holds : (e : Option Expr) → Goes (r.in_range_or a e) (meant (u.uses_or e)) (r.in_range_or shifted e)
  or_holds None h k = refl
  or_holds (Some e) h k = expr_holds e h k

  items_hold : (items : List Item) → Goes (r.items_in_range a items) (meant (u.items_uses items)) (r.items_in_range shifted items)
  items_hold [] h k = refl
  items_hold (i ∷ is) h k = of_two (u.uses i.value) (u.items_uses is) (r.expr_in_range a i.value) (r.items_in_range a is) (r.expr_in_range shifted i.value) (r.items_in_range shifted is) (expr_holds i.value) (items_hold is) h k

  -- ---- statements

  abbrev StmtHolds : Stmt → Type 0
  StmtHolds x = Goes (r.stmt_in_range a x) (meant (u.stmt_uses x)) (r.stmt_in_range shifted x)

  abbrev old_part : Part → Bool
  old_part = fold-Part Bool Bool r.part_step (r.stmt_step a)

  abbrev new_part : Part → Bool
  new_part = fold-Part Bool Bool r.part_step (r.stmt_step shifted)

  abbrev PartHolds : Part → Type 0
  PartHolds x = Goes (old_part x) (meant (u.part_uses x)) (new_part x)

  abbrev AStmt : Type 0
  AStmt = (x : Stmt) × StmtHolds x

  abbrev APart : Type 0
  APart = (x : Part) × PartHolds x

  abbrev stmts : List AStmt → List Stmt
  stmts xs = map (λ x. x.0) xs

  abbrev parts : List APart → List Part
  parts xs = map (λ x. x.0) xs

  of_stmts : (xs : List AStmt) → Goes (all_true (map (r.stmt_in_range a) (stmts xs))) (meant (flat_map (λ x. x) (map u.stmt_uses (stmts xs)))) (all_true (map (r.stmt_in_range shifted) (stmts xs)))
  of_stmts [] h k = refl
  of_stmts (x ∷ xs) h k = of_two (u.stmt_uses x.0) (flat_map (λ x. x) (map u.stmt_uses (stmts xs))) (r.stmt_in_range a x.0) (all_true (map (r.stmt_in_range a) (stmts xs))) (r.stmt_in_range shifted x.0) (all_true (map (r.stmt_in_range shifted) (stmts xs))) x.1 (of_stmts xs) h k

  of_parts : (xs : List APart) → Goes (all_true (map old_part (parts xs))) (meant (flat_map (λ x. x) (map u.part_uses (parts xs)))) (all_true (map new_part (parts xs)))
  of_parts [] h k = refl
  of_parts (x ∷ xs) h k = of_two (u.part_uses x.0) (flat_map (λ x. x) (map u.part_uses (parts xs))) (old_part x.0) (all_true (map old_part (parts xs))) (new_part x.0) (all_true (map new_part (parts xs))) x.1 (of_parts xs) h k

  stmt_into : (x : Stmt-F Part Stmt) → Goes (r.stmt_step a (map-Stmt Part Stmt Bool Bool old_part (r.stmt_in_range a) x)) (meant (u.stmt_step (map-Stmt Part Stmt (List Use) (List Use) u.part_uses u.stmt_uses x))) (r.stmt_step shifted (map-Stmt Part Stmt Bool Bool new_part (r.stmt_in_range shifted) x)) → StmtHolds (roll-Stmt x)
  stmt_into x f h k = fold-roll-Stmt Bool Bool r.part_step (r.stmt_step shifted) x ∙ f (sym (fold-roll-Stmt Bool Bool r.part_step (r.stmt_step a) x) ∙ h) (sym (ap meant (fold-roll-Stmt (List Use) (List Use) u.part_step u.stmt_step x)) ∙ k)

  part_into : (x : Part-F Part Stmt) → Goes (r.part_step (map-Part Part Stmt Bool Bool old_part (r.stmt_in_range a) x)) (meant (u.part_step (map-Part Part Stmt (List Use) (List Use) u.part_uses u.stmt_uses x))) (r.part_step (map-Part Part Stmt Bool Bool new_part (r.stmt_in_range shifted) x)) → PartHolds (roll-Part x)
  part_into x f h k = fold-roll-Part Bool Bool r.part_step (r.stmt_step shifted) x ∙ f (sym (fold-roll-Part Bool Bool r.part_step (r.stmt_step a) x) ∙ h) (sym (ap meant (fold-roll-Part (List Use) (List Use) u.part_step u.stmt_step x)) ∙ k)

  abbrev tests : Expr → Bool
  tests e = r.expr_in_range a e

  abbrev news : Expr → Bool
  news e = r.expr_in_range shifted e

  if_some : (t : Expr) (x y : AStmt) → Goes (tests t && (r.stmt_in_range a x.0 && r.stmt_in_range a y.0)) (meant ((u.uses t ++ u.stmt_uses x.0) ++ u.stmt_uses y.0)) (news t && (r.stmt_in_range shifted x.0 && r.stmt_in_range shifted y.0))
  if_some t x y = of_three (u.uses t) (u.stmt_uses x.0) (u.stmt_uses y.0) (tests t) (r.stmt_in_range a x.0) (r.stmt_in_range a y.0) (news t) (r.stmt_in_range shifted x.0) (r.stmt_in_range shifted y.0) (expr_holds t) x.1 y.1

  if_none : (t : Expr) (x : AStmt) → Goes (tests t && (r.stmt_in_range a x.0 && true)) (meant ((u.uses t ++ u.stmt_uses x.0) ++ [])) (news t && (r.stmt_in_range shifted x.0 && true))
  if_none t x = of_three (u.uses t) (u.stmt_uses x.0) [] (tests t) (r.stmt_in_range a x.0) true (news t) (r.stmt_in_range shifted x.0) true (expr_holds t) x.1 (λ h k. refl)

  for_all : (xs : List AStmt) (t n : Option Expr) (x : AStmt) → Goes (all_true (map (r.stmt_in_range a) (stmts xs)) && (r.in_range_or a t && (r.in_range_or a n && r.stmt_in_range a x.0))) (meant (((flat_map (λ x. x) (map u.stmt_uses (stmts xs)) ++ u.uses_or t) ++ u.uses_or n) ++ u.stmt_uses x.0)) (all_true (map (r.stmt_in_range shifted) (stmts xs)) && (r.in_range_or shifted t && (r.in_range_or shifted n && r.stmt_in_range shifted x.0)))
  for_all xs t n x h k =
      let p = all_true (map (r.stmt_in_range a) (stmts xs)) in
      let q = r.in_range_or a t && (r.in_range_or a n && r.stmt_in_range a x.0) in
      let us : List Use = flat_map (λ x. x) (map u.stmt_uses (stmts xs)) in
      let test : Use → Bool = λ z. is_defined ns z.number in
      let k3 = sym (all_append test ((us ++ u.uses_or t) ++ u.uses_or n) (u.stmt_uses x.0)) ∙ k in
      let k2 = sym (all_append test (us ++ u.uses_or t) (u.uses_or n)) ∙ left (meant ((us ++ u.uses_or t) ++ u.uses_or n)) (meant (u.stmt_uses x.0)) k3 in
      let k1 = sym (all_append test us (u.uses_or t)) ∙ left (meant (us ++ u.uses_or t)) (meant (u.uses_or n)) k2 in
      let h2 = right p q h in
      let h3 = right (r.in_range_or a t) (r.in_range_or a n && r.stmt_in_range a x.0) h2 in
      both (all_true (map (r.stmt_in_range shifted) (stmts xs))) (r.in_range_or shifted t && (r.in_range_or shifted n && r.stmt_in_range shifted x.0)) (of_stmts xs (left p q h) (left (meant us) (meant (u.uses_or t)) k1))
      (both (r.in_range_or shifted t) (r.in_range_or shifted n && r.stmt_in_range shifted x.0) (or_holds t (left (r.in_range_or a t) (r.in_range_or a n && r.stmt_in_range a x.0) h2) (right (meant us) (meant (u.uses_or t)) k1))
      (both (r.in_range_or shifted n) (r.stmt_in_range shifted x.0) (or_holds n (left (r.in_range_or a n) (r.stmt_in_range a x.0) h3) (right (meant (us ++ u.uses_or t)) (meant (u.uses_or n)) k2)) (x.1 (right (r.in_range_or a n) (r.stmt_in_range a x.0) h3) (right (meant ((us ++ u.uses_or t) ++ u.uses_or n)) (meant (u.stmt_uses x.0)) k3))))

  stmt_law : (y : Stmt-F APart AStmt) → StmtHolds (roll-Stmt (map-Stmt APart AStmt Part Stmt (λ x. x.0) (λ x. x.0) y))
  stmt_law s.Empty = stmt_into s.Empty (λ h k. h)
  stmt_law (s.Expr e) = stmt_into (s.Expr e) (expr_holds e)
  stmt_law (s.Declare local items) = stmt_into (s.Declare local items) (free (nat_lt local a.locals) (r.items_in_range a items) (meant (u.items_uses items)) (r.items_in_range shifted items) (items_hold items))
  stmt_law (s.Block xs) = stmt_into (s.Block (stmts xs)) (of_stmts xs)
  stmt_law (s.If t x None) = stmt_into (s.If t x.0 None) (if_none t x)
  stmt_law (s.If t x (Some y)) = stmt_into (s.If t x.0 (Some y.0)) (if_some t x y)
  stmt_law (s.While t x) = stmt_into (s.While t x.0) (of_two (u.uses t) (u.stmt_uses x.0) (tests t) (r.stmt_in_range a x.0) (news t) (r.stmt_in_range shifted x.0) (expr_holds t) x.1)
  stmt_law (s.DoWhile x t) = stmt_into (s.DoWhile x.0 t) (of_two (u.stmt_uses x.0) (u.uses t) (r.stmt_in_range a x.0) (tests t) (r.stmt_in_range shifted x.0) (news t) x.1 (expr_holds t))
  stmt_law (s.For xs t n x) = stmt_into (s.For (stmts xs) t n x.0) (for_all xs t n x)
  stmt_law (s.Switch e xs) = stmt_into (s.Switch e (parts xs)) (of_two (u.uses e) (flat_map (λ x. x) (map u.part_uses (parts xs))) (tests e) (all_true (map old_part (parts xs))) (news e) (all_true (map new_part (parts xs))) (expr_holds e) (of_parts xs))
  stmt_law s.Break = stmt_into s.Break (λ h k. h)
  stmt_law s.Continue = stmt_into s.Continue (λ h k. h)
  stmt_law (s.Return e) = stmt_into (s.Return e) (or_holds e)

  part_law : (y : Part-F APart AStmt) → PartHolds (roll-Part (map-Part APart AStmt Part Stmt (λ x. x.0) (λ x. x.0) y))
  part_law (s.Case v) = part_into (s.Case v) (λ h k. h)
  part_law s.Default = part_into s.Default (λ h k. h)
  part_law (s.Stmt x) = part_into (s.Stmt x.0) x.1

  stmt_holds : (x : Stmt) → StmtHolds x
  stmt_holds = ind-Stmt PartHolds StmtHolds
      (λ x y is. subst (λ z. PartHolds (roll-Part z)) is (part_law y))
      (λ x y is. subst (λ z. StmtHolds (roll-Stmt z)) is (stmt_law y))

  -- ---- by the new numbers

  range_steps : (x : ExprKind-F Bool Bool) → r.kind_step afterwards (layer ns x) ≡ r.kind_step shifted x
  range_steps (Global n) = refl
  range_steps (Call f args) = refl
  range_steps _ = refl

  expr_shifts : (e : Expr) → r.expr_in_range afterwards (renumbered ns e) ≡ r.expr_in_range shifted e
  expr_shifts = keeps (r.kind_step shifted) (r.kind_step afterwards) r.expr_step ns range_steps

  or_shifts : (e : Option Expr) → r.in_range_or afterwards (renumbered_or ns e) ≡ r.in_range_or shifted e
  or_shifts None = refl
  or_shifts (Some e) = expr_shifts e

  items_shift : (items : List Item) → r.items_in_range afterwards (renumbered_items ns items) ≡ r.items_in_range shifted items
  items_shift [] = refl
  items_shift (i ∷ is) = ap₂ (λ b c. b && c) (expr_shifts i.value) (items_shift is)

  stmt_range_steps : (x : Stmt-F Bool Bool) → r.stmt_step afterwards (stmt_layer ns x) ≡ r.stmt_step shifted x
  stmt_range_steps s.Empty = refl
  stmt_range_steps (s.Expr e) = expr_shifts e
  stmt_range_steps (s.Declare local items) = ap (λ b. nat_lt local a.locals && b) (items_shift items)
  stmt_range_steps (s.Block list) = refl
  stmt_range_steps (s.If test on off) = ap (λ b. b && (on && r.or_true off)) (expr_shifts test)
  stmt_range_steps (s.While test body) = ap (λ b. b && body) (expr_shifts test)
  stmt_range_steps (s.DoWhile body test) = ap (λ b. body && b) (expr_shifts test)
  stmt_range_steps (s.For first test next body) = ap₂ (λ b c. all_true first && (b && (c && body))) (or_shifts test) (or_shifts next)
  stmt_range_steps (s.Switch value parts) = ap (λ b. b && all_true parts) (expr_shifts value)
  stmt_range_steps s.Break = refl
  stmt_range_steps s.Continue = refl
  stmt_range_steps (s.Return value) = or_shifts value

  pub in_range_after : (x : Stmt) → r.stmt_in_range a x ≡ true → all_defined ns (u.stmt_uses x) ≡ true → r.stmt_in_range afterwards (renumbered_stmt ns x) ≡ true
  in_range_after x h k = stmt_keeps r.part_step (r.stmt_step shifted) (r.stmt_step afterwards) ns stmt_range_steps x ∙ stmt_holds x h k
