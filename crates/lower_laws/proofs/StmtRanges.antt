-- The numbers in the code of statements and of functions are in range.
use Rattle.std.proofs.Common.{◌≡◌, ℕ, suc, ◌+◌, ◌<◌, ◌≤◌, ◌&&◌, Bool, true, List, [], ◌∷◌, ◌++◌, length, map, refl, sym, ◌∙◌, subst, arith, Option, Some, None, slice_get}
use Rattle.std.specs.Prelude.{nat_lt}
use Rattle.c_tree.specs.Depth as depths
use Rattle.c_tree.specs.Depth.{depth, depth_or, greatest, held, item_depth, items_depth, stmt_depth, part_depth}
use Rattle.c_tree.specs.Numbers as numbers
use Rattle.c_tree.specs.Numbers.{expr_in_range, stmt_in_range, in_range_or, items_in_range, all_true, names_of_program, has_params}
use Rattle.c_tree.specs.declared.expr.Expr.{Expr}
use Rattle.c_tree.specs.declared.program.TLocal.{TLocal}
use Rattle.c_tree.specs.declared.stmt.Item.{Item}
use Rattle.c_tree.specs.declared.stmt.Stmt.{Stmt, roll-Stmt}
use Rattle.c_tree.specs.declared.stmt.Part.{Part as SwitchPart, roll-Part}
use Rattle.c_tree.specs.declared.stmt.Part.TheOpen as k
use Rattle.c_tree.specs.declared.stmt.Part.TheOpen.{Stmt-F, Part-F}
use Rattle.c_tree.specs.declared.stmt.Part.TheFolds.{map-Stmt, map-Part, fold-Part, fold-roll-Stmt, fold-roll-Part, ind-Stmt}
use Rattle.mid_ir.specs.declared.stmt.MidStmt.{MidStmt}
use Rattle.mid_ir.specs.declared.stmt.MidStmt.TheVariants as mid
use Rattle.mid_ir.specs.declared.stmt.SetOp.TheVariants as op
use Rattle.mid_ir.specs.Numbers.{Around}
use Rattle.mid_ir.proofs.RangeLaws.{all_in_range}
use Rattle.lower_code.specs.Frames.{Home, Variable, Placed, Frame}
use Rattle.lower_code.specs.Pieces.{kind_as, narrow, store, choose}
use Rattle.lower_code.specs.Exprs as expr
use Rattle.lower_code.specs.Exprs.{Place, place_at, member}
use Rattle.lower_code.specs.Stmts as code
use Rattle.lower_code.specs.Stmts.{Ways, Codes, Piece, Case, Default, Code, farther, in_loop, in_first, in_switch, coded, piece, items_code, leave, return_code, code_or, all_codes, or_nothing, block, loop, while_so, while_or, labels, nest, jump, jumps, default_label, dispatch}
use Rattle.lower_code.specs.Programs.{homed, all_homed}
use Rattle.lower_laws.proofs.Exprs.{both_left, both_right}
use Rattle.lower_laws.proofs.PieceRanges.{first_in, one_in, append_in, const_in, set_in, home_in, store_in, choose_in, block_in, loop_in, break_in, return_in, narrow_in}
use Rattle.lower_laws.proofs.ExprRanges as values
use Rattle.lower_laws.proofs.ExprRanges.{HomeIn, Stands}

-- the ways lead out of no more than k loops and blocks
pub record WaysIn (y : Ways) (k : ℕ) : Type 0 where
  pub breaks : y.breaks < k
  pub continues : y.continues < k
  pub returns : (q : ℕ) → y.returns ≡ Some q → q < k

farther_in : (n : ℕ) (r : Option ℕ) (k : ℕ) → ((q : ℕ) → r ≡ Some q → q < k) → (q : ℕ) → farther n r ≡ Some q → q < k + n
farther_in n None k h q e = absurd cc
farther_in n (Some p) k h q e = let a = h p refl in let b : p + n ≡ q = cc in omega (arith, a, b)

loop_ways : (y : Ways) (k : ℕ) → WaysIn y k → WaysIn (in_loop y) (suc (suc k))
loop_ways y k h = record { breaks = omega arith; continues = omega arith; returns = λ q e. let a = farther_in 2 y.returns k h.returns q e in omega (arith, a) }

first_ways : (k : ℕ) → WaysIn in_first (suc k)
first_ways k = record { breaks = omega arith; continues = omega arith; returns = λ q e. let a : 0 ≡ q = cc in omega (arith, a) }

switch_ways : (left : ℕ) (y : Ways) (k : ℕ) → WaysIn y k → WaysIn (in_switch left y) (suc k + left)
switch_ways left y k h = record { breaks = omega arith; continues = (let a = h.continues in omega (arith, a)); returns = λ q e. let a = farther_in (left + 1) y.returns k h.returns q e in omega (arith, a) }

module _ (around : numbers.Around) (fr : Frame) (R : Around) (on : Stands around fr R) where
  abbrev In : List MidStmt → ℕ → Type 0
  In ms k = all_in_range R ms k ≡ true

  -- code for a statement of this depth
  abbrev pub StmtFits : ℕ → Codes → Type 0
  StmtFits d c = (y : Ways) (k : ℕ) → fr.free + d + 4 ≤ R.vars → WaysIn y k → In (c y) k

  value : (e : Expr) → expr_in_range around e ≡ true → (k : ℕ) → fr.free + depth e + 4 ≤ R.vars → In (expr.code fr e fr.free) k
  value e h k le = (values.all_good around fr R on e h).fits fr.free k (omega arith) (omega (arith, le))

  items_fit : (o : Option Home) → ((h : Home) → o ≡ Some h → HomeIn fr R h) → (is : List Item) → items_in_range around is ≡ true → (k : ℕ) → fr.free + items_depth is + 4 ≤ R.vars → In (items_code fr (place_at o) is) k
  items_fit o q [] h k le = refl
  items_fit o q (i ∷ is) h k le =
      let z = member fr.bytes (place_at o) i.offset in
      let f = values.all_good around fr R on i.value (both_left (expr_in_range around i.value) (items_in_range around is) h) in
      let p = values.member_fits around fr R on 1 (place_at o) i.offset (omega arith) (values.home_fits around fr R on 1 o q) in
      append_in R (expr.assigned i.value.ctype z (expr.code fr i.value) fr.free) (items_code fr (place_at o) is) k
      (values.assigned_fits around fr R on i.value.ctype 1 (depth i.value) z (expr.code fr i.value) f.least p f.fits fr.free k (omega arith) (omega (arith, le)))
      (items_fit o q is (both_right (expr_in_range around i.value) (items_in_range around is) h) k (omega (arith, le)))

  code_or_fits : (e : Option Expr) → in_range_or around e ≡ true → (k : ℕ) → fr.free + depth_or e + 4 ≤ R.vars → In (code_or fr e) k
  code_or_fits None h k le = refl
  code_or_fits (Some e) h k le = value e h k le

  while_fits : (e : Expr) → expr_in_range around e ≡ true → (ms : List MidStmt) (k : ℕ) → fr.free + depth e + 4 ≤ R.vars → In ms (suc k) → In (while_so fr e ms) (suc k)
  while_fits e h ms k le i =
      append_in R (expr.code fr e fr.free) (choose fr.free ms (mid.Break 0 ∷ []) ∷ []) (suc k) (value e h (suc k) le)
      (one_in R (choose fr.free ms (mid.Break 0 ∷ [])) (suc k) (choose_in R fr.free ms (mid.Break 0 ∷ []) (suc k) (omega (arith, le)) i (one_in R (mid.Break 0) (suc k) (break_in R 0 (suc k) (omega arith)))))

  while_or_fits : (e : Option Expr) → in_range_or around e ≡ true → (ms : List MidStmt) (k : ℕ) → fr.free + depth_or e + 4 ≤ R.vars → In ms (suc k) → In (while_or fr e ms) (suc k)
  while_or_fits None h ms k le i = i
  while_or_fits (Some e) h ms k le i = while_fits e h ms k le i

  leave_fits : (q : Option ℕ) (k : ℕ) → fr.free < R.vars → ((n : ℕ) → q ≡ Some n → n < k) → In (leave fr q) k
  leave_fits (Some n) k le h = one_in R (mid.Break n) k (break_in R n k (h n refl))
  leave_fits None k le h = append_in R (narrow (kind_as fr.gives) fr.free) (mid.Return fr.free ∷ []) k (narrow_in R (kind_as fr.gives) fr.free k le) (one_in R (mid.Return fr.free) k (return_in R fr.free k le))

  return_fits : (e : Option Expr) → in_range_or around e ≡ true → (q : Option ℕ) (k : ℕ) → fr.free + depth_or e + 4 ≤ R.vars → ((n : ℕ) → q ≡ Some n → n < k) → In (return_code fr e q) k
  return_fits None i (Some n) k le h = one_in R (mid.Break n) k (break_in R n k (h n refl))
  return_fits None i None k le h = first_in R (mid.Const fr.free 0) (mid.Return fr.free ∷ []) k (const_in R fr.free 0 k (omega (arith, le))) (one_in R (mid.Return fr.free) k (return_in R fr.free k (omega (arith, le))))
  return_fits (Some e) i q k le h = append_in R (expr.code fr e fr.free) (leave fr q) k (value e i k le) (leave_fits q k (omega (arith, le)) h)

  -- ---- lists of statements, and of parts

  pub data AllFit : List ℕ → List Codes → Type 0 where
    none : AllFit [] []
    one : {d : ℕ} {c : Codes} {ds : List ℕ} {cs : List Codes} → StmtFits d c → AllFit ds cs → AllFit (d ∷ ds) (c ∷ cs)

  list_fits : (ds : List ℕ) (cs : List Codes) → AllFit ds cs → StmtFits (greatest ds) (all_codes cs)
  list_fits [] [] none y k le h = refl
  list_fits (d ∷ ds) (c ∷ cs) (one f fs) y k le h = append_in R (c y) (all_codes cs y) k (f y k (omega (arith, le)) h) (list_fits ds cs fs y k (omega (arith, le)) h)
  list_fits [] (c ∷ cs) x y k le h = elim x [ ]
  list_fits (d ∷ ds) [] x y k le h = elim x [ ]

  abbrev pub PartFits : ℕ → Piece → Type 0
  PartFits d (Case x) = Unit {0}
  PartFits d Default = Unit {0}
  PartFits d (Code c) = StmtFits d c

  pub data AllParts : List ℕ → List Piece → Type 0 where
    no_part : AllParts [] []
    part : {d : ℕ} {p : Piece} {ds : List ℕ} {ps : List Piece} → PartFits d p → AllParts ds ps → AllParts (d ∷ ds) (p ∷ ps)

  jumps_fit : (ps : List Piece) (i k : ℕ) → fr.free + 1 < R.vars → i + labels ps ≤ k → In (jumps fr.free i ps) k
  jumps_fit [] i k n le = refl
  jumps_fit (Default ∷ ps) i k n le = jumps_fit ps (i + 1) k n (omega (arith, le))
  jumps_fit (Code c ∷ ps) i k n le = jumps_fit ps i k n le
  jumps_fit (Case x ∷ ps) i k n le =
      let m = fr.free in
      let test = choose (m + 1) (mid.Break i ∷ []) [] in
      append_in R (jump m x i) (jumps m (i + 1) ps) k
      (first_in R (mid.Const (m + 1) x) (mid.Set (m + 1) op.Eq m (m + 1) ∷ test ∷ []) k (const_in R (m + 1) x k n)
      (first_in R (mid.Set (m + 1) op.Eq m (m + 1)) (test ∷ []) k (set_in R (m + 1) op.Eq m (m + 1) k n (omega (arith, n)) n)
      (one_in R test k (choose_in R (m + 1) (mid.Break i ∷ []) [] k n (one_in R (mid.Break i) k (break_in R i k (omega (arith, le)))) refl))))
      (jumps_fit ps (i + 1) k n (omega (arith, le)))

  default_most : (ps : List Piece) (i : ℕ) → default_label i ps ≤ i + labels ps
  default_most [] i = omega arith
  default_most (Default ∷ ps) i = omega arith
  default_most (Case x ∷ ps) i = let h = default_most ps (i + 1) in omega (arith, h)
  default_most (Code c ∷ ps) i = default_most ps i

  dispatch_fits : (ps : List Piece) (k : ℕ) → fr.free + 1 < R.vars → In (dispatch fr.free ps) (suc k + labels ps)
  dispatch_fits ps k n =
      let most = default_most ps 0 in
      append_in R (jumps fr.free 0 ps) (mid.Break (default_label 0 ps) ∷ []) (suc k + labels ps) (jumps_fit ps 0 (suc k + labels ps) n (omega arith))
      (one_in R (mid.Break (default_label 0 ps)) (suc k + labels ps) (break_in R (default_label 0 ps) (suc k + labels ps) (omega (arith, most))))

  nest_fits : (y : Ways) (k : ℕ) → WaysIn y k → (ds : List ℕ) (ps : List Piece) → AllParts ds ps → fr.free + greatest ds + 4 ≤ R.vars → (before : List MidStmt) → In before (suc k + labels ps) → In (nest y before ps) (suc k)
  nest_fits y k w [] [] no_part le before h = let e : suc k + 0 ≡ suc k = omega arith in subst (λ n. In before n) e h
  nest_fits y k w (d ∷ ds) (Case x ∷ ps) (part f fs) le before h =
      let e : suc k + (labels ps + 1) ≡ suc (suc k + labels ps) = omega arith in
      nest_fits y k w ds ps fs (omega (arith, le)) (block before ∷ []) (one_in R (block before) (suc k + labels ps) (block_in R before (suc k + labels ps) (subst (λ n. In before n) e h)))
  nest_fits y k w (d ∷ ds) (Default ∷ ps) (part f fs) le before h =
      let e : suc k + (labels ps + 1) ≡ suc (suc k + labels ps) = omega arith in
      nest_fits y k w ds ps fs (omega (arith, le)) (block before ∷ []) (one_in R (block before) (suc k + labels ps) (block_in R before (suc k + labels ps) (subst (λ n. In before n) e h)))
  nest_fits y k w (d ∷ ds) (Code c ∷ ps) (part f fs) le before h =
      let inside = in_switch (labels ps) y in
      nest_fits y k w ds ps fs (omega (arith, le)) (before ++ c inside) (append_in R before (c inside) (suc k + labels ps) h (f inside (suc k + labels ps) (omega (arith, le)) (switch_ways (labels ps) y k w)))
  nest_fits y k w [] (p ∷ ps) x le before h = elim x [ ]
  nest_fits y k w (d ∷ ds) [] x le before h = elim x [ ]

  -- ---- by the layers

  abbrev part_in : SwitchPart → Bool
  part_in = fold-Part Bool Bool numbers.part_step (numbers.stmt_step around)

  abbrev pub Good : Stmt → Type 0
  Good x = stmt_in_range around x ≡ true → StmtFits (stmt_depth x) (coded fr x)

  abbrev pub PartGood : SwitchPart → Type 0
  PartGood x = part_in x ≡ true → PartFits (part_depth x) (piece fr x)

  abbrev GoodS : Type 0
  GoodS = (x : Stmt) × Good x

  abbrev GoodP : Type 0
  GoodP = (x : SwitchPart) × PartGood x

  abbrev layer : Stmt-F GoodP GoodS → Stmt-F SwitchPart Stmt
  layer = map-Stmt GoodP GoodS SwitchPart Stmt (λ x. x.0) (λ x. x.0)

  at_layer : (x : Stmt-F SwitchPart Stmt)
      → (numbers.stmt_step around (map-Stmt SwitchPart Stmt Bool Bool part_in (stmt_in_range around) x) ≡ true → StmtFits (depths.stmt_step (map-Stmt SwitchPart Stmt ℕ ℕ part_depth stmt_depth x)) (code.stmt_step fr (map-Stmt SwitchPart Stmt Piece Codes (piece fr) (coded fr) x)))
      → Good (roll-Stmt x)
  at_layer x f h =
      subst (λ d. StmtFits d (coded fr (roll-Stmt x))) (sym (fold-roll-Stmt ℕ ℕ depths.part_step depths.stmt_step x))
      (subst (λ (c : Codes). StmtFits (depths.stmt_step (map-Stmt SwitchPart Stmt ℕ ℕ part_depth stmt_depth x)) c) (sym (fold-roll-Stmt Piece Codes code.part_step (code.stmt_step fr) x))
      (f (sym (fold-roll-Stmt Bool Bool numbers.part_step (numbers.stmt_step around) x) ∙ h)))

  list_good : (xs : List GoodS) → all_true (map (stmt_in_range around) (map (λ (x : GoodS). x.0) xs)) ≡ true → AllFit (map stmt_depth (map (λ (x : GoodS). x.0) xs)) (map (coded fr) (map (λ (x : GoodS). x.0) xs))
  list_good [] h = none
  list_good (x ∷ xs) h = one (x.1 (both_left _ _ h)) (list_good xs (both_right _ _ h))

  parts_good : (xs : List GoodP) → all_true (map part_in (map (λ (x : GoodP). x.0) xs)) ≡ true → AllParts (map part_depth (map (λ (x : GoodP). x.0) xs)) (map (piece fr) (map (λ (x : GoodP). x.0) xs))
  parts_good [] h = no_part
  parts_good (x ∷ xs) h = part (x.1 (both_left _ _ h)) (parts_good xs (both_right _ _ h))

  if_fits : (e : Expr) → expr_in_range around e ≡ true → (first last : List MidStmt) (k : ℕ) → fr.free + depth e + 4 ≤ R.vars → In first k → In last k → In (expr.code fr e fr.free ++ choose fr.free first last ∷ []) k
  if_fits e h first last k le i j = append_in R (expr.code fr e fr.free) (choose fr.free first last ∷ []) k (value e h k le) (one_in R (choose fr.free first last) k (choose_in R fr.free first last k (omega (arith, le)) i j))

  stmt_good : (x : Stmt-F GoodP GoodS) → Good (roll-Stmt (layer x))
  stmt_good k.Empty = at_layer k.Empty (λ h y n le w. refl)
  stmt_good (k.Expr e) = at_layer (k.Expr e) (λ h y n le w. value e h n le)
  stmt_good (k.Declare v is) = at_layer (k.Declare v is) (λ h y n le w. items_fit (slice_get fr.homes v) (on.homes v) is (both_right (nat_lt v around.locals) (items_in_range around is) h) n le)
  stmt_good (k.Block xs) = at_layer (k.Block (map (λ (x : GoodS). x.0) xs)) (λ h. list_fits _ _ (list_good xs h))
  stmt_good (k.If test first None) = at_layer (k.If test first.0 None) (λ h y n le w.
      if_fits test (both_left (expr_in_range around test) (stmt_in_range around first.0 && true) h) _ [] n (omega (arith, le)) (first.1 (both_left (stmt_in_range around first.0) true (both_right (expr_in_range around test) (stmt_in_range around first.0 && true) h)) y n (omega (arith, le)) w) refl)
  stmt_good (k.If test first (Some last)) = at_layer (k.If test first.0 (Some last.0)) (λ h y n le w.
      let a = stmt_in_range around first.0 in
      let b = stmt_in_range around last.0 in
      let rest = both_right (expr_in_range around test) (a && b) h in
      if_fits test (both_left (expr_in_range around test) (a && b) h) _ _ n (omega (arith, le)) (first.1 (both_left a b rest) y n (omega (arith, le)) w) (last.1 (both_right a b rest) y n (omega (arith, le)) w))
  stmt_good (k.While test body) = at_layer (k.While test body.0) (λ h y n le w.
      let a = expr_in_range around test in
      let b = stmt_in_range around body.0 in
      let inner = coded fr body.0 (in_loop y) in
      one_in R (loop (while_so fr test (block inner ∷ []))) n (loop_in R (while_so fr test (block inner ∷ [])) n
      (while_fits test (both_left a b h) (block inner ∷ []) n (omega (arith, le)) (one_in R (block inner) (suc n) (block_in R inner (suc n) (body.1 (both_right a b h) (in_loop y) (suc (suc n)) (omega (arith, le)) (loop_ways y n w)))))))
  stmt_good (k.DoWhile body test) = at_layer (k.DoWhile body.0 test) (λ h y n le w.
      let a = stmt_in_range around body.0 in
      let b = expr_in_range around test in
      let inner = coded fr body.0 (in_loop y) in
      one_in R (loop (block inner ∷ while_so fr test [])) n (loop_in R (block inner ∷ while_so fr test []) n
      (first_in R (block inner) (while_so fr test []) (suc n) (block_in R inner (suc n) (body.1 (both_left a b h) (in_loop y) (suc (suc n)) (omega (arith, le)) (loop_ways y n w)))
      (while_fits test (both_right a b h) [] n (omega (arith, le)) refl))))
  stmt_good (k.For first test step body) = at_layer (k.For (map (λ (x : GoodS). x.0) first) test step body.0) (λ h y n le w.
      let starts = all_true (map (stmt_in_range around) (map (λ (x : GoodS). x.0) first)) in
      let tested = in_range_or around test in
      let stepped = in_range_or around step in
      let done = stmt_in_range around body.0 in
      let after = both_right starts (tested && (stepped && done)) h in
      let last = both_right tested (stepped && done) after in
      let inner = coded fr body.0 (in_loop y) in
      let ms = block inner ∷ code_or fr step in
      let begin = all_codes (map (coded fr) (map (λ (x : GoodS). x.0) first)) in_first in
      first_in R (block begin) (loop (while_or fr test ms) ∷ []) n
      (block_in R begin n (list_fits (map stmt_depth (map (λ (x : GoodS). x.0) first)) _ (list_good first (both_left starts (tested && (stepped && done)) h)) in_first (suc n) (omega (arith, le)) (first_ways n)))
      (one_in R (loop (while_or fr test ms)) n (loop_in R (while_or fr test ms) n
      (while_or_fits test (both_left tested (stepped && done) after) ms n (omega (arith, le))
      (first_in R (block inner) (code_or fr step) (suc n) (block_in R inner (suc n) (body.1 (both_right stepped done last) (in_loop y) (suc (suc n)) (omega (arith, le)) (loop_ways y n w)))
      (code_or_fits step (both_left stepped done last) (suc n) (omega (arith, le))))))))
  stmt_good (k.Switch v xs) = at_layer (k.Switch v (map (λ (x : GoodP). x.0) xs)) (λ h y n le w.
      let trees = map (λ (x : GoodP). x.0) xs in
      let a = expr_in_range around v in
      let b = all_true (map part_in trees) in
      let ps = map (piece fr) trees in
      let ds = map part_depth trees in
      let body = nest y (dispatch fr.free ps) ps in
      let inside : fr.free + 1 < R.vars = omega (arith, le) in
      append_in R (expr.code fr v fr.free) (block body ∷ []) n (value v (both_left a b h) n (omega (arith, le)))
      (one_in R (block body) n (block_in R body n (nest_fits y n w ds ps (parts_good xs (both_right a b h)) (omega (arith, le)) (dispatch fr.free ps) (dispatch_fits ps n inside)))))
  stmt_good k.Break = at_layer k.Break (λ h y n le w. one_in R (mid.Break y.breaks) n (break_in R y.breaks n w.breaks))
  stmt_good k.Continue = at_layer k.Continue (λ h y n le w. one_in R (mid.Break y.continues) n (break_in R y.continues n w.continues))
  stmt_good (k.Return e) = at_layer (k.Return e) (λ h y n le w. return_fits e h y.returns n le w.returns)

  part_good : (x : Part-F GoodP GoodS) → PartGood (roll-Part (map-Part GoodP GoodS SwitchPart Stmt (λ x. x.0) (λ x. x.0) x))
  part_good x h =
      let z = map-Part GoodP GoodS SwitchPart Stmt (λ x. x.0) (λ x. x.0) x in
      subst (λ d. PartFits d (piece fr (roll-Part z))) (sym (fold-roll-Part ℕ ℕ depths.part_step depths.stmt_step z))
      (subst (λ (p : Piece). PartFits (depths.part_step (map-Part SwitchPart Stmt ℕ ℕ part_depth stmt_depth z)) p) (sym (fold-roll-Part Piece Codes code.part_step (code.stmt_step fr) z))
      (by x (sym (fold-roll-Part Bool Bool numbers.part_step (numbers.stmt_step around) z) ∙ h)))
    where
      by : (x : Part-F GoodP GoodS) → numbers.part_step (map-Part SwitchPart Stmt Bool Bool part_in (stmt_in_range around) (map-Part GoodP GoodS SwitchPart Stmt (λ x. x.0) (λ x. x.0) x)) ≡ true
          → PartFits (depths.part_step (map-Part SwitchPart Stmt ℕ ℕ part_depth stmt_depth (map-Part GoodP GoodS SwitchPart Stmt (λ x. x.0) (λ x. x.0) x))) (code.part_step (map-Part SwitchPart Stmt Piece Codes (piece fr) (coded fr) (map-Part GoodP GoodS SwitchPart Stmt (λ x. x.0) (λ x. x.0) x)))
      by (k.Case n) h = tt
      by k.Default h = tt
      by (k.Stmt d) h = d.1 h

  pub all_good : (x : Stmt) → Good x
  all_good = ind-Stmt PartGood Good (λ x y is. subst (λ z. PartGood (roll-Part z)) is (part_good y)) (λ x y is. subst (λ z. Good (roll-Stmt z)) is (stmt_good y))

  -- ---- parameters

  pub params_fit : (v : ℕ) (xs : List TLocal) (k : ℕ) → v + length xs ≤ fr.free → fr.free < R.vars → In (all_homed fr v xs) k
  params_fit v [] k le n = refl
  params_fit v (x ∷ xs) k le n = append_in R (homed x.ctype (slice_get fr.homes v) v fr.free) (all_homed fr (suc v) xs) k (by (slice_get fr.homes v) (on.homes v)) (params_fit (suc v) xs k (omega (arith, le)) n)
    where
      by : (o : Option Home) → ((h : Home) → o ≡ Some h → HomeIn fr R h) → In (homed x.ctype o v fr.free) k
      by None q = refl
      by (Some (Variable u)) q = refl
      by (Some (Placed offset)) q = first_in R (mid.Home fr.free offset) (store x.ctype fr.free v ∷ []) k (home_in R fr.free offset k n (q (Placed offset) refl)) (one_in R (store x.ctype fr.free v) k (store_in R x.ctype fr.free v k n (omega (arith, le, n))))
