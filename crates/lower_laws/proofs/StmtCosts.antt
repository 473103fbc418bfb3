-- What statements cost, and functions.
use Rattle.std.proofs.Common.{◌≡◌, ℕ, suc, ◌+◌, ◌*◌, ◌≤◌, max, Bool, true, false, cond, List, [], ◌∷◌, ◌++◌, length, map, sum, sym, subst, arith, Option, Some, None, slice_get}
use Rattle.std.specs.Prelude.{leb}
use Rattle.std.proofs.lemmas.List.Sums.{sum_by-cons}
use Rattle.c_types.specs.declared.ctype.CType.{CType}
use Rattle.c_tree.specs.Depth as depths
use Rattle.c_tree.specs.Depth.{depth, depth_or, greatest, held, item_depth, items_depth, stmt_depth, part_depth}
use Rattle.c_tree.specs.Nodes as counts
use Rattle.c_tree.specs.Nodes.{nodes, nodes_or, item_nodes, items_nodes, stmt_nodes, part_nodes, or_zero, function_nodes}
use Rattle.c_tree.specs.Placed.{is_placed, stmt_taken}
use Rattle.c_tree.specs.Slots.{unplaced_from}
use Rattle.c_tree.specs.declared.expr.Expr.{Expr}
use Rattle.c_tree.specs.declared.program.TFunction.{TFunction}
use Rattle.c_tree.specs.declared.program.TLocal.{TLocal}
use Rattle.c_tree.specs.declared.stmt.Item.{Item}
use Rattle.c_tree.specs.declared.stmt.Stmt.{Stmt, roll-Stmt}
use Rattle.c_tree.specs.declared.stmt.Part.{Part as SwitchPart, roll-Part}
use Rattle.c_tree.specs.declared.stmt.Part.TheOpen as k
use Rattle.c_tree.specs.declared.stmt.Part.TheOpen.{Stmt-F, Part-F}
use Rattle.c_tree.specs.declared.stmt.Part.TheFolds.{map-Stmt, map-Part, fold-roll-Stmt, fold-roll-Part, ind-Stmt}
use Rattle.mid_ir.specs.declared.stmt.MidStmt.{MidStmt}
use Rattle.mid_ir.specs.declared.stmt.MidStmt.TheVariants as mid
use Rattle.mid_ir.specs.declared.stmt.SetOp.TheVariants as op
use Rattle.mid_ir.specs.Cost.{cost, all_cost, function_cost}
use Rattle.mid_ir.proofs.CostLaws.{cost_Seq, cost_Const, cost_Set, cost_Home, cost_Break, cost_Return, all_cost_append}
use Rattle.lower_code.specs.Frames.{Home, Variable, Placed, Frame, frame_of}
use Rattle.lower_code.specs.Pieces.{kind_as, narrow, store, plus, choose}
use Rattle.lower_code.specs.Exprs as expr
use Rattle.lower_code.specs.Exprs.{Base, InBlock, Fixed, Place, Held, Based, Computed, place_at, member}
use Rattle.lower_code.specs.Stmts as code
use Rattle.lower_code.specs.Stmts.{Ways, Codes, Piece, Case, Default, Code, in_loop, in_first, in_switch, coded, piece, items_code, leave, return_code, code_or, all_codes, or_nothing, block, loop, while_so, while_or, labels, nest, jump, jumps, default_label, dispatch}
use Rattle.lower_code.specs.Programs.{homed, all_homed, body_code, outermost, function_code}
use Rattle.lower_laws.proofs.PieceCosts.{copy_cost, narrow_cost, store_cost, base_cost, plus_cost, choose_cost, block_cost, loop_cost}
use Rattle.lower_laws.proofs.ExprCosts as values

sum_cons : (n : ℕ) (ns : List ℕ) → sum (n ∷ ns) ≡ n + sum ns
sum_cons n ns = sum_by-cons (λ x. x) n ns

break_cost : (k : ℕ) → cost (mid.Break k) ≡ 40
break_cost k = cost_Break k

-- code for a statement of depth d with n nodes
abbrev pub StmtFew : ℕ → ℕ → Codes → Type 0
StmtFew d n c = (y : Ways) → all_cost (c y) + 8 * d + 16 ≤ 256 * n

abbrev pub PartFew : ℕ → ℕ → Piece → Type 0
PartFew d n (Case x) = 8 * d + 200 ≤ 256 * n
PartFew d n Default = 8 * d + 40 ≤ 256 * n
PartFew d n (Code c) = StmtFew d n c

-- ---- initialisers

abbrev Small : Place → Type 0
Small (Held v) = Unit {0}
Small (Based b) = Unit {0}
Small (Computed c) = (t : ℕ) → all_cost (c t) ≤ 120

home_small : (o : Option Home) (bytes offset : ℕ) → Small (member bytes (place_at o) offset)
home_small None bytes offset = tt
home_small (Some (Variable v)) bytes offset = tt
home_small (Some (Placed from)) bytes offset = test (leb (from + offset) bytes)
  where
    test : (e : Bool) → Small (cond e (Based (InBlock (from + offset))) (Computed (λ t. mid.Home t from ∷ plus offset t)))
    test true = tt
    test false = λ t. let e : cost (mid.Home t from) ≡ 40 = cost_Home t from in let f = plus_cost offset t in omega (arith, e, f)

item_few : (y : CType) (d n : ℕ) (z : Place) (b : expr.Codes) → Small z → values.Few d n b → (t : ℕ) → all_cost (expr.assigned y z b t) + 8 * held 0 (1 ∷ d ∷ []) ≤ 256 * (n + 1)
item_few y d n (Held v) b h i t =
    let c = copy_cost v t in
    let f = all_cost_append (b t) (mid.Set v op.Copy t t ∷ []) in
    let q = i t in
    omega (arith, c, f, q)
item_few y d n (Based z) b h i t =
    let c = base_cost z (t + 1) in
    let g = store_cost y (t + 1) t in
    let f = all_cost_append (b t) (expr.base z (t + 1) ∷ store y (t + 1) t ∷ []) in
    let q = i t in
    omega (arith, c, g, f, q)
item_few y d n (Computed at) b h i t =
    let tail = store y t (t + 1) ∷ mid.Set t op.Copy (t + 1) (t + 1) ∷ [] in
    let c = store_cost y t (t + 1) in
    let g = copy_cost t (t + 1) in
    let f = all_cost_append (at t) (b (t + 1) ++ tail) in
    let k = all_cost_append (b (t + 1)) tail in
    let p = h t in
    let q = i (t + 1) in
    omega (arith, c, g, f, k, p, q)

module _ (fr : Frame) where
  value : (e : Expr) → values.Few (depth e) (nodes e) (expr.code fr e)
  value e = (values.all_good fr e).few

  items_few : (o : Option Home) (is : List Item) → all_cost (items_code fr (place_at o) is) + 8 * items_depth is ≤ 256 * items_nodes is
  items_few o [] = omega arith
  items_few o (i ∷ is) =
      let z = member fr.bytes (place_at o) i.offset in
      let a = item_few i.value.ctype (depth i.value) (nodes i.value) z (expr.code fr i.value) (home_small o fr.bytes i.offset) (value i.value) fr.free in
      let b = items_few o is in
      let c = all_cost_append (expr.assigned i.value.ctype z (expr.code fr i.value) fr.free) (items_code fr (place_at o) is) in
      let d = sum_cons (item_nodes i) (map item_nodes is) in
      omega (arith, a, b, c, d)

  code_or_few : (e : Option Expr) → all_cost (code_or fr e) + 8 * depth_or e ≤ 256 * nodes_or e
  code_or_few None = omega arith
  code_or_few (Some e) = let a = value e fr.free in omega (arith, a)

  while_few : (e : Expr) (ms : List MidStmt) → all_cost (while_so fr e ms) + 8 * depth e ≤ 256 * nodes e + 80 + all_cost ms
  while_few e ms =
      let a = value e fr.free in
      let b = choose_cost fr.free ms (mid.Break 0 ∷ []) in
      let c = break_cost 0 in
      let d = all_cost_append (expr.code fr e fr.free) (choose fr.free ms (mid.Break 0 ∷ []) ∷ []) in
      omega (arith, a, b, c, d)

  while_or_few : (e : Option Expr) (ms : List MidStmt) → all_cost (while_or fr e ms) + 8 * depth_or e ≤ 256 * nodes_or e + 80 + all_cost ms
  while_or_few None ms = omega arith
  while_or_few (Some e) ms = while_few e ms

  leave_few : (q : Option ℕ) → all_cost (leave fr q) ≤ 80
  leave_few (Some k) = let a = break_cost k in omega (arith, a)
  leave_few None =
      let a = narrow_cost (kind_as fr.gives) fr.free in
      let b : cost (mid.Return fr.free) ≡ 40 = cost_Return fr.free in
      let c = all_cost_append (narrow (kind_as fr.gives) fr.free) (mid.Return fr.free ∷ []) in
      omega (arith, a, b, c)

  return_few : (e : Option Expr) (q : Option ℕ) → all_cost (return_code fr e q) + 8 * depth_or e ≤ 256 * nodes_or e + 80
  return_few None (Some k) = let a = break_cost k in omega (arith, a)
  return_few None None =
      let a : cost (mid.Const fr.free 0) ≡ 40 = cost_Const fr.free 0 in
      let b : cost (mid.Return fr.free) ≡ 40 = cost_Return fr.free in
      omega (arith, a, b)
  return_few (Some e) q =
      let a = value e fr.free in
      let b = leave_few q in
      let c = all_cost_append (expr.code fr e fr.free) (leave fr q) in
      omega (arith, a, b, c)

  -- ---- lists of statements, and of parts

  pub data AllFew : List ℕ → List ℕ → List Codes → Type 0 where
    none : AllFew [] [] []
    one : {d n : ℕ} {c : Codes} {ds ns : List ℕ} {cs : List Codes} → StmtFew d n c → AllFew ds ns cs → AllFew (d ∷ ds) (n ∷ ns) (c ∷ cs)

  list_few : (ds ns : List ℕ) (cs : List Codes) → AllFew ds ns cs → (y : Ways) → all_cost (all_codes cs y) + 8 * greatest ds ≤ 256 * sum ns
  list_few [] [] [] none y = omega arith
  list_few (d ∷ ds) (n ∷ ns) (c ∷ cs) (one f fs) y =
      let a = f y in
      let b = list_few ds ns cs fs y in
      let e = all_cost_append (c y) (all_codes cs y) in
      let s = sum_cons n ns in
      omega (arith, a, b, e, s)
  list_few [] [] (c ∷ cs) x y = elim x [ ]
  list_few [] (n ∷ ns) cs x y = elim x [ ]
  list_few (d ∷ ds) [] cs x y = elim x [ ]
  list_few (d ∷ ds) (n ∷ ns) [] x y = elim x [ ]

  pub data AllParts : List ℕ → List ℕ → List Piece → Type 0 where
    no_part : AllParts [] [] []
    part : {d n : ℕ} {p : Piece} {ds ns : List ℕ} {ps : List Piece} → PartFew d n p → AllParts ds ns ps → AllParts (d ∷ ds) (n ∷ ns) (p ∷ ps)

  jump_few : (m x i : ℕ) → all_cost (jump m x i) ≡ 160
  jump_few m x i =
      let a : cost (mid.Const (m + 1) x) ≡ 40 = cost_Const (m + 1) x in
      let b : cost (mid.Set (m + 1) op.Eq m (m + 1)) ≡ 40 = cost_Set (m + 1) op.Eq m (m + 1) in
      let c = choose_cost (m + 1) (mid.Break i ∷ []) [] in
      let d = break_cost i in
      omega (arith, a, b, c, d)

  nest_few : (y : Ways) (ds ns : List ℕ) (ps : List Piece) → AllParts ds ns ps → (m i : ℕ) (before : List MidStmt) → all_cost (nest y before ps) + all_cost (jumps m i ps) + 8 * greatest ds ≤ all_cost before + 256 * sum ns
  nest_few y [] [] [] no_part m i before = omega arith
  nest_few y (d ∷ ds) (n ∷ ns) (Case x ∷ ps) (part f fs) m i before =
      let a = nest_few y ds ns ps fs m (i + 1) (block before ∷ []) in
      let b = block_cost before in
      let c = jump_few m x i in
      let e = all_cost_append (jump m x i) (jumps m (i + 1) ps) in
      let s = sum_cons n ns in
      omega (arith, a, b, c, e, s, f)
  nest_few y (d ∷ ds) (n ∷ ns) (Default ∷ ps) (part f fs) m i before =
      let a = nest_few y ds ns ps fs m (i + 1) (block before ∷ []) in
      let b = block_cost before in
      let s = sum_cons n ns in
      omega (arith, a, b, s, f)
  nest_few y (d ∷ ds) (n ∷ ns) (Code c ∷ ps) (part f fs) m i before =
      let inside = in_switch (labels ps) y in
      let a = nest_few y ds ns ps fs m i (before ++ c inside) in
      let b = f inside in
      let e = all_cost_append before (c inside) in
      let s = sum_cons n ns in
      omega (arith, a, b, e, s)
  nest_few y [] [] (p ∷ ps) x m i before = elim x [ ]
  nest_few y [] (n ∷ ns) ps x m i before = elim x [ ]
  nest_few y (d ∷ ds) [] ps x m i before = elim x [ ]
  nest_few y (d ∷ ds) (n ∷ ns) [] x m i before = elim x [ ]

  switch_few : (v : Expr) (ds ns : List ℕ) (ps : List Piece) → AllParts ds ns ps → (y : Ways) → all_cost (expr.code fr v fr.free ++ block (nest y (dispatch fr.free ps) ps) ∷ []) + 8 * max (depth v) (greatest ds) + 16 ≤ 256 * (nodes v + sum ns + 1)
  switch_few v ds ns ps h y =
      let m = fr.free in
      let a = value v m in
      let b = nest_few y ds ns ps h m 0 (dispatch m ps) in
      let c = all_cost_append (jumps m 0 ps) (mid.Break (default_label 0 ps) ∷ []) in
      let d = break_cost (default_label 0 ps) in
      let e = block_cost (nest y (dispatch m ps) ps) in
      let f = all_cost_append (expr.code fr v m) (block (nest y (dispatch m ps) ps) ∷ []) in
      omega (arith, a, b, c, d, e, f)

  -- ---- by the layers

  abbrev pub Good : Stmt → Type 0
  Good x = StmtFew (stmt_depth x) (stmt_nodes x) (coded fr x)

  abbrev pub PartGood : SwitchPart → Type 0
  PartGood x = PartFew (part_depth x) (part_nodes x) (piece fr x)

  abbrev GoodS : Type 0
  GoodS = (x : Stmt) × Good x

  abbrev GoodP : Type 0
  GoodP = (x : SwitchPart) × PartGood x

  abbrev layer : Stmt-F GoodP GoodS → Stmt-F SwitchPart Stmt
  layer = map-Stmt GoodP GoodS SwitchPart Stmt (λ x. x.0) (λ x. x.0)

  at_layer : (x : Stmt-F SwitchPart Stmt)
      → StmtFew (depths.stmt_step (map-Stmt SwitchPart Stmt ℕ ℕ part_depth stmt_depth x)) (counts.stmt_step (map-Stmt SwitchPart Stmt ℕ ℕ part_nodes stmt_nodes x)) (code.stmt_step fr (map-Stmt SwitchPart Stmt Piece Codes (piece fr) (coded fr) x))
      → Good (roll-Stmt x)
  at_layer x f =
      subst (λ d. StmtFew d (stmt_nodes (roll-Stmt x)) (coded fr (roll-Stmt x))) (sym (fold-roll-Stmt ℕ ℕ depths.part_step depths.stmt_step x))
      (subst (λ n. StmtFew (depths.stmt_step (map-Stmt SwitchPart Stmt ℕ ℕ part_depth stmt_depth x)) n (coded fr (roll-Stmt x))) (sym (fold-roll-Stmt ℕ ℕ counts.part_step counts.stmt_step x))
      (subst (λ (c : Codes). StmtFew (depths.stmt_step (map-Stmt SwitchPart Stmt ℕ ℕ part_depth stmt_depth x)) (counts.stmt_step (map-Stmt SwitchPart Stmt ℕ ℕ part_nodes stmt_nodes x)) c) (sym (fold-roll-Stmt Piece Codes code.part_step (code.stmt_step fr) x)) f))

  list_good : (xs : List GoodS) → AllFew (map stmt_depth (map (λ (x : GoodS). x.0) xs)) (map stmt_nodes (map (λ (x : GoodS). x.0) xs)) (map (coded fr) (map (λ (x : GoodS). x.0) xs))
  list_good [] = none
  list_good (x ∷ xs) = one x.1 (list_good xs)

  parts_good : (xs : List GoodP) → AllParts (map part_depth (map (λ (x : GoodP). x.0) xs)) (map part_nodes (map (λ (x : GoodP). x.0) xs)) (map (piece fr) (map (λ (x : GoodP). x.0) xs))
  parts_good [] = no_part
  parts_good (x ∷ xs) = part x.1 (parts_good xs)

  if_few : (e : Expr) (d f n m : ℕ) (on off : List MidStmt) → all_cost on + 8 * d ≤ 256 * n → all_cost off + 8 * f ≤ 256 * m → all_cost (expr.code fr e fr.free ++ choose fr.free on off ∷ []) + 8 * max (max (depth e) d) f + 16 ≤ 256 * (nodes e + n + m + 1)
  if_few e d f n m on off h i =
      let a = value e fr.free in
      let b = choose_cost fr.free on off in
      let c = all_cost_append (expr.code fr e fr.free) (choose fr.free on off ∷ []) in
      omega (arith, a, b, c, h, i)

  stmt_good : (x : Stmt-F GoodP GoodS) → Good (roll-Stmt (layer x))
  stmt_good k.Empty = at_layer k.Empty (λ y. omega arith)
  stmt_good (k.Expr e) = at_layer (k.Expr e) (λ y. let a = value e fr.free in omega (arith, a))
  stmt_good (k.Declare n is) = at_layer (k.Declare n is) (λ y. let a = items_few (slice_get fr.homes n) is in omega (arith, a))
  stmt_good (k.Block xs) = at_layer (k.Block (map (λ (x : GoodS). x.0) xs)) (λ y. let a = list_few _ _ _ (list_good xs) y in omega (arith, a))
  stmt_good (k.If test on None) = at_layer (k.If test on.0 None) (λ y. if_few test _ 0 _ 0 _ [] (let a = on.1 y in omega (arith, a)) (omega arith))
  stmt_good (k.If test on (Some off)) = at_layer (k.If test on.0 (Some off.0)) (λ y. if_few test _ _ _ _ _ _ (let a = on.1 y in omega (arith, a)) (let a = off.1 y in omega (arith, a)))
  stmt_good (k.While test body) = at_layer (k.While test body.0) (λ y.
      let inner = coded fr body.0 (in_loop y) in
      let a = body.1 (in_loop y) in
      let b = block_cost inner in
      let c = while_few test (block inner ∷ []) in
      let d = loop_cost (while_so fr test (block inner ∷ [])) in
      omega (arith, a, b, c, d))
  stmt_good (k.DoWhile body test) = at_layer (k.DoWhile body.0 test) (λ y.
      let inner = coded fr body.0 (in_loop y) in
      let a = body.1 (in_loop y) in
      let b = block_cost inner in
      let c = while_few test [] in
      let d = loop_cost (block inner ∷ while_so fr test []) in
      omega (arith, a, b, c, d))
  stmt_good (k.For first test step body) = at_layer (k.For (map (λ (x : GoodS). x.0) first) test step body.0) (λ y.
      let inner = coded fr body.0 (in_loop y) in
      let ms = block inner ∷ code_or fr step in
      let begin = all_codes (map (coded fr) (map (λ (x : GoodS). x.0) first)) in_first in
      let a = body.1 (in_loop y) in
      let b = block_cost inner in
      let c = while_or_few test ms in
      let d = loop_cost (while_or fr test ms) in
      let e = code_or_few step in
      let f = list_few _ _ _ (list_good first) in_first in
      let g = block_cost begin in
      omega (arith, a, b, c, d, e, f, g))
  stmt_good (k.Switch v xs) = at_layer (k.Switch v (map (λ (x : GoodP). x.0) xs)) (λ y. switch_few v _ _ _ (parts_good xs) y)
  stmt_good k.Break = at_layer k.Break (λ y. let a = break_cost y.breaks in omega (arith, a))
  stmt_good k.Continue = at_layer k.Continue (λ y. let a = break_cost y.continues in omega (arith, a))
  stmt_good (k.Return e) = at_layer (k.Return e) (λ y. let a = return_few e y.returns in omega (arith, a))

  part_good : (x : Part-F GoodP GoodS) → PartGood (roll-Part (map-Part GoodP GoodS SwitchPart Stmt (λ x. x.0) (λ x. x.0) x))
  part_good x =
      let z = map-Part GoodP GoodS SwitchPart Stmt (λ x. x.0) (λ x. x.0) x in
      subst (λ d. PartFew d (part_nodes (roll-Part z)) (piece fr (roll-Part z))) (sym (fold-roll-Part ℕ ℕ depths.part_step depths.stmt_step z))
      (subst (λ n. PartFew (depths.part_step (map-Part SwitchPart Stmt ℕ ℕ part_depth stmt_depth z)) n (piece fr (roll-Part z))) (sym (fold-roll-Part ℕ ℕ counts.part_step counts.stmt_step z))
      (subst (λ (p : Piece). PartFew (depths.part_step (map-Part SwitchPart Stmt ℕ ℕ part_depth stmt_depth z)) (counts.part_step (map-Part SwitchPart Stmt ℕ ℕ part_nodes stmt_nodes z)) p) (sym (fold-roll-Part Piece Codes code.part_step (code.stmt_step fr) z))
      (by x)))
    where
      by : (x : Part-F GoodP GoodS)
          → PartFew (depths.part_step (map-Part SwitchPart Stmt ℕ ℕ part_depth stmt_depth (map-Part GoodP GoodS SwitchPart Stmt (λ x. x.0) (λ x. x.0) x))) (counts.part_step (map-Part SwitchPart Stmt ℕ ℕ part_nodes stmt_nodes (map-Part GoodP GoodS SwitchPart Stmt (λ x. x.0) (λ x. x.0) x))) (code.part_step (map-Part SwitchPart Stmt Piece Codes (piece fr) (coded fr) (map-Part GoodP GoodS SwitchPart Stmt (λ x. x.0) (λ x. x.0) x)))
      by (k.Case n) = omega arith
      by k.Default = omega arith
      by (k.Stmt d) = d.1

  pub all_good : (x : Stmt) → Good x
  all_good = ind-Stmt PartGood Good (λ x y is. subst (λ z. PartGood (roll-Part z)) is (part_good y)) (λ x y is. subst (λ z. Good (roll-Stmt z)) is (stmt_good y))

  -- ---- functions

  homed_few : (c : CType) (o : Option Home) (v t : ℕ) → all_cost (homed c o v t) ≤ 152
  homed_few c None v t = omega arith
  homed_few c (Some (Variable u)) v t = omega arith
  homed_few c (Some (Placed offset)) v t = let a : cost (mid.Home t offset) ≡ 40 = cost_Home t offset in let b = store_cost c t v in omega (arith, a, b)

  params_few : (v : ℕ) (xs : List TLocal) → all_cost (all_homed fr v xs) ≤ 152 * length xs
  params_few v [] = omega arith
  params_few v (x ∷ xs) =
      let a = homed_few x.ctype (slice_get fr.homes v) v fr.free in
      let b = params_few (suc v) xs in
      let c = all_cost_append (homed x.ctype (slice_get fr.homes v) v fr.free) (all_homed fr (suc v) xs) in
      omega (arith, a, b, c)

unplaced_few : (ns : List ℕ) (n : ℕ) (xs : List TLocal) → unplaced_from ns n xs ≤ length xs
unplaced_few ns n [] = omega arith
unplaced_few ns n (x ∷ xs) = test (is_placed ns n x) (unplaced_few ns (n + 1) xs)
  where
    test : (b : Bool) → unplaced_from ns (n + 1) xs ≤ length xs → cond b 0 1 + unplaced_from ns (n + 1) xs ≤ suc (length xs)
    test true h = omega (arith, h)
    test false h = omega (arith, h)

-- the cost of a function, by its nodes
pub function_few : (globals : List ℕ) (f : TFunction) → function_cost (function_code globals f) ≤ 256 * function_nodes f
function_few globals f =
    let fr = frame_of globals f in
    let a = all_good fr f.body outermost in
    let b = params_few fr 0 f.params in
    let c = all_cost_append (all_homed fr 0 f.params) (block (coded fr f.body outermost) ∷ []) in
    let g = block_cost (coded fr f.body outermost) in
    let d = cost_Seq (body_code fr f) in
    let e = unplaced_few (stmt_taken f.body) (length f.params) f.locals in
    omega (arith, a, b, c, d, e, g)
