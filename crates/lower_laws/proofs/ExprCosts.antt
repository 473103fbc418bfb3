-- What expressions cost.
use Rattle.std.proofs.Common.{◌≡◌, ℕ, ◌+◌, ◌*◌, ◌≤◌, Bool, true, false, cond, List, [], ◌∷◌, ◌++◌, length, map, sum, sym, subst, arith, Option, Some, None, slice_get}
use Rattle.std.specs.Prelude.{leb}
use Rattle.std.proofs.lemmas.List.Sums.{sum_by-cons}
use Rattle.c_types.specs.declared.ctype.CType.{CType}
use Rattle.c_tree.specs.Depth as depths
use Rattle.c_tree.specs.Depth.{depth, kind_depth, held}
use Rattle.c_tree.specs.Nodes as counts
use Rattle.c_tree.specs.Nodes.{nodes, kind_nodes}
use Rattle.c_tree.specs.declared.expr.Expr.{Expr, roll-Expr}
use Rattle.c_tree.specs.declared.expr.ExprKind.{ExprKind, roll-ExprKind}
use Rattle.c_tree.specs.declared.expr.ExprKind.TheOpen as k
use Rattle.c_tree.specs.declared.expr.ExprKind.TheOpen.{ExprKind-F, Expr-F}
use Rattle.c_tree.specs.declared.expr.ExprKind.TheFolds.{map-ExprKind, map-Expr, fold-roll-ExprKind, fold-roll-Expr, ind-Expr}
use Rattle.c_const.specs.Operate.{is_signed}
use Rattle.mid_ir.specs.declared.stmt.MidStmt.TheVariants as mid
use Rattle.mid_ir.specs.declared.stmt.SetOp.TheVariants as op
use Rattle.mid_ir.specs.Cost.{cost, all_cost}
use Rattle.mid_ir.proofs.CostLaws.{cost_Const, cost_Home, cost_Call, cost_NsCall, cost_Range, cost_Caller, all_cost_append}
use Rattle.lower_code.specs.Frames.{Home, Variable, Placed, Frame}
use Rattle.lower_code.specs.Pieces.{kind_of, convert, load, store, operation_one, truth, plus, moved_by, apart, cleared, is_even, choose, places}
use Rattle.lower_code.specs.Exprs as code
use Rattle.lower_code.specs.Exprs.{Codes, Base, InBlock, Fixed, Place, Held, Based, Computed, place_at, Change, Coded, Operand, coded, kind_coded, changed, change_at, step_held, step_at, new_value}
use Rattle.lower_laws.proofs.PieceCosts.{copy_cost, narrow_cost, load_cost, store_cost, base_cost, operation_cost, one_cost, truth_cost, plus_cost, moved_cost, apart_cost, cleared_cost, even_cost, choose_cost, places_many, changed_cost, change_cost, held_cost, step_cost}

held_least : (before : ℕ) (ds : List ℕ) → 1 ≤ held before ds
held_least before [] = omega arith
held_least before (d ∷ ds) = let least = held_least (before + 1) ds in omega (arith, least)

-- code for an expression of depth d with n nodes
abbrev pub Few : ℕ → ℕ → Codes → Type 0
Few d n c = (t : ℕ) → all_cost (c t) + 8 * d + 64 ≤ 256 * n

-- and for its address
abbrev pub PlaceFew : ℕ → ℕ → Place → Type 0
PlaceFew d n (Held v) = Unit {0}
PlaceFew d n (Based b) = Unit {0}
PlaceFew d n (Computed c) = (t : ℕ) → all_cost (c t) + 8 * d + 216 ≤ 256 * n

pub record Fit (d n : ℕ) (c : Operand) : Type 0 where
  pub least : 1 ≤ d
  pub less : d ≤ n
  pub few : Few d n c.code
  pub place : PlaceFew d n c.place

pub record KindFit (d n : ℕ) (c : Coded) : Type 0 where
  pub least : 1 ≤ d
  pub less : d ≤ n
  pub few : Few d n c.code
  pub place : PlaceFew d n c.place

value_fit : (d n : ℕ) (c : Codes) → 1 ≤ d → d ≤ n → Few d n c → KindFit d n (code.as_value c)
value_fit d n c a b h = record { least = a; less = b; few = h; place = tt }

-- what stands at a place
read_few : (y : CType) (d n : ℕ) (z : Place) → 1 ≤ d → d ≤ n → PlaceFew d n z → Few d n (code.read y z)
read_few y d n (Held v) a b h t = let c = copy_cost t v in let e : cost (mid.Set t op.Copy v v) ≡ 40 = copy_cost t v in omega (arith, e, a, b)
read_few y d n (Based z) a b h t = let e = base_cost z t in let f = load_cost y t t in omega (arith, e, f, a, b)
read_few y d n (Computed c) a b h t = let e = load_cost y t t in let f = all_cost_append (c t) (load y t t ∷ []) in let g = h t in omega (arith, e, f, g)

place_fit : (y : CType) (d n : ℕ) (z : Place) → 1 ≤ d → d ≤ n → PlaceFew d n z → KindFit d n (code.as_place y z)
place_fit y d n z a b h = record { least = a; less = b; few = read_few y d n z a b h; place = h }

home_few : (d n : ℕ) (o : Option Home) → PlaceFew d n (place_at o)
home_few d n None = tt
home_few d n (Some (Variable v)) = tt
home_few d n (Some (Placed offset)) = tt

member_few : (bytes d n : ℕ) (z : Place) (offset : ℕ) → d ≤ n → 1 ≤ d → PlaceFew d n z → PlaceFew d (n + 1) (code.member bytes z offset)
member_few bytes d n (Held v) offset a b h = tt
member_few bytes d n (Based (Fixed at)) offset a b h = tt
member_few bytes d n (Based (InBlock from)) offset a b h = test (leb (from + offset) bytes)
  where
    test : (e : Bool) → PlaceFew d (n + 1) (cond e (Based (InBlock (from + offset))) (Computed (λ t. mid.Home t from ∷ plus offset t)))
    test true = tt
    test false = λ t. let e : cost (mid.Home t from) ≡ 40 = cost_Home t from in let f = plus_cost offset t in omega (arith, e, f, a, b)
member_few bytes d n (Computed c) offset a b h = λ t. let e = plus_cost offset t in let f = all_cost_append (c t) (plus offset t) in let g = h t in omega (arith, e, f, g)

address_few : (d n : ℕ) (z : Place) → 1 ≤ d → d ≤ n → PlaceFew d n z → Few d (n + 1) (code.address z)
address_few d n (Held v) a b h t = let e : cost (mid.Const t 0) ≡ 40 = cost_Const t 0 in omega (arith, e, a, b)
address_few d n (Based z) a b h t = let e = base_cost z t in omega (arith, e, a, b)
address_few d n (Computed c) a b h t = let g = h t in omega (arith, g)

-- code for a value, and at most 168 more
after_few : (d n : ℕ) (c e : Codes) → Few d n c → ((t : ℕ) → all_cost (e t) ≤ 168) → Few d (n + 1) (λ t. c t ++ e t)
after_few d n c e h k t = let f = all_cost_append (c t) (e t) in let a = h t in let b = k t in omega (arith, f, a, b)

-- code for two values, and at most 248 more
two_few : (d e n m : ℕ) (a b c : Codes) → 1 ≤ d → Few d n a → Few e m b → ((t : ℕ) → all_cost (c t) ≤ 248) → Few (held 0 (d ∷ e ∷ [])) (n + m + 1) (λ t. a t ++ (b (t + 1) ++ c t))
two_few d e n m a b c l h i j t =
    let f = all_cost_append (a t) (b (t + 1) ++ c t) in
    let g = all_cost_append (b (t + 1)) (c t) in
    let p = h t in
    let q = i (t + 1) in
    let r = j t in
    omega (arith, f, g, p, q, r, l)

-- ---- assignments

assigned_few : (y : CType) (d e n m : ℕ) (z : Place) (b : Codes) → 1 ≤ d → d ≤ n → PlaceFew d n z → Few e m b → Few (held 0 (d ∷ e ∷ [])) (n + m + 1) (code.assigned y z b)
assigned_few y d e n m (Held v) b l s h i t =
    let c = copy_cost v t in
    let f = all_cost_append (b t) (mid.Set v op.Copy t t ∷ []) in
    let q = i t in
    omega (arith, c, f, q, l, s)
assigned_few y d e n m (Based z) b l s h i t =
    let c = base_cost z (t + 1) in
    let g = store_cost y (t + 1) t in
    let f = all_cost_append (b t) (code.base z (t + 1) ∷ store y (t + 1) t ∷ []) in
    let q = i t in
    omega (arith, c, g, f, q, l, s)
assigned_few y d e n m (Computed at) b l s h i t =
    let tail = store y t (t + 1) ∷ mid.Set t op.Copy (t + 1) (t + 1) ∷ [] in
    let c = store_cost y t (t + 1) in
    let g = copy_cost t (t + 1) in
    let f = all_cost_append (at t) (b (t + 1) ++ tail) in
    let k = all_cost_append (b (t + 1)) tail in
    let p = h t in
    let q = i (t + 1) in
    omega (arith, c, g, f, k, p, q, l)

assigned_op_few : (c : Change) (d e n m : ℕ) (z : Place) (b : Codes) → 1 ≤ d → d ≤ n → PlaceFew d n z → Few e m b → Few (held 0 (d ∷ e ∷ [])) (n + m + 1) (code.assigned_op c z b)
assigned_op_few c d e n m (Held v) b l s h i t =
    let last = mid.Set v op.Copy t t ∷ [] in
    let a = copy_cost v t in
    let g = changed_cost c v t (t + 1) last in
    let f = all_cost_append (b t) (changed c v t (t + 1) last) in
    let q = i t in
    omega (arith, a, g, f, q, l, s)
assigned_op_few c d e n m (Based z) b l s h i t =
    let a = base_cost z (t + 1) in
    let g = change_cost c (t + 1) t (t + 2) [] in
    let f = all_cost_append (b t) (code.base z (t + 1) ∷ change_at c (t + 1) t (t + 2) []) in
    let q = i t in
    omega (arith, a, g, f, q, l, s)
assigned_op_few c d e n m (Computed at) b l s h i t =
    let last = mid.Set t op.Copy (t + 1) (t + 1) ∷ [] in
    let a = copy_cost t (t + 1) in
    let g = change_cost c t (t + 1) (t + 2) last in
    let f = all_cost_append (at t) (b (t + 1) ++ change_at c t (t + 1) (t + 2) last) in
    let k = all_cost_append (b (t + 1)) (change_at c t (t + 1) (t + 2) last) in
    let p = h t in
    let q = i (t + 1) in
    omega (arith, a, g, f, k, p, q, l)

stepped_few : (y : CType) (by d n : ℕ) (old : Bool) (z : Place) → 1 ≤ d → d ≤ n → PlaceFew d n z → Few d (n + 1) (code.stepped y by old z)
stepped_few y by d n true (Held v) l s h t =
    let a = copy_cost t v in
    let g = held_cost y by v (t + 1) [] in
    omega (arith, a, g, l, s)
stepped_few y by d n false (Held v) l s h t =
    let a = copy_cost t v in
    let g = held_cost y by v (t + 1) (mid.Set t op.Copy v v ∷ []) in
    omega (arith, a, g, l, s)
stepped_few y by d n old (Based z) l s h t =
    let a = base_cost z (t + 1) in
    let g = step_cost y by (new_value old t) t in
    omega (arith, a, g, l, s)
stepped_few y by d n old (Computed at) l s h t =
    let a = copy_cost (t + 1) t in
    let g = step_cost y by (new_value old t) t in
    let f = all_cost_append (at t) (mid.Set (t + 1) op.Copy t t ∷ step_at y by (new_value old t) t) in
    let p = h t in
    omega (arith, a, g, f, p)

-- ---- arguments

pub data AllFit : List ℕ → List ℕ → List Operand → Type 0 where
  none : AllFit [] [] []
  one : {d n : ℕ} {c : Operand} {ds ns : List ℕ} {cs : List Operand} → Fit d n c → AllFit ds ns cs → AllFit (d ∷ ds) (n ∷ ns) (c ∷ cs)

sum_cons : (n : ℕ) (ns : List ℕ) → sum (n ∷ ns) ≡ n + sum ns
sum_cons n ns = sum_by-cons (λ x. x) n ns

args_few : (ds ns : List ℕ) (cs : List Operand) → AllFit ds ns cs → (b t : ℕ) → (all_cost (code.all_codes t cs) + 64 * length cs ≤ 256 * sum ns) × (all_cost (code.all_codes t cs) + 40 * length cs + 8 * held b ds ≤ 256 * sum ns + 8 * b + 8)
args_few [] [] [] none b t = (omega arith, omega arith)
args_few (d ∷ ds) (n ∷ ns) (c ∷ cs) (one f fs) b t =
    let r = args_few ds ns cs fs (b + 1) (t + 1) in
    let s = sum_cons n ns in
    let p = all_cost_append (c.code t) (code.all_codes (t + 1) cs) in
    let q = f.few t in
    let x = r.0 in
    let y = r.1 in
    (omega (arith, s, p, q, x), omega (arith, s, p, q, x, y))
args_few [] [] (c ∷ cs) x b t = elim x [ ]
args_few [] (n ∷ ns) cs x b t = elim x [ ]
args_few (d ∷ ds) [] cs x b t = elim x [ ]
args_few (d ∷ ds) (n ∷ ns) [] x b t = elim x [ ]

args_less : (ds ns : List ℕ) (cs : List Operand) → AllFit ds ns cs → (b : ℕ) → held b ds ≤ b + sum ns + 1
args_less [] [] [] none b = omega arith
args_less (d ∷ ds) (n ∷ ns) (c ∷ cs) (one f fs) b =
    let h = args_less ds ns cs fs (b + 1) in
    let s = sum_cons n ns in
    let p = f.less in
    let q = f.least in
    omega (arith, h, s, p, q)
args_less [] [] (c ∷ cs) x b = elim x [ ]
args_less [] (n ∷ ns) cs x b = elim x [ ]
args_less (d ∷ ds) [] cs x b = elim x [ ]
args_less (d ∷ ds) (n ∷ ns) [] x b = elim x [ ]

call_few : (ds ns : List ℕ) (cs : List Operand) (f : ℕ) → AllFit ds ns cs → Few (held 0 ds) (sum ns + 1) (λ t. code.all_codes t cs ++ mid.Call t f (places t (length cs)) ∷ [])
call_few ds ns cs f h t =
    let r = args_few ds ns cs h 0 t in
    let x = r.1 in
    let c = cost_Call t f (places t (length cs)) in
    let m = places_many t (length cs) in
    let p = all_cost_append (code.all_codes t cs) (mid.Call t f (places t (length cs)) ∷ []) in
    omega (arith, x, c, m, p)

ns_call_few : (d n : ℕ) (a : Codes) (ds ns : List ℕ) (cs : List Operand) (kind : ℕ) → Few d n a → AllFit ds ns cs → Few (held 0 (d ∷ ds)) (n + sum ns + 1) (λ t. a t ++ (code.all_codes (t + 1) cs ++ mid.NsCall t t (places (t + 1) (length cs)) kind ∷ []))
ns_call_few d n a ds ns cs kind i h t =
    let r = args_few ds ns cs h 1 (t + 1) in
    let last = mid.NsCall t t (places (t + 1) (length cs)) kind ∷ [] in
    let x = r.0 in
    let y = r.1 in
    let z = i t in
    let c = cost_NsCall t t (places (t + 1) (length cs)) kind in
    let p = all_cost_append (a t) (code.all_codes (t + 1) cs ++ last) in
    let q = all_cost_append (code.all_codes (t + 1) cs) last in
    omega (arith, x, y, z, c, p, q)

range_few : (d e f n m l : ℕ) (a b c : Codes) → Few d n a → Few e m b → Few f l c → Few (held 0 (d ∷ e ∷ f ∷ [])) (n + m + l + 1) (λ t. a t ++ (b (t + 1) ++ (c (t + 2) ++ mid.Range t t (t + 1) (t + 2) ∷ [])))
range_few d e f n m l a b c i j k t =
    let last = mid.Range t t (t + 1) (t + 2) ∷ [] in
    let x = i t in
    let y = j (t + 1) in
    let z = k (t + 2) in
    let r = cost_Range t t (t + 1) (t + 2) in
    let p = all_cost_append (a t) (b (t + 1) ++ (c (t + 2) ++ last)) in
    let q = all_cost_append (b (t + 1)) (c (t + 2) ++ last) in
    let s = all_cost_append (c (t + 2)) last in
    omega (arith, x, y, z, r, p, q, s)

module _ (fr : Frame) where
  abbrev pub Good : Expr → Type 0
  Good e = Fit (depth e) (nodes e) (coded fr e)

  abbrev pub KindGood : ExprKind → Type 0
  KindGood x = (y : CType) → KindFit (kind_depth x) (kind_nodes x + 1) (kind_coded fr x y)

  abbrev GoodE : Type 0
  GoodE = (e : Expr) × Good e

  abbrev GoodK : Type 0
  GoodK = (x : ExprKind) × KindGood x

  abbrev layer : ExprKind-F GoodK GoodE → ExprKind-F ExprKind Expr
  layer = map-ExprKind GoodK GoodE ExprKind Expr (λ x. x.0) (λ e. e.0)

  at_layer : (x : ExprKind-F ExprKind Expr)
      → ((y : CType) → KindFit (depths.kind_step (map-ExprKind ExprKind Expr ℕ ℕ kind_depth depth x)) (counts.kind_step (map-ExprKind ExprKind Expr ℕ ℕ kind_nodes nodes x) + 1) (code.kind_step fr (map-ExprKind ExprKind Expr (CType → Coded) Operand (kind_coded fr) (coded fr) x) y))
      → KindGood (roll-ExprKind x)
  at_layer x f y =
      subst (λ d. KindFit d (kind_nodes (roll-ExprKind x) + 1) (kind_coded fr (roll-ExprKind x) y)) (sym (fold-roll-ExprKind ℕ ℕ depths.kind_step depths.expr_step x))
      (subst (λ n. KindFit (depths.kind_step (map-ExprKind ExprKind Expr ℕ ℕ kind_depth depth x)) (n + 1) (kind_coded fr (roll-ExprKind x) y)) (sym (fold-roll-ExprKind ℕ ℕ counts.kind_step counts.expr_step x))
      (subst (λ (c : CType → Coded). KindFit (depths.kind_step (map-ExprKind ExprKind Expr ℕ ℕ kind_depth depth x)) (counts.kind_step (map-ExprKind ExprKind Expr ℕ ℕ kind_nodes nodes x) + 1) (c y)) (sym (fold-roll-ExprKind (CType → Coded) Operand (code.kind_step fr) code.expr_step x))
      (f y)))

  all_fit : (es : List GoodE) → AllFit (map depth (map (λ (e : GoodE). e.0) es)) (map nodes (map (λ (e : GoodE). e.0) es)) (map (coded fr) (map (λ (e : GoodE). e.0) es))
  all_fit [] = none
  all_fit (e ∷ es) = one e.1 (all_fit es)

  -- one operand, and at most 168 more
  one_fit : (e : GoodE) (d : Codes) → ((t : ℕ) → all_cost (d t) ≤ 168) → KindFit (depth e.0) (nodes e.0 + 1) (code.as_value (λ t. (coded fr e.0).code t ++ d t))
  one_fit e d h = let a = e.1.less in value_fit _ _ _ e.1.least (omega (arith, a)) (after_few _ _ _ d e.1.few h)

  two_fit : (e f : GoodE) (d : Codes) → ((t : ℕ) → all_cost (d t) ≤ 248) → KindFit (held 0 (depth e.0 ∷ depth f.0 ∷ [])) (nodes e.0 + nodes f.0 + 1) (code.as_value (λ t. (coded fr e.0).code t ++ ((coded fr f.0).code (t + 1) ++ d t)))
  two_fit e f d h = let a = e.1.less in let b = f.1.less in let c = e.1.least in value_fit _ _ _ (omega arith) (omega (arith, a, b, c)) (two_few _ _ _ _ _ _ d e.1.least e.1.few f.1.few h)

  kind_good : (x : ExprKind-F GoodK GoodE) → KindGood (roll-ExprKind (layer x))
  kind_good (k.Const n) = at_layer (k.Const n) (λ y. value_fit _ _ _ (omega arith) (omega arith) (λ t. let a : cost (mid.Const t n) ≡ 40 = cost_Const t n in omega (arith, a)))
  kind_good (k.Local n) = at_layer (k.Local n) (λ y. place_fit y _ _ _ (omega arith) (omega arith) (home_few 1 1 (slice_get fr.homes n)))
  kind_good (k.Global n) = at_layer (k.Global n) (λ y. place_fit y _ _ _ (omega arith) (omega arith) tt)
  kind_good (k.Deref e) = at_layer (k.Deref e.0) (λ y. let a = e.1.less in place_fit y _ _ _ e.1.least (omega (arith, a)) (λ t. let b = e.1.few t in omega (arith, b)))
  kind_good (k.Member e offset) = at_layer (k.Member e.0 offset) (λ y. let a = e.1.less in place_fit y _ _ _ e.1.least (omega (arith, a)) (member_few fr.bytes _ _ (coded fr e.0).place offset e.1.less e.1.least e.1.place))
  kind_good (k.Addr e) = at_layer (k.Addr e.0) (λ y. let a = e.1.less in value_fit _ _ _ e.1.least (omega (arith, a)) (address_few _ _ (coded fr e.0).place e.1.least e.1.less e.1.place))
  kind_good (k.Convert e) = at_layer (k.Convert e.0) (λ y. one_fit e (convert y) (λ t. let a = narrow_cost (kind_of y) t in omega (arith, a)))
  kind_good (k.Unary o e) = at_layer (k.Unary o e.0) (λ y. one_fit e (operation_one o) (λ t. let a = one_cost o t in omega (arith, a)))
  kind_good (k.Binary o e f) = at_layer (k.Binary o e.0 f.0) (λ y. two_fit e f _ (λ t. let a = operation_cost o (is_signed (coded fr e.0).ctype) t t (t + 1) in omega (arith, a)))
  kind_good (k.PtrAdd e f size) = at_layer (k.PtrAdd e.0 f.0 size) (λ y. two_fit e f (moved_by size) (λ t. let a = moved_cost size t in omega (arith, a)))
  kind_good (k.PtrDiff e f size) = at_layer (k.PtrDiff e.0 f.0 size) (λ y. two_fit e f (apart size) (λ t. let a = apart_cost size t in omega (arith, a)))
  kind_good (k.And e f) = at_layer (k.And e.0 f.0) (λ y.
      let a = e.1.less in let b = f.1.less in let c = e.1.least in
      value_fit _ _ _ (omega (arith, c)) (omega (arith, a, b)) (λ t.
      let off = mid.Const t 0 ∷ [] in
      let on = (coded fr f.0).code t ++ truth t in
      let p = all_cost_append ((coded fr e.0).code t) (choose t on off ∷ []) in
      let q = choose_cost t on off in
      let r = all_cost_append ((coded fr f.0).code t) (truth t) in
      let s = truth_cost t in
      let u : cost (mid.Const t 0) ≡ 40 = cost_Const t 0 in
      let v = e.1.few t in
      let w = f.1.few t in
      omega (arith, p, q, r, s, u, v, w)))
  kind_good (k.Or e f) = at_layer (k.Or e.0 f.0) (λ y.
      let a = e.1.less in let b = f.1.less in let c = e.1.least in
      value_fit _ _ _ (omega (arith, c)) (omega (arith, a, b)) (λ t.
      let on = mid.Const t 1 ∷ [] in
      let off = (coded fr f.0).code t ++ truth t in
      let p = all_cost_append ((coded fr e.0).code t) (choose t on off ∷ []) in
      let q = choose_cost t on off in
      let r = all_cost_append ((coded fr f.0).code t) (truth t) in
      let s = truth_cost t in
      let u : cost (mid.Const t 1) ≡ 40 = cost_Const t 1 in
      let v = e.1.few t in
      let w = f.1.few t in
      omega (arith, p, q, r, s, u, v, w)))
  kind_good (k.Cond e f g) = at_layer (k.Cond e.0 f.0 g.0) (λ y.
      let a = e.1.less in let b = f.1.less in let c = g.1.less in let d = e.1.least in
      value_fit _ _ _ (omega (arith, d)) (omega (arith, a, b, c)) (λ t.
      let p = all_cost_append ((coded fr e.0).code t) (choose t ((coded fr f.0).code t) ((coded fr g.0).code t) ∷ []) in
      let q = choose_cost t ((coded fr f.0).code t) ((coded fr g.0).code t) in
      let v = e.1.few t in
      let w = f.1.few t in
      let x = g.1.few t in
      omega (arith, p, q, v, w, x)))
  kind_good (k.Assign e f) = at_layer (k.Assign e.0 f.0) (λ y.
      let a = e.1.less in let b = f.1.less in let c = e.1.least in
      value_fit _ _ _ (omega arith) (omega (arith, a, b, c)) (assigned_few y _ _ _ _ (coded fr e.0).place _ e.1.least e.1.less e.1.place f.1.few))
  kind_good (k.AssignOp o e f) = at_layer (k.AssignOp o e.0 f.0) (λ y.
      let a = e.1.less in let b = f.1.less in let c = e.1.least in
      value_fit _ _ _ (omega arith) (omega (arith, a, b, c)) (assigned_op_few (record { op = o; place = y; operand = (coded fr f.0).ctype }) _ _ _ _ (coded fr e.0).place _ e.1.least e.1.less e.1.place f.1.few))
  kind_good (k.Step e by old) = at_layer (k.Step e.0 by old) (λ y. let a = e.1.less in value_fit _ _ _ e.1.least (omega (arith, a)) (stepped_few y by _ _ old (coded fr e.0).place e.1.least e.1.less e.1.place))
  kind_good (k.Comma e f) = at_layer (k.Comma e.0 f.0) (λ y.
      let a = e.1.less in let b = f.1.less in let c = e.1.least in
      value_fit _ _ _ (omega (arith, c)) (omega (arith, a, b)) (λ t.
      let p = all_cost_append ((coded fr e.0).code t) ((coded fr f.0).code t) in
      let v = e.1.few t in
      let w = f.1.few t in
      omega (arith, p, v, w)))
  kind_good (k.Call n es) = at_layer (k.Call n (map (λ (e : GoodE). e.0) es)) (λ y.
      let h = all_fit es in
      value_fit _ _ _ (held_least 0 (map depth (map (λ (e : GoodE). e.0) es))) (let q = args_less _ _ _ h 0 in omega (arith, q)) (call_few _ _ _ n h))
  kind_good (k.NsCall p es) = at_layer (k.NsCall p.0 (map (λ (e : GoodE). e.0) es)) (λ y.
      let h = all_fit es in
      let a = p.1.less in
      let b = p.1.least in
      value_fit _ _ _ (held_least 0 (depth p.0 ∷ map depth (map (λ (e : GoodE). e.0) es))) (let q = args_less _ _ _ h 1 in omega (arith, q, a, b)) (ns_call_few _ _ _ _ _ _ (kind_of y) p.1.few h))
  kind_good (k.Range e f g) = at_layer (k.Range e.0 f.0 g.0) (λ y.
      let a = e.1.less in let b = f.1.less in let c = g.1.less in let d = e.1.least in let l = f.1.least in
      value_fit _ _ _ (omega arith) (omega (arith, a, b, c, d, l)) (range_few _ _ _ _ _ _ _ _ _ e.1.few f.1.few g.1.few))
  kind_good (k.NsCreate e) = at_layer (k.NsCreate e.0) (λ y. one_fit e cleared (λ t. let a = cleared_cost t in omega (arith, a)))
  kind_good (k.NsTest e) = at_layer (k.NsTest e.0) (λ y. one_fit e is_even (λ t. let a = even_cost t in omega (arith, a)))
  kind_good k.NsCaller = at_layer k.NsCaller (λ y. value_fit _ _ _ (omega arith) (omega arith) (λ t. let a : cost (mid.Caller t) ≡ 40 = cost_Caller t in omega (arith, a)))

  expr_good : (x : Expr-F GoodK GoodE) → Good (roll-Expr (map-Expr GoodK GoodE ExprKind Expr (λ k. k.0) (λ e. e.0) x))
  expr_good x =
      let z = map-Expr GoodK GoodE ExprKind Expr (λ k. k.0) (λ e. e.0) x in
      let f = x.kind.1 x.ctype in
      subst (λ d. Fit d (nodes (roll-Expr z)) (coded fr (roll-Expr z))) (sym (fold-roll-Expr ℕ ℕ depths.kind_step depths.expr_step z))
      (subst (λ n. Fit (kind_depth x.kind.0) n (coded fr (roll-Expr z))) (sym (fold-roll-Expr ℕ ℕ counts.kind_step counts.expr_step z))
      (subst (λ (c : Operand). Fit (kind_depth x.kind.0) (kind_nodes x.kind.0 + 1) c) (sym (fold-roll-Expr (CType → Coded) Operand (code.kind_step fr) code.expr_step z))
      (record { least = f.least; less = f.less; few = f.few; place = f.place })))

  pub all_good : (e : Expr) → Good e
  all_good = ind-Expr KindGood Good (λ x y is. subst (λ z. KindGood (roll-ExprKind z)) is (kind_good y)) (λ x y is. subst (λ z. Good (roll-Expr z)) is (expr_good y))
