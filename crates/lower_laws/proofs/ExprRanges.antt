-- The numbers in the code of expressions are in range.
use Rattle.std.proofs.Common.{◌≡◌, ℕ, suc, ◌+◌, ◌<◌, ◌≤◌, ◌&&◌, max, Bool, true, false, cond, List, [], ◌∷◌, ◌++◌, length, map, refl, sym, ap, ◌∙◌, subst, arith, Option, Some, None, slice_get}
use Rattle.std.specs.Prelude.{leb, nat_le}
use Rattle.c_types.specs.declared.ctype.CType.{CType}
use Rattle.c_types.specs.Kind.{arithmetic}
use Rattle.c_tree.specs.Depth as depths
use Rattle.c_tree.specs.Depth.{depth, kind_depth, held}
use Rattle.c_tree.specs.Numbers as numbers
use Rattle.c_tree.specs.Numbers.{expr_in_range, all_true}
use Rattle.c_tree.specs.declared.expr.Expr.{Expr, roll-Expr}
use Rattle.c_tree.specs.declared.expr.ExprKind.{ExprKind, roll-ExprKind}
use Rattle.c_tree.specs.declared.expr.ExprKind.TheOpen as k
use Rattle.c_tree.specs.declared.expr.ExprKind.TheOpen.{ExprKind-F, Expr-F}
use Rattle.c_tree.specs.declared.expr.ExprKind.TheFolds.{map-ExprKind, map-Expr, fold-ExprKind, fold-roll-ExprKind, fold-roll-Expr, ind-Expr}
use Rattle.c_const.specs.Operate.{is_signed}
use Rattle.mid_ir.specs.declared.stmt.MidStmt.TheVariants as mid
use Rattle.mid_ir.specs.declared.stmt.SetOp.TheVariants as op
use Rattle.mid_ir.specs.Numbers.{Around, is_var, are_vars, is_kind}
use Rattle.mid_ir.proofs.RangeLaws.{all_in_range, range_Call, range_NsCall, range_Range, range_Caller}
use Rattle.lower_code.specs.Frames.{Home, Variable, Placed, Frame}
use Rattle.lower_code.specs.Pieces.{kind_of, convert, load, store, operation_one, truth, plus, moved_by, apart, cleared, is_even, choose, places}
use Rattle.lower_code.specs.Exprs as code
use Rattle.lower_code.specs.Exprs.{Codes, Base, InBlock, Fixed, Place, Held, Based, Computed, place_at, Change, Coded, Operand, coded, kind_coded, changed, change_at, step_held, step_at, new_value}
use Rattle.lower_laws.proofs.Exprs.{both_left, both_right}
use Rattle.lower_laws.proofs.PieceCosts.{places_many}
use Rattle.lower_laws.proofs.PieceRanges.{both, kind_in, var_in, first_in, one_in, append_in, const_in, set_in, home_in, load_in, store_in, choose_in, narrow_in, operation_in, operation_one_in, truth_in, plus_in, moved_in, apart_in, cleared_in, even_in, BaseIn, base_in, changed_in, change_in, held_in, step_in, places_in}

-- homes are in range: variables below the free ones, and offsets in the block
abbrev pub HomeIn : Frame → Around → Home → Type 0
HomeIn fr R (Variable v) = v < fr.free
HomeIn fr R (Placed offset) = offset ≤ R.block

-- what stands around code, by what stands around the tree
pub record Stands (around : numbers.Around) (fr : Frame) (R : Around) : Type 0 where
  pub homes : (i : ℕ) (h : Home) → slice_get fr.homes i ≡ Some h → HomeIn fr R h
  pub block : fr.bytes ≤ R.block
  pub functions : (n many : ℕ) → around.names.is_function n many ≡ true → R.is_function n many ≡ true
  pub entry : around.entry ≡ true → R.entry ≡ true

module _ (around : numbers.Around) (fr : Frame) (R : Around) (on : Stands around fr R) where
  -- code for an expression of this depth
  abbrev pub Fits : ℕ → Codes → Type 0
  Fits d c = (t k : ℕ) → fr.free ≤ t → t + d + 4 ≤ R.vars → all_in_range R (c t) k ≡ true

  abbrev pub PlaceFits : ℕ → Place → Type 0
  PlaceFits d (Held v) = v < fr.free
  PlaceFits d (Based b) = BaseIn R b
  PlaceFits d (Computed c) = Fits d c

  pub record Fit (d : ℕ) (c : Operand) : Type 0 where
    pub least : 1 ≤ d
    pub fits : Fits d c.code
    pub place : PlaceFits d c.place

  pub record KindFit (d : ℕ) (c : Coded) : Type 0 where
    pub least : 1 ≤ d
    pub fits : Fits d c.code
    pub place : PlaceFits d c.place

  value_fit : (d : ℕ) (c : Codes) → 1 ≤ d → Fits d c → KindFit d (code.as_value c)
  value_fit d c l h = record { least = l; fits = h; place = tt }

  const_fits : (d n : ℕ) → Fits d (λ t. mid.Const t n ∷ [])
  const_fits d n t k nt le = one_in R (mid.Const t n) k (const_in R t n k (omega (arith, le)))

  pub home_fits : (d : ℕ) (o : Option Home) → ((h : Home) → o ≡ Some h → HomeIn fr R h) → PlaceFits d (place_at o)
  home_fits d None h = tt
  home_fits d (Some (Variable v)) h = h (Variable v) refl
  home_fits d (Some (Placed offset)) h = h (Placed offset) refl

  pub member_fits : (d : ℕ) (z : Place) (offset : ℕ) → 1 ≤ d → PlaceFits d z → PlaceFits d (code.member fr.bytes z offset)
  member_fits d (Held v) offset l h = h
  member_fits d (Based (Fixed at)) offset l h = tt
  member_fits d (Based (InBlock from)) offset l h = test (leb (from + offset) fr.bytes) refl
    where
      test : (b : Bool) → leb (from + offset) fr.bytes ≡ b → PlaceFits d (cond b (Based (InBlock (from + offset))) (Computed (λ t. mid.Home t from ∷ plus offset t)))
      test true e = let q : from + offset ≤ fr.bytes = grind (arith, e) in let r = on.block in omega (arith, q, r)
      test false e = λ t k nt le. first_in R (mid.Home t from) (plus offset t) k (home_in R t from k (omega (arith, le)) h) (plus_in R offset t k (omega (arith, le, l)))
  member_fits d (Computed c) offset l h = λ t k nt le. append_in R (c t) (plus offset t) k (h t k nt le) (plus_in R offset t k (omega (arith, le, l)))

  read_fits : (y : CType) (d : ℕ) (z : Place) → PlaceFits d z → Fits d (code.read y z)
  read_fits y d (Held v) h t k nt le = one_in R (mid.Set t op.Copy v v) k (set_in R t op.Copy v v k (omega (arith, le)) (omega (arith, le, nt, h)) (omega (arith, le, nt, h)))
  read_fits y d (Based b) h t k nt le = first_in R (code.base b t) (load y t t ∷ []) k (base_in R b t k (omega (arith, le)) h) (one_in R (load y t t) k (load_in R y t t k (omega (arith, le)) (omega (arith, le))))
  read_fits y d (Computed c) h t k nt le = append_in R (c t) (load y t t ∷ []) k (h t k nt le) (one_in R (load y t t) k (load_in R y t t k (omega (arith, le)) (omega (arith, le))))

  place_fit : (y : CType) (d : ℕ) (z : Place) → 1 ≤ d → PlaceFits d z → KindFit d (code.as_place y z)
  place_fit y d z l h = record { least = l; fits = read_fits y d z h; place = h }

  address_fits : (d : ℕ) (z : Place) → PlaceFits d z → Fits d (code.address z)
  address_fits d (Held v) h t k nt le = const_fits d 0 t k nt le
  address_fits d (Based b) h t k nt le = one_in R (code.base b t) k (base_in R b t k (omega (arith, le)) h)
  address_fits d (Computed c) h t k nt le = h t k nt le

  after_fits : (d : ℕ) (c e : Codes) → 1 ≤ d → Fits d c → ((t k : ℕ) → t + 1 < R.vars → all_in_range R (e t) k ≡ true) → Fits d (λ t. c t ++ e t)
  after_fits d c e l h i t k nt le = append_in R (c t) (e t) k (h t k nt le) (i t k (omega (arith, le, l)))

  two_fits : (d e : ℕ) (a b c : Codes) → 1 ≤ e → Fits d a → Fits e b → ((t k : ℕ) → t + 3 < R.vars → all_in_range R (c t) k ≡ true) → Fits (held 0 (d ∷ e ∷ [])) (λ t. a t ++ (b (t + 1) ++ c t))
  two_fits d e a b c l h i j t k nt le =
      append_in R (a t) (b (t + 1) ++ c t) k (h t k nt (omega (arith, le))) (append_in R (b (t + 1)) (c t) k (i (t + 1) k (omega (arith, nt)) (omega (arith, le))) (j t k (omega (arith, le, l))))

  pub assigned_fits : (y : CType) (d e : ℕ) (z : Place) (b : Codes) → 1 ≤ e → PlaceFits d z → Fits e b → Fits (held 0 (d ∷ e ∷ [])) (code.assigned y z b)
  assigned_fits y d e (Held v) b l h i t k nt le =
      append_in R (b t) (mid.Set v op.Copy t t ∷ []) k (i t k nt (omega (arith, le)))
      (one_in R (mid.Set v op.Copy t t) k (set_in R v op.Copy t t k (omega (arith, le, nt, h)) (omega (arith, le)) (omega (arith, le))))
  assigned_fits y d e (Based z) b l h i t k nt le =
      append_in R (b t) (code.base z (t + 1) ∷ store y (t + 1) t ∷ []) k (i t k nt (omega (arith, le)))
      (first_in R (code.base z (t + 1)) (store y (t + 1) t ∷ []) k (base_in R z (t + 1) k (omega (arith, le)) h) (one_in R (store y (t + 1) t) k (store_in R y (t + 1) t k (omega (arith, le)) (omega (arith, le)))))
  assigned_fits y d e (Computed at) b l h i t k nt le =
      two_fits d e at b (λ t. store y t (t + 1) ∷ mid.Set t op.Copy (t + 1) (t + 1) ∷ []) l h i (λ t k q.
      first_in R (store y t (t + 1)) (mid.Set t op.Copy (t + 1) (t + 1) ∷ []) k (store_in R y t (t + 1) k (omega (arith, q)) (omega (arith, q)))
      (one_in R (mid.Set t op.Copy (t + 1) (t + 1)) k (set_in R t op.Copy (t + 1) (t + 1) k (omega (arith, q)) (omega (arith, q)) (omega (arith, q))))) t k nt le

  assigned_op_fits : (c : Change) (d e : ℕ) (z : Place) (b : Codes) → 1 ≤ e → PlaceFits d z → Fits e b → Fits (held 0 (d ∷ e ∷ [])) (code.assigned_op c z b)
  assigned_op_fits c d e (Held v) b l h i t k nt le =
      let last = mid.Set v op.Copy t t ∷ [] in
      append_in R (b t) (changed c v t (t + 1) last) k (i t k nt (omega (arith, le)))
      (changed_in R c v t (t + 1) last k (omega (arith, le, nt, h)) (omega (arith, le)) (omega (arith, le)) (one_in R (mid.Set v op.Copy t t) k (set_in R v op.Copy t t k (omega (arith, le, nt, h)) (omega (arith, le)) (omega (arith, le)))))
  assigned_op_fits c d e (Based z) b l h i t k nt le =
      append_in R (b t) (code.base z (t + 1) ∷ change_at c (t + 1) t (t + 2) []) k (i t k nt (omega (arith, le)))
      (first_in R (code.base z (t + 1)) (change_at c (t + 1) t (t + 2) []) k (base_in R z (t + 1) k (omega (arith, le)) h) (change_in R c (t + 1) t (t + 2) [] k (omega (arith, le)) (omega (arith, le)) (omega (arith, le, l)) refl))
  assigned_op_fits c d e (Computed at) b l h i t k nt le =
      two_fits d e at b (λ t. change_at c t (t + 1) (t + 2) (mid.Set t op.Copy (t + 1) (t + 1) ∷ [])) l h i (λ t k q.
      change_in R c t (t + 1) (t + 2) (mid.Set t op.Copy (t + 1) (t + 1) ∷ []) k (omega (arith, q)) (omega (arith, q)) (omega (arith, q))
      (one_in R (mid.Set t op.Copy (t + 1) (t + 1)) k (set_in R t op.Copy (t + 1) (t + 1) k (omega (arith, q)) (omega (arith, q)) (omega (arith, q))))) t k nt le

  new_in : (old : Bool) (t : ℕ) → t + 2 < R.vars → new_value old t < R.vars
  new_in true t h = h
  new_in false t h = omega (arith, h)

  stepped_fits : (y : CType) (by d : ℕ) (old : Bool) (z : Place) → PlaceFits d z → Fits d (code.stepped y by old z)
  stepped_fits y by d true (Held v) h t k nt le =
      let v_in : v < R.vars = omega (arith, le, nt, h) in
      first_in R (mid.Set t op.Copy v v) (step_held y by v (t + 1) []) k (set_in R t op.Copy v v k (omega (arith, le)) v_in v_in) (held_in R y by v (t + 1) [] k v_in (omega (arith, le)) refl)
  stepped_fits y by d false (Held v) h t k nt le =
      let v_in : v < R.vars = omega (arith, le, nt, h) in
      held_in R y by v (t + 1) (mid.Set t op.Copy v v ∷ []) k v_in (omega (arith, le)) (one_in R (mid.Set t op.Copy v v) k (set_in R t op.Copy v v k (omega (arith, le)) v_in v_in))
  stepped_fits y by d old (Based z) h t k nt le =
      let q : t + 2 < R.vars = omega (arith, le) in
      first_in R (code.base z (t + 1)) (step_at y by (new_value old t) t) k (base_in R z (t + 1) k (omega (arith, le)) h) (step_in R y by (new_value old t) t k (new_in old t q) q)
  stepped_fits y by d old (Computed at) h t k nt le =
      let q : t + 2 < R.vars = omega (arith, le) in
      append_in R (at t) (mid.Set (t + 1) op.Copy t t ∷ step_at y by (new_value old t) t) k (h t k nt le)
      (first_in R (mid.Set (t + 1) op.Copy t t) (step_at y by (new_value old t) t) k (set_in R (t + 1) op.Copy t t k (omega (arith, le)) (omega (arith, le)) (omega (arith, le))) (step_in R y by (new_value old t) t k (new_in old t q) q))

  -- ---- arguments

  pub data AllFit : List ℕ → List Operand → Type 0 where
    none : AllFit [] []
    one : {d : ℕ} {c : Operand} {ds : List ℕ} {cs : List Operand} → Fit d c → AllFit ds cs → AllFit (d ∷ ds) (c ∷ cs)

  args_in : (ds : List ℕ) (cs : List Operand) → AllFit ds cs → (first b t k : ℕ) → t ≡ first + b → fr.free ≤ first → first + held b ds + 4 ≤ R.vars → all_in_range R (code.all_codes t cs) k ≡ true
  args_in [] [] none first b t k e nf le = refl
  args_in (d ∷ ds) (c ∷ cs) (one f fs) first b t k e nf le =
      append_in R (c.code t) (code.all_codes (t + 1) cs) k (f.fits t k (omega (arith, e, nf)) (omega (arith, e, le)))
      (args_in ds cs fs first (b + 1) (t + 1) k (omega (arith, e)) nf (omega (arith, le)))
  args_in [] (c ∷ cs) x first b t k e nf le = elim x [ ]
  args_in (d ∷ ds) [] x first b t k e nf le = elim x [ ]

  args_many : (ds : List ℕ) (cs : List Operand) → AllFit ds cs → (b : ℕ) → b + length cs ≤ max b (held b ds)
  args_many [] [] none b = omega arith
  args_many (d ∷ ds) (c ∷ cs) (one f fs) b = let h = args_many ds cs fs (b + 1) in let l = f.least in omega (arith, h, l)
  args_many [] (c ∷ cs) x b = elim x [ ]
  args_many (d ∷ ds) [] x b = elim x [ ]

  call_fits : (ds : List ℕ) (cs : List Operand) (n : ℕ) → AllFit ds cs → R.is_function n (length cs) ≡ true → Fits (held 0 ds) (λ t. code.all_codes t cs ++ mid.Call t n (places t (length cs)) ∷ [])
  call_fits ds cs n h q t k nt le =
      let ps = places t (length cs) in
      let many = args_many ds cs h 0 in
      append_in R (code.all_codes t cs) (mid.Call t n ps ∷ []) k (args_in ds cs h t 0 t k (omega arith) nt le)
      (one_in R (mid.Call t n ps) k (range_Call R t n ps k
      ∙ both (is_var R t && are_vars R ps) (R.is_function n (length ps)) (both (is_var R t) (are_vars R ps) (var_in R t (omega (arith, le))) (places_in R t (length cs) (omega (arith, le, many)))) (ap (R.is_function n) (places_many t (length cs)) ∙ q)))

  ns_call_fits : (d : ℕ) (a : Codes) (ds : List ℕ) (cs : List Operand) (y : CType) → Fits d a → AllFit ds cs → length cs ≤ 4 → Fits (held 0 (d ∷ ds)) (λ t. a t ++ (code.all_codes (t + 1) cs ++ mid.NsCall t t (places (t + 1) (length cs)) (kind_of y) ∷ []))
  ns_call_fits d a ds cs y i h few t k nt le =
      let ps = places (t + 1) (length cs) in
      let last = mid.NsCall t t ps (kind_of y) in
      let many = args_many ds cs h 1 in
      let same = places_many (t + 1) (length cs) in
      let t_in : is_var R t ≡ true = var_in R t (omega (arith, le)) in
      let four : nat_le (length ps) 4 ≡ true = let q : length ps ≤ 4 = omega (arith, same, few) in grind (arith, q) in
      append_in R (a t) (code.all_codes (t + 1) cs ++ last ∷ []) k (i t k nt (omega (arith, le)))
      (append_in R (code.all_codes (t + 1) cs) (last ∷ []) k (args_in ds cs h t 1 (t + 1) k refl nt (omega (arith, le)))
      (one_in R last k (range_NsCall R t t ps (kind_of y) k
      ∙ both (is_var R t && (is_var R t && are_vars R ps)) (nat_le (length ps) 4 && is_kind (kind_of y))
      (both (is_var R t) (is_var R t && are_vars R ps) t_in (both (is_var R t) (are_vars R ps) t_in (places_in R (t + 1) (length cs) (omega (arith, le, many)))))
      (both (nat_le (length ps) 4) (is_kind (kind_of y)) four (kind_in (arithmetic y))))))

  range_fits : (d e f : ℕ) (a b c : Codes) → 1 ≤ f → Fits d a → Fits e b → Fits f c → Fits (held 0 (d ∷ e ∷ f ∷ [])) (λ t. a t ++ (b (t + 1) ++ (c (t + 2) ++ mid.Range t t (t + 1) (t + 2) ∷ [])))
  range_fits d e f a b c l h i j t k nt le =
      let last = mid.Range t t (t + 1) (t + 2) in
      let u = var_in R t (omega (arith, le)) in
      let v = var_in R (t + 1) (omega (arith, le)) in
      let w = var_in R (t + 2) (omega (arith, le)) in
      append_in R (a t) (b (t + 1) ++ (c (t + 2) ++ last ∷ [])) k (h t k nt (omega (arith, le)))
      (append_in R (b (t + 1)) (c (t + 2) ++ last ∷ []) k (i (t + 1) k (omega (arith, nt)) (omega (arith, le)))
      (append_in R (c (t + 2)) (last ∷ []) k (j (t + 2) k (omega (arith, nt)) (omega (arith, le)))
      (one_in R last k (range_Range R t t (t + 1) (t + 2) k
      ∙ both (is_var R t) (is_var R t && (is_var R (t + 1) && (is_var R (t + 2) && true))) u (both (is_var R t) (is_var R (t + 1) && (is_var R (t + 2) && true)) u (both (is_var R (t + 1)) (is_var R (t + 2) && true) v (both (is_var R (t + 2)) true w refl)))))))

  -- ---- by the layers

  abbrev pub kind_ranged : ExprKind → Bool
  kind_ranged = fold-ExprKind Bool Bool (numbers.kind_step around) numbers.expr_step

  abbrev pub Good : Expr → Type 0
  Good e = expr_in_range around e ≡ true → Fit (depth e) (coded fr e)

  abbrev pub KindGood : ExprKind → Type 0
  KindGood x = kind_ranged x ≡ true → (y : CType) → KindFit (kind_depth x) (kind_coded fr x y)

  abbrev GoodE : Type 0
  GoodE = (e : Expr) × Good e

  abbrev GoodK : Type 0
  GoodK = (x : ExprKind) × KindGood x

  abbrev layer : ExprKind-F GoodK GoodE → ExprKind-F ExprKind Expr
  layer = map-ExprKind GoodK GoodE ExprKind Expr (λ x. x.0) (λ e. e.0)

  at_layer : (x : ExprKind-F ExprKind Expr)
      → (numbers.kind_step around (map-ExprKind ExprKind Expr Bool Bool kind_ranged (expr_in_range around) x) ≡ true → (y : CType) → KindFit (depths.kind_step (map-ExprKind ExprKind Expr ℕ ℕ kind_depth depth x)) (code.kind_step fr (map-ExprKind ExprKind Expr (CType → Coded) Operand (kind_coded fr) (coded fr) x) y))
      → KindGood (roll-ExprKind x)
  at_layer x f h y =
      subst (λ d. KindFit d (kind_coded fr (roll-ExprKind x) y)) (sym (fold-roll-ExprKind ℕ ℕ depths.kind_step depths.expr_step x))
      (subst (λ (c : CType → Coded). KindFit (depths.kind_step (map-ExprKind ExprKind Expr ℕ ℕ kind_depth depth x)) (c y)) (sym (fold-roll-ExprKind (CType → Coded) Operand (code.kind_step fr) code.expr_step x))
      (f (sym (fold-roll-ExprKind Bool Bool (numbers.kind_step around) numbers.expr_step x) ∙ h) y))

  all_fit : (es : List GoodE) → all_true (map (expr_in_range around) (map (λ (e : GoodE). e.0) es)) ≡ true → AllFit (map depth (map (λ (e : GoodE). e.0) es)) (map (coded fr) (map (λ (e : GoodE). e.0) es))
  all_fit [] h = none
  all_fit (e ∷ es) h = one (e.1 (both_left _ _ h)) (all_fit es (both_right _ _ h))

  mapped : (es : List Expr) → length (map (coded fr) es) ≡ length (map (expr_in_range around) es)
  mapped [] = refl
  mapped (e ∷ es) = ap suc (mapped es)

  held_least : (before : ℕ) (ds : List ℕ) → 1 ≤ held before ds
  held_least before [] = omega arith
  held_least before (d ∷ ds) = let least = held_least (before + 1) ds in omega (arith, least)

  one_fit : (e : Expr) (d : Codes) → Fit (depth e) (coded fr e) → ((t k : ℕ) → t + 1 < R.vars → all_in_range R (d t) k ≡ true) → KindFit (depth e) (code.as_value (λ t. (coded fr e).code t ++ d t))
  one_fit e d f h = value_fit _ _ f.least (after_fits _ _ d f.least f.fits h)

  two_fit : (e f : Expr) (d : Codes) → Fit (depth e) (coded fr e) → Fit (depth f) (coded fr f) → ((t k : ℕ) → t + 3 < R.vars → all_in_range R (d t) k ≡ true) → KindFit (held 0 (depth e ∷ depth f ∷ [])) (code.as_value (λ t. (coded fr e).code t ++ ((coded fr f).code (t + 1) ++ d t)))
  two_fit e f d g h i = value_fit _ _ (omega arith) (two_fits _ _ _ _ d h.least g.fits h.fits i)

  abbrev ranged : GoodE → Bool
  ranged e = expr_in_range around e.0

  kind_good : (x : ExprKind-F GoodK GoodE) → KindGood (roll-ExprKind (layer x))
  kind_good (k.Const n) = at_layer (k.Const n) (λ h y. value_fit _ _ (omega arith) (const_fits 1 n))
  kind_good (k.Local n) = at_layer (k.Local n) (λ h y. place_fit y _ _ (omega arith) (home_fits 1 (slice_get fr.homes n) (on.homes n)))
  kind_good (k.Global n) = at_layer (k.Global n) (λ h y. place_fit y _ _ (omega arith) tt)
  kind_good (k.Deref e) = at_layer (k.Deref e.0) (λ h y. let f = e.1 h in place_fit y _ _ f.least f.fits)
  kind_good (k.Member e offset) = at_layer (k.Member e.0 offset) (λ h y. let f = e.1 h in place_fit y _ _ f.least (member_fits _ (coded fr e.0).place offset f.least f.place))
  kind_good (k.Addr e) = at_layer (k.Addr e.0) (λ h y. let f = e.1 h in value_fit _ _ f.least (address_fits _ (coded fr e.0).place f.place))
  kind_good (k.Convert e) = at_layer (k.Convert e.0) (λ h y. one_fit e.0 (convert y) (e.1 h) (λ t k q. narrow_in R (kind_of y) t k (omega (arith, q))))
  kind_good (k.Unary o e) = at_layer (k.Unary o e.0) (λ h y. one_fit e.0 (operation_one o) (e.1 h) (λ t k q. operation_one_in R o t k q))
  kind_good (k.Binary o e f) = at_layer (k.Binary o e.0 f.0) (λ h y. two_fit e.0 f.0 _ (e.1 (both_left _ _ h)) (f.1 (both_right _ _ h)) (λ t k q. one_in R _ k (operation_in R o (is_signed (coded fr e.0).ctype) t t (t + 1) k (omega (arith, q)) (omega (arith, q)) (omega (arith, q)))))
  kind_good (k.PtrAdd e f size) = at_layer (k.PtrAdd e.0 f.0 size) (λ h y. two_fit e.0 f.0 (moved_by size) (e.1 (both_left _ _ h)) (f.1 (both_right _ _ h)) (λ t k q. moved_in R size t k (omega (arith, q))))
  kind_good (k.PtrDiff e f size) = at_layer (k.PtrDiff e.0 f.0 size) (λ h y. two_fit e.0 f.0 (apart size) (e.1 (both_left _ _ h)) (f.1 (both_right _ _ h)) (λ t k q. apart_in R size t k (omega (arith, q))))
  kind_good (k.And e f) = at_layer (k.And e.0 f.0) (λ h y.
      let g : Fit (depth e.0) (coded fr e.0) = e.1 (both_left (ranged e) (ranged f) h) in
      let i : Fit (depth f.0) (coded fr f.0) = f.1 (both_right (ranged e) (ranged f) h) in
      let l = g.least in
      value_fit _ _ (omega (arith, l)) (λ t k nt le.
      let yes_code = (coded fr f.0).code t ++ truth t in
      append_in R ((coded fr e.0).code t) (choose t yes_code (mid.Const t 0 ∷ []) ∷ []) k (g.fits t k nt (omega (arith, le)))
      (one_in R _ k (choose_in R t yes_code (mid.Const t 0 ∷ []) k (omega (arith, le)) (append_in R ((coded fr f.0).code t) (truth t) k (i.fits t k nt (omega (arith, le))) (truth_in R t k (omega (arith, le)))) (const_fits 0 0 t k nt (omega (arith, le)))))))
  kind_good (k.Or e f) = at_layer (k.Or e.0 f.0) (λ h y.
      let g : Fit (depth e.0) (coded fr e.0) = e.1 (both_left (ranged e) (ranged f) h) in
      let i : Fit (depth f.0) (coded fr f.0) = f.1 (both_right (ranged e) (ranged f) h) in
      let l = g.least in
      value_fit _ _ (omega (arith, l)) (λ t k nt le.
      let off_code = (coded fr f.0).code t ++ truth t in
      append_in R ((coded fr e.0).code t) (choose t (mid.Const t 1 ∷ []) off_code ∷ []) k (g.fits t k nt (omega (arith, le)))
      (one_in R _ k (choose_in R t (mid.Const t 1 ∷ []) off_code k (omega (arith, le)) (const_fits 0 1 t k nt (omega (arith, le))) (append_in R ((coded fr f.0).code t) (truth t) k (i.fits t k nt (omega (arith, le))) (truth_in R t k (omega (arith, le))))))))
  kind_good (k.Cond e f g) = at_layer (k.Cond e.0 f.0 g.0) (λ h y.
      let a : Fit (depth e.0) (coded fr e.0) = e.1 (both_left (ranged e) (ranged f && ranged g) h) in
      let b : Fit (depth f.0) (coded fr f.0) = f.1 (both_left (ranged f) (ranged g) (both_right (ranged e) (ranged f && ranged g) h)) in
      let c : Fit (depth g.0) (coded fr g.0) = g.1 (both_right (ranged f) (ranged g) (both_right (ranged e) (ranged f && ranged g) h)) in
      let l = a.least in
      value_fit _ _ (omega (arith, l)) (λ t k nt le.
      append_in R ((coded fr e.0).code t) (choose t ((coded fr f.0).code t) ((coded fr g.0).code t) ∷ []) k (a.fits t k nt (omega (arith, le)))
      (one_in R _ k (choose_in R t ((coded fr f.0).code t) ((coded fr g.0).code t) k (omega (arith, le)) (b.fits t k nt (omega (arith, le))) (c.fits t k nt (omega (arith, le)))))))
  kind_good (k.Assign e f) = at_layer (k.Assign e.0 f.0) (λ h y.
      let a : Fit (depth e.0) (coded fr e.0) = e.1 (both_left (ranged e) (ranged f) h) in
      let b : Fit (depth f.0) (coded fr f.0) = f.1 (both_right (ranged e) (ranged f) h) in
      value_fit _ _ (omega arith) (assigned_fits y _ _ (coded fr e.0).place _ b.least a.place b.fits))
  kind_good (k.AssignOp o e f) = at_layer (k.AssignOp o e.0 f.0) (λ h y.
      let a : Fit (depth e.0) (coded fr e.0) = e.1 (both_left (ranged e) (ranged f) h) in
      let b : Fit (depth f.0) (coded fr f.0) = f.1 (both_right (ranged e) (ranged f) h) in
      value_fit _ _ (omega arith) (assigned_op_fits (record { op = o; place = y; operand = (coded fr f.0).ctype }) _ _ (coded fr e.0).place _ b.least a.place b.fits))
  kind_good (k.Step e by old) = at_layer (k.Step e.0 by old) (λ h y. let a = e.1 h in value_fit _ _ a.least (stepped_fits y by _ old (coded fr e.0).place a.place))
  kind_good (k.Comma e f) = at_layer (k.Comma e.0 f.0) (λ h y.
      let a : Fit (depth e.0) (coded fr e.0) = e.1 (both_left (ranged e) (ranged f) h) in
      let b : Fit (depth f.0) (coded fr f.0) = f.1 (both_right (ranged e) (ranged f) h) in
      let l = a.least in
      value_fit _ _ (omega (arith, l)) (λ t k nt le. append_in R ((coded fr e.0).code t) ((coded fr f.0).code t) k (a.fits t k nt (omega (arith, le))) (b.fits t k nt (omega (arith, le)))))
  kind_good (k.Call n es) = at_layer (k.Call n (map (λ (e : GoodE). e.0) es)) (λ h y.
      let trees = map (λ (e : GoodE). e.0) es in
      value_fit _ _ (held_least 0 (map depth trees)) (call_fits _ _ n (all_fit es (both_right _ _ h)) (on.functions n _ (ap (around.names.is_function n) (mapped trees) ∙ both_left _ _ h))))
  kind_good (k.NsCall p es) = at_layer (k.NsCall p.0 (map (λ (e : GoodE). e.0) es)) (λ h y.
      let trees = map (λ (e : GoodE). e.0) es in
      let four = both_left (nat_le (length (map (expr_in_range around) trees)) 4) _ h in
      let many = mapped trees in
      let few : length (map (expr_in_range around) trees) ≤ 4 = grind (arith, four) in
      value_fit _ _ (held_least 0 (depth p.0 ∷ map depth trees)) (ns_call_fits _ _ _ _ y (p.1 (both_left _ _ (both_right _ _ h))).fits (all_fit es (both_right _ _ (both_right _ _ h))) (omega (arith, many, few))))
  kind_good (k.Range e f g) = at_layer (k.Range e.0 f.0 g.0) (λ h y.
      let a : Fit (depth e.0) (coded fr e.0) = e.1 (both_left (ranged e) (ranged f && ranged g) h) in
      let b : Fit (depth f.0) (coded fr f.0) = f.1 (both_left (ranged f) (ranged g) (both_right (ranged e) (ranged f && ranged g) h)) in
      let c : Fit (depth g.0) (coded fr g.0) = g.1 (both_right (ranged f) (ranged g) (both_right (ranged e) (ranged f && ranged g) h)) in
      value_fit _ _ (omega arith) (range_fits _ _ _ _ _ _ c.least a.fits b.fits c.fits))
  kind_good (k.NsCreate e) = at_layer (k.NsCreate e.0) (λ h y. one_fit e.0 cleared (e.1 h) (λ t k q. cleared_in R t k q))
  kind_good (k.NsTest e) = at_layer (k.NsTest e.0) (λ h y. one_fit e.0 is_even (e.1 h) (λ t k q. even_in R t k q))
  kind_good k.NsCaller = at_layer k.NsCaller (λ h y. value_fit _ _ (omega arith) (λ t k nt le.
      one_in R (mid.Caller t) k (range_Caller R t k ∙ both (is_var R t) R.entry (var_in R t (omega (arith, le))) (on.entry h))))

  expr_good : (x : Expr-F GoodK GoodE) → Good (roll-Expr (map-Expr GoodK GoodE ExprKind Expr (λ k. k.0) (λ e. e.0) x))
  expr_good x h =
      let z = map-Expr GoodK GoodE ExprKind Expr (λ k. k.0) (λ e. e.0) x in
      let f = x.kind.1 (sym (fold-roll-Expr Bool Bool (numbers.kind_step around) numbers.expr_step z) ∙ h) x.ctype in
      subst (λ d. Fit d (coded fr (roll-Expr z))) (sym (fold-roll-Expr ℕ ℕ depths.kind_step depths.expr_step z))
      (subst (λ (c : Operand). Fit (kind_depth x.kind.0) c) (sym (fold-roll-Expr (CType → Coded) Operand (code.kind_step fr) code.expr_step z))
      (record { least = f.least; fits = f.fits; place = f.place }))

  pub all_good : (e : Expr) → Good e
  all_good = ind-Expr KindGood Good (λ x y is. subst (λ z. KindGood (roll-ExprKind z)) is (kind_good y)) (λ x y is. subst (λ z. Good (roll-Expr z)) is (expr_good y))
