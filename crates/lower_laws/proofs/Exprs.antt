-- Every expression.
use Rattle.std.proofs.Common.{◌≡◌, ℕ, ◌+◌, ◌<◌, ◌&&◌, Bool, true, false, List, [], ◌∷◌, ◌++◌, length, map, refl, sym, ap, ◌∙◌, subst, arith, Some, slice_get, slice_index, slice_index_or}
use Rattle.std.proofs.lemmas.Option.{slice_get-get_or}
use Rattle.ns_types.specs.Operators.{truth}
use Rattle.c_types.specs.declared.ctype.CType.{CType}
use Rattle.c_tree.specs.Numbers as numbers
use Rattle.c_tree.specs.Numbers.{expr_in_range, all_true}
use Rattle.c_tree.specs.declared.expr.Expr.{Expr, roll-Expr}
use Rattle.c_tree.specs.declared.expr.ExprKind.{ExprKind, roll-ExprKind}
use Rattle.c_tree.specs.declared.expr.ExprKind.TheOpen as k
use Rattle.c_tree.specs.declared.expr.ExprKind.TheOpen.{ExprKind-F, Expr-F}
use Rattle.c_tree.specs.declared.expr.ExprKind.TheFolds.{map-ExprKind, map-Expr, fold-ExprKind, fold-roll-ExprKind, fold-roll-Expr, ind-Expr}
use Rattle.c_const.specs.Operate.{is_signed}
use Rattle.c_mean.specs.Parts.{Has, Part}
use Rattle.c_mean.specs.Values.{Spot, At, spot_in}
use Rattle.c_mean.specs.Exprs as mean
use Rattle.c_mean.specs.Exprs.{Around, Meant, Sense, sense, sense_of}
use Rattle.mid_ir.specs.Activation.{Site}
use Rattle.lower_code.specs.Frames.{Home, Variable, Placed, Frame}
use Rattle.lower_code.specs.Exprs as code
use Rattle.lower_code.specs.Exprs.{Codes, Place, Based, Fixed, place_at, Coded, Operand, coded, kind_coded}
use Rattle.lower_laws.specs.Likeness.{Like}
use Rattle.lower_laws.proofs.Relate.{IsFrame}
use Rattle.lower_laws.proofs.Places.{Does, Stands, const_does, address_does, read_does, member_stands}
use Rattle.lower_laws.proofs.Writes.{assigned_does, assigned_op_does}
use Rattle.lower_laws.proofs.Steps.{stepped_does}
use Rattle.lower_laws.proofs.Operands.{AllDo, none, one, convert_does, unary_does, create_does, test_does, binary_does, sum_does, difference_does, choose_does, and_does, or_does, comma_does, range_does, caller_does, call_does, ns_call_does}

pub both_left : (a b : Bool) → (a && b) ≡ true → a ≡ true
both_left true b h = refl
both_left false b h = h

pub both_right : (a b : Bool) → (a && b) ≡ true → b ≡ true
both_right true b h = h
both_right false b h = absurd cc

module _ (around : numbers.Around) (fr : Frame) (good : IsFrame fr) (s : Around) (r : Site) (like : Like around.names fr s r) (all : around.locals ≡ length fr.homes) where
  abbrev D : Part ℕ → Codes → Type 0
  D = Does fr good r like.room

  abbrev S : Part Spot → Place → Type 0
  S = Stands fr good r like.room

  -- meaning and code are of one type, at one place, and do the same
  pub record Fit (a : Sense) (c : Operand) : Type 0 where
    pub same : a.ctype ≡ c.ctype
    pub does : D (a.value s) c.code
    pub place : S (a.place s) c.place

  pub record KindFit (a : Meant) (c : Coded) : Type 0 where
    pub does : D (a.value s) c.code
    pub place : S (a.place s) c.place

  abbrev pub kind_in : ExprKind → Bool
  kind_in = fold-ExprKind Bool Bool (numbers.kind_step around) numbers.expr_step

  abbrev pub Good : Expr → Type 0
  Good e = expr_in_range around e ≡ true → Fit (sense e) (coded fr e)

  abbrev pub KindGood : ExprKind → Type 0
  KindGood x = kind_in x ≡ true → (y : CType) → KindFit (sense_of x y) (kind_coded fr x y)

  abbrev GoodE : Type 0
  GoodE = (e : Expr) × Good e

  abbrev GoodK : Type 0
  GoodK = (x : ExprKind) × KindGood x

  abbrev layer : ExprKind-F GoodK GoodE → ExprKind-F ExprKind Expr
  layer = map-ExprKind GoodK GoodE ExprKind Expr (λ x. x.0) (λ e. e.0)

  -- a layer of operands that are good
  at_layer : (x : ExprKind-F ExprKind Expr)
      → (numbers.kind_step around (map-ExprKind ExprKind Expr Bool Bool kind_in (expr_in_range around) x) ≡ true → (y : CType) → KindFit (mean.kind_step (map-ExprKind ExprKind Expr (CType → Meant) Sense sense_of sense x) y) (code.kind_step fr (map-ExprKind ExprKind Expr (CType → Coded) Operand (kind_coded fr) (coded fr) x) y))
      → KindGood (roll-ExprKind x)
  at_layer x f h y =
      subst (λ (z : CType → Meant). KindFit (z y) (kind_coded fr (roll-ExprKind x) y)) (sym (fold-roll-ExprKind (CType → Meant) Sense mean.kind_step mean.expr_step x))
      (subst (λ (z : CType → Coded). KindFit (mean.kind_step (map-ExprKind ExprKind Expr (CType → Meant) Sense sense_of sense x) y) (z y)) (sym (fold-roll-ExprKind (CType → Coded) Operand (code.kind_step fr) code.expr_step x))
      (f (sym (fold-roll-ExprKind Bool Bool (numbers.kind_step around) numbers.expr_step x) ∙ h) y))

  -- what is no place
  nowhere_stands : S (λ l w. Has (At 0) l w) code.nowhere
  nowhere_stands = record { within = tt; is = λ l w. refl }

  value_fit : (a : Around → Part ℕ) (c : Codes) → D (a s) c → KindFit (mean.as_value a) (code.as_value c)
  value_fit a c h = record { does = h; place = nowhere_stands }

  place_fit : (y : CType) (p : Around → Part Spot) (z : Place) → S (p s) z → KindFit (mean.as_place y p) (code.as_place y z)
  place_fit y p z h = record { does = read_does fr good r like.room y (p s) z h; place = h }

  pub local_stands : (n : ℕ) → n < length fr.homes → S (λ l w. Has (spot_in s.block (slice_get s.offsets n) n) l w) (place_at (slice_get fr.homes n))
  local_stands n lt = let h = slice_index_or fr.homes n (Placed 0) in let e = slice_get-get_or fr.homes n (Placed 0) lt in subst (λ z. S (λ l w. Has (spot_in s.block (slice_get s.offsets n) n) l w) (place_at z)) (sym e) (by_home h e)
    where
      by_home : (h : Home) → slice_get fr.homes n ≡ Some h → S (λ l w. Has (spot_in s.block (slice_get s.offsets n) n) l w) (place_at (Some h))
      by_home (Variable v) e = record { local = n; home = e; is = λ l w. ap (λ z. Has z l w) (like.homes n (Variable v) e) }
      by_home (Placed offset) e = let at = like.homes n (Placed offset) e in record { within = at.1; is = λ l w. ap (λ z. Has z l w) (at.0 ∙ ap (λ b. At (b + offset)) (sym like.block)) }

  all_fit : (es : List GoodE) → all_true (map (expr_in_range around) (map (λ (e : GoodE). e.0) es)) ≡ true → AllDo fr good r like.room s (map sense (map (λ (e : GoodE). e.0) es)) (map (coded fr) (map (λ (e : GoodE). e.0) es))
  all_fit [] h = none
  all_fit (e ∷ es) h = one (e.1 (both_left _ _ h)).does (all_fit es (both_right _ _ h))

  kind_good : (x : ExprKind-F GoodK GoodE) → KindGood (roll-ExprKind (layer x))
  kind_good (k.Const n) = at_layer (k.Const n) (λ h y. value_fit _ _ (const_does fr good r like.room n))
  kind_good (k.Local n) = at_layer (k.Local n) (λ h y. let lt : n < around.locals = grind (arith, h) in place_fit y _ _ (local_stands n (omega (arith, lt, all))))
  kind_good (k.Global n) = at_layer (k.Global n) (λ h y. place_fit y _ _ (record { within = tt; is = λ l w. ap (λ z. Has (At (slice_index z n)) l w) like.globals }))
  kind_good (k.Deref e) = at_layer (k.Deref e.0) (λ h y. place_fit y _ _ (record { at = (sense e.0).value s; is = λ l w. refl; does = (e.1 h).does }))
  kind_good (k.Member e offset) = at_layer (k.Member e.0 offset) (λ h y. place_fit y _ _ (member_stands fr good r like.room ((sense e.0).place s) (coded fr e.0).place offset (e.1 h).place))
  kind_good (k.Addr e) = at_layer (k.Addr e.0) (λ h y. value_fit _ _ (address_does fr good r like.room ((sense e.0).place s) (coded fr e.0).place (e.1 h).place))
  kind_good (k.Convert e) = at_layer (k.Convert e.0) (λ h y. value_fit _ _ (convert_does fr good r like.room y _ _ (e.1 h).does))
  kind_good (k.Unary o e) = at_layer (k.Unary o e.0) (λ h y. value_fit _ _ (unary_does fr good r like.room o _ _ (e.1 h).does))
  kind_good (k.Binary o e f) = at_layer (k.Binary o e.0 f.0) (λ h y.
      let a = e.1 (both_left _ _ h) in
      let b = f.1 (both_right _ _ h) in
      subst (λ (z : CType). KindFit (mean.kind_step (k.Binary o (sense e.0) (sense f.0)) y) (code.as_value (λ t. (coded fr e.0).code t ++ ((coded fr f.0).code (t + 1) ++ Rattle.lower_code.specs.Pieces.operation o (is_signed z) t t (t + 1) ∷ [])))) a.same
      (value_fit _ _ (binary_does fr good r like.room o (is_signed (sense e.0).ctype) _ _ _ _ a.does b.does)))
  kind_good (k.PtrAdd e f size) = at_layer (k.PtrAdd e.0 f.0 size) (λ h y. value_fit _ _ (sum_does fr good r like.room size _ _ _ _ (e.1 (both_left _ _ h)).does (f.1 (both_right _ _ h)).does))
  kind_good (k.PtrDiff e f size) = at_layer (k.PtrDiff e.0 f.0 size) (λ h y. value_fit _ _ (difference_does fr good r like.room size _ _ _ _ (e.1 (both_left _ _ h)).does (f.1 (both_right _ _ h)).does))
  kind_good (k.And e f) = at_layer (k.And e.0 f.0) (λ h y. value_fit _ _ (and_does fr good r like.room _ _ _ _ (e.1 (both_left _ _ h)).does (f.1 (both_right _ _ h)).does))
  kind_good (k.Or e f) = at_layer (k.Or e.0 f.0) (λ h y. value_fit _ _ (or_does fr good r like.room _ _ _ _ (e.1 (both_left _ _ h)).does (f.1 (both_right _ _ h)).does))
  kind_good (k.Cond e f g) = at_layer (k.Cond e.0 f.0 g.0) (λ h y. value_fit _ _ (choose_does fr good r like.room _ _ _ _ _ _ (e.1 (both_left _ _ h)).does (f.1 (both_left _ _ (both_right _ _ h))).does (g.1 (both_right _ _ (both_right _ _ h))).does))
  kind_good (k.Assign e f) = at_layer (k.Assign e.0 f.0) (λ h y. value_fit _ _ (assigned_does fr good r like.room y ((sense e.0).place s) (coded fr e.0).place _ _ (e.1 (both_left _ _ h)).place (f.1 (both_right _ _ h)).does))
  kind_good (k.AssignOp o e f) = at_layer (k.AssignOp o e.0 f.0) (λ h y.
      let b = f.1 (both_right _ _ h) in
      subst (λ (z : CType). KindFit (mean.kind_step (k.AssignOp o (sense e.0) (sense f.0)) y) (code.as_value (code.assigned_op (record { op = o; place = y; operand = z }) (coded fr e.0).place (coded fr f.0).code))) b.same
      (value_fit _ _ (assigned_op_does fr good r like.room (record { op = o; place = y; operand = (sense f.0).ctype }) ((sense e.0).place s) (coded fr e.0).place _ _ (e.1 (both_left _ _ h)).place b.does)))
  kind_good (k.Step e by old) = at_layer (k.Step e.0 by old) (λ h y. value_fit _ _ (stepped_does fr good r like.room y by old ((sense e.0).place s) (coded fr e.0).place (e.1 h).place))
  kind_good (k.Comma e f) = at_layer (k.Comma e.0 f.0) (λ h y. value_fit _ _ (comma_does fr good r like.room _ _ _ _ (e.1 (both_left _ _ h)).does (f.1 (both_right _ _ h)).does))
  kind_good (k.Call n es) = at_layer (k.Call n (map (λ (e : GoodE). e.0) es)) (λ h y.
      value_fit _ _ (call_does fr good r like.room s n _ _ (all_fit es (both_right _ _ h)) (like.calls n _ (both_left _ _ h))))
  kind_good (k.NsCall p es) = at_layer (k.NsCall p.0 (map (λ (e : GoodE). e.0) es)) (λ h y.
      value_fit _ _ (ns_call_does fr good r like.room s y _ _ _ _ like.outside (p.1 (both_left _ _ (both_right _ _ h))).does (all_fit es (both_right _ _ (both_right _ _ h)))))
  kind_good (k.Range e f g) = at_layer (k.Range e.0 f.0 g.0) (λ h y. value_fit _ _ (range_does fr good r like.room _ _ _ _ _ _ (e.1 (both_left _ _ h)).does (f.1 (both_left _ _ (both_right _ _ h))).does (g.1 (both_right _ _ (both_right _ _ h))).does))
  kind_good (k.NsCreate e) = at_layer (k.NsCreate e.0) (λ h y. value_fit _ _ (create_does fr good r like.room _ _ (e.1 h).does))
  kind_good (k.NsTest e) = at_layer (k.NsTest e.0) (λ h y. value_fit _ _ (test_does fr good r like.room _ _ (e.1 h).does))
  kind_good k.NsCaller = at_layer k.NsCaller (λ h y. value_fit _ _ (caller_does fr good r like.room (truth s.from_ns) like.caller))

  expr_good : (x : Expr-F GoodK GoodE) → Good (roll-Expr (map-Expr GoodK GoodE ExprKind Expr (λ k. k.0) (λ e. e.0) x))
  expr_good x h =
      let z = map-Expr GoodK GoodE ExprKind Expr (λ k. k.0) (λ e. e.0) x in
      let f = x.kind.1 (sym (fold-roll-Expr Bool Bool (numbers.kind_step around) numbers.expr_step z) ∙ h) x.ctype in
      subst (λ (y : Sense). Fit y (coded fr (roll-Expr z))) (sym (fold-roll-Expr (CType → Meant) Sense mean.kind_step mean.expr_step z))
      (subst (λ (y : Operand). Fit (mean.expr_step (map-Expr ExprKind Expr (CType → Meant) Sense sense_of sense z)) y) (sym (fold-roll-Expr (CType → Coded) Operand (code.kind_step fr) code.expr_step z))
      (record { same = refl; does = f.does; place = f.place }))

  pub all_good : (e : Expr) → Good e
  all_good = ind-Expr KindGood Good (λ x y is. subst (λ z. KindGood (roll-ExprKind z)) is (kind_good y)) (λ x y is. subst (λ z. Good (roll-Expr z)) is (expr_good y))

  -- an expression's code does what the expression means
  pub value_does : (e : Expr) → expr_in_range around e ≡ true → D (mean.value e s) (code.code fr e)
  value_does e h = (all_good e h).does
