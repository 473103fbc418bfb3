-- Trees that are made of others, and trees as values.
use Rattle.std.proofs.Common.{◌≡◌, ℕ, Bool, true, false, ◌||◌, cond, length, ap, sym, ◌∙◌, subst, refl, Option, None, Some, Ok, rules}
use Rattle.cm_base.specs.declared.place.Place.{Place}
use Rattle.c_types.specs.declared.arith.Arith.{Arith}
use Rattle.c_types.specs.declared.arith.Arith.TheVariants as arith
use Rattle.c_types.specs.declared.ctype.CType.{CType}
use Rattle.c_types.specs.declared.ctype.Shape.TheOpen as shape
use Rattle.c_types.specs.declared.ctype.Shape.TheVariants as made
use Rattle.c_types.specs.Derived.{arith_type, plain, pointer_to, unqualified}
use Rattle.c_types.specs.Kind.{Look, element, element_of, is_function, is_struct, look, looks_function, looks_struct, referenced_by}
use Rattle.c_types.specs.Same.{same_unqualified}
use Rattle.c_tree.specs.declared.expr.Expr.{Expr}
use Rattle.c_tree.specs.declared.expr.ExprKind.{ExprKind, out-ExprKind, roll-ExprKind}
use Rattle.c_tree.specs.declared.expr.ExprKind.TheVariants as kind
use Rattle.c_tree.specs.declared.expr.ExprKind.TheVariants.{rolls-Addr, rolls-Const, rolls-Convert}
use Rattle.c_tree.specs.declared.expr.ExprKind.TheOpen.{ExprKind-F, Const, Global, Addr, Convert}
use Rattle.c_tree.specs.declared.expr.ExprKind.TheFolds.{map-ExprKind, fold-ExprKind, fold-roll-ExprKind, fold-roll-Expr, the_lemmas}
use Rattle.c_tree.specs.Numbers.{expr_in_range, expr_step, kind_step}
use Rattle.c_tree.specs.Numbers.{Around as Ranged}
use Rattle.c_rows.specs.Nodes.{int_type, node, void_pointer}
use Rattle.c_rows.specs.Values.{converted_to, first_element, fitted, in_kind, valued, valued_as}
use Rattle.range_laws.specs.Few.{few, few_or}
use Rattle.range_laws.specs.Fits.{IsMade, IsTree, IsValue, kind_fits, names_fit}
use Rattle.range_laws.specs.Ranges.{IsWithin}
use Rattle.range_laws.specs.Steps.{Answers}
use Rattle.range_laws.proofs.Both.{no}
use Rattle.range_laws.proofs.FewLaws.{few_arith, few_element, few_pointer, few_void}
use Rattle.range_laws.proofs.Moves.{answers_more, answers_unless, told}
use Rattle.range_laws.proofs.Wider.{expr_wider}

or_false_left : (x y : Bool) → (x || y) ≡ false → x ≡ false
or_false_left true y h = h
or_false_left false y h = refl

pub array_no_function : (x : Look) (of : CType) → element_of x ≡ Some of → looks_function x ≡ false
array_no_function (shape.Function g p n) of h = cc
array_no_function _ of h = refl

pub pointer_no_function : (x : Look) (to : CType) → referenced_by x ≡ Some to → looks_function x ≡ false
pointer_no_function (shape.Function g p n) to h = cc
pointer_no_function _ to h = refl

pub struct_no_function : (x : Look) → looks_struct x ≡ true → looks_function x ≡ false
struct_no_function (shape.Function g p n) h = no h
struct_no_function _ h = refl

pub few_int : few int_type ≡ true
few_int = few_arith arith.Int

pub few_void_pointer : few void_pointer ≡ true
few_void_pointer = few_pointer (plain made.Void) ∙ few_void

module _ (a : Ranged) where
  abbrev pub Layer : Type 0
  Layer = ExprKind-F ExprKind Expr

  abbrev pub kind_in : ExprKind → Bool
  kind_in = fold-ExprKind Bool Bool (kind_step a) expr_step

  abbrev pub layer_in : Layer → Bool
  layer_in x = kind_step a (map-ExprKind ExprKind Expr Bool Bool kind_in (expr_in_range a) x)

  out_roll : (x : Layer) → out-ExprKind (roll-ExprKind x) ≡ x
  out_roll x = search (rules, the_lemmas)

  pub out_is : (x : Layer) (k : ExprKind) → roll-ExprKind x ≡ k → out-ExprKind k ≡ x
  out_is x k is = ap out-ExprKind (sym is) ∙ out_roll x

  pub made_of : (x : Layer) (k : ExprKind) (t : CType) (p : Place) → roll-ExprKind x ≡ k → ((e : Expr) → kind_fits a e x ≡ expr_in_range a e) → layer_in x ≡ true → few t ≡ true → IsMade a (node k t p)
  made_of x k t p is same h typed = record {
    value = record { numbers = inside; typed = typed };
    tree = record { numbers = ap (kind_fits a (node k t p)) (out_is x k is) ∙ (same (node k t p) ∙ inside); typed = typed };
  }
    where
      inside : expr_in_range a (node k t p) ≡ true
      inside = fold-roll-Expr Bool Bool (kind_step a) expr_step (record { kind = k; ctype = t; place = p }) ∙ (ap kind_in (sym is) ∙ (fold-roll-ExprKind Bool Bool (kind_step a) expr_step x ∙ h))

  -- ---- values

  whole_is : (e : Expr) → expr_in_range a e ≡ layer_in (out-ExprKind e.kind)
  whole_is e = search (rules, the_lemmas)

  global : (n : ℕ) (x : Look) → names_fit a n x ≡ true → looks_function x ≡ false → a.names.is_global n ≡ true
  global n (shape.Function g p s) h k = no (sym k)
  global n shape.Void h k = h
  global n (shape.Arith b) h k = h
  global n (shape.Pointer to) h k = h
  global n (shape.Array of len) h k = h
  global n (shape.Struct m name size align) h k = h

  in_range_by : (e : Expr) (x : Layer) → expr_in_range a e ≡ layer_in x → kind_fits a e x ≡ true → is_function e.ctype ≡ false → expr_in_range a e ≡ true
  in_range_by e (Global n) is h k = is ∙ global n (look e.ctype) h k
  in_range_by e _ is h k = h

  -- a tree whose type isn't that of a function is a value
  pub value_of : (e : Expr) → IsTree a e → is_function e.ctype ≡ false → IsValue a e
  value_of e h k = record { numbers = in_range_by e (out-ExprKind e.kind) (whole_is e) h.numbers k; typed = h.typed }

  valued_by : (e : Expr) (first : Place) (o : Option CType) → element e.ctype ≡ o → IsTree a e → Answers (IsMade a) (valued_as e first o)
  valued_by e first (Some of) is h =
      let v = value_of e h (array_no_function (look e.ctype) of is) in
      told (first_element e of) (made_of (Addr e) (kind.Addr e) (pointer_to of) e.place (rolls-Addr e) (λ x. refl) v.numbers (few_pointer of ∙ subst (λ o. few_or o ≡ true) is (few_element e.ctype h.typed)))
  valued_by e first None is h = answers_unless (is_function e.ctype || is_struct e.ctype) 29 first (Ok e) (λ k. told e (record { value = value_of e h (or_false_left (is_function e.ctype) (is_struct e.ctype) k); tree = h }))

  pub valued_made : (e : Expr) (first : Place) → IsTree a e → Answers (IsMade a) (valued e first)
  valued_made e first h = valued_by e first (element e.ctype) refl h

  pub valued_law : (e : Expr) (first : Place) → IsTree a e → Answers (IsValue a) (valued e first)
  valued_law e first h = answers_more (valued e first) (valued_made e first h) (λ x m. m.value)

  value_cond : (b : Bool) (x y : Expr) → IsValue a x → IsValue a y → IsValue a (cond b x y)
  value_cond true x y h k = h
  value_cond false x y h k = k

  pub converted_law : (to : CType) (v : Expr) → few to ≡ true → IsValue a v → IsValue a (converted_to to v)
  converted_law to v f h = value_cond (same_unqualified v.ctype to) v (node (kind.Convert v) (unqualified to) v.place) h (made_of (Convert v) (kind.Convert v) (unqualified to) v.place (rolls-Convert v) (λ x. refl) h.numbers f).value

  pub in_kind_law : (k : Arith) (v : Expr) → IsValue a v → IsValue a (in_kind k v)
  in_kind_law k v h = converted_law (arith_type k) v (few_arith k) h

  pub fitted_law : (to : CType) (v : Expr) (place : Place) → few to ≡ true → IsValue a v → Answers (IsValue a) (fitted to v place)
  fitted_law to v place f h = answers_unless _ 22 place _ (λ k. told (converted_to to v) (converted_law to v f h))

  -- the numbers alone, whatever the types are
  number_cond : (b : Bool) (x y : Expr) → expr_in_range a x ≡ true → expr_in_range a y ≡ true → expr_in_range a (cond b x y) ≡ true
  number_cond true x y h k = h
  number_cond false x y h k = k

  convert_in : (v : Expr) (t : CType) (place : Place) → expr_in_range a v ≡ true → expr_in_range a (node (kind.Convert v) t place) ≡ true
  convert_in v t place h = fold-roll-Expr Bool Bool (kind_step a) expr_step (record { kind = kind.Convert v; ctype = t; place = place }) ∙ (ap kind_in (sym (rolls-Convert v)) ∙ (fold-roll-ExprKind Bool Bool (kind_step a) expr_step (Convert v) ∙ h))

  pub fitted_numbers : (to : CType) (v : Expr) (place : Place) → expr_in_range a v ≡ true → Answers (λ w. expr_in_range a w ≡ true) (fitted to v place)
  fitted_numbers to v place h = answers_unless _ 22 place _ (λ k. told (converted_to to v) (number_cond (same_unqualified v.ctype to) v (node (kind.Convert v) (unqualified to) v.place) h (convert_in v (unqualified to) v.place h)))

  pub const_in : (n : ℕ) (t : CType) (place : Place) → expr_in_range a (node (kind.Const n) t place) ≡ true
  const_in n t place = fold-roll-Expr Bool Bool (kind_step a) expr_step (record { kind = kind.Const n; ctype = t; place = place }) ∙ (ap kind_in (sym (rolls-Const n)) ∙ fold-roll-ExprKind Bool Bool (kind_step a) expr_step (Const n))

  pub const_made : (n : ℕ) (t : CType) (place : Place) → few t ≡ true → IsMade a (node (kind.Const n) t place)
  const_made n t place f = made_of (Const n) (kind.Const n) t place (rolls-Const n) (λ x. refl) refl f

-- ---- with more numbers

pub value_wider : (a b : Ranged) → IsWithin a b → (e : Expr) → IsValue a e → IsValue b e
value_wider a b w e h = record { numbers = expr_wider a b w e h.numbers; typed = h.typed }

names_wider : (a b : Ranged) → IsWithin a b → (n : ℕ) (x : Look) → names_fit a n x ≡ true → names_fit b n x ≡ true
names_wider a b w n (shape.Function g p s) h = w.names.functions n (length p) h
names_wider a b w n shape.Void h = w.names.globals n h
names_wider a b w n (shape.Arith k) h = w.names.globals n h
names_wider a b w n (shape.Pointer to) h = w.names.globals n h
names_wider a b w n (shape.Array of len) h = w.names.globals n h
names_wider a b w n (shape.Struct m name size align) h = w.names.globals n h

kind_wider : (a b : Ranged) → IsWithin a b → (e : Expr) (x : ExprKind-F ExprKind Expr) → kind_fits a e x ≡ true → kind_fits b e x ≡ true
kind_wider a b w e (Global n) h = names_wider a b w n (look e.ctype) h
kind_wider a b w e _ h = expr_wider a b w e h

pub tree_wider : (a b : Ranged) → IsWithin a b → (e : Expr) → IsTree a e → IsTree b e
tree_wider a b w e h = record { numbers = kind_wider a b w e (out-ExprKind e.kind) h.numbers; typed = h.typed }

pub made_wider : (a b : Ranged) → IsWithin a b → (e : Expr) → IsMade a e → IsMade b e
made_wider a b w e h = record { value = value_wider a b w e h.value; tree = tree_wider a b w e h.tree }
