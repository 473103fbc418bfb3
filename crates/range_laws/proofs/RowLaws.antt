-- Operators on operands whose numbers are in range.
use Rattle.std.proofs.Common.{◌≡◌, ℕ, Bool, true, false, ◌&&◌, not, cond, sym, ◌∙◌, refl, Option, None, Some}
use Rattle.cm_base.specs.declared.place.Place.{Place}
use Rattle.ns_types.specs.Operators.{negate}
use Rattle.c_types.specs.Arithmetic.{promoted}
use Rattle.c_types.specs.declared.arith.Arith.{Arith}
use Rattle.c_types.specs.declared.arith.Arith.TheVariants as arith
use Rattle.c_types.specs.declared.ctype.CType.{CType}
use Rattle.c_types.specs.Derived.{arith_type, unqualified}
use Rattle.c_types.specs.Kind.{arithmetic, is_arithmetic, is_array, is_function, is_struct, look, referenced}
use Rattle.c_tree.specs.declared.expr.BinOp.{BinOp}
use Rattle.c_tree.specs.declared.expr.BinOp.TheVariants as bin
use Rattle.c_tree.specs.declared.expr.UnOp.{UnOp}
use Rattle.c_tree.specs.declared.expr.UnOp.TheVariants as un
use Rattle.c_tree.specs.declared.expr.Expr.{Expr}
use Rattle.c_tree.specs.declared.expr.ExprKind.TheVariants as kind
use Rattle.c_tree.specs.declared.expr.ExprKind.TheVariants.{rolls-Addr, rolls-And, rolls-Assign, rolls-AssignOp, rolls-Binary, rolls-Comma, rolls-Cond, rolls-Convert, rolls-Deref, rolls-Member, rolls-Or, rolls-PtrAdd, rolls-PtrDiff, rolls-Step, rolls-Unary}
use Rattle.c_tree.specs.declared.expr.ExprKind.TheOpen.{Addr, And, Assign, AssignOp, Binary, Comma, Cond, Convert, Deref, Member, Or, PtrAdd, PtrDiff, Step, Unary}
use Rattle.c_tree.specs.Numbers.{Around as Ranged}
use Rattle.c_rows.specs.Nodes.{int_type, node}
use Rattle.c_rows.specs.Values.{converted_to, fitted, in_kind}
use Rattle.c_rows.specs.Arithmetic.{arith_pair, binary, binary_as, common_of, joined, negated, shifted, shifted_as, unary, unary_as}
use Rattle.c_rows.specs.Pointers.{added, apart_as, dereferenced, dereferenced_as, element, moved, moved_as, moved_back_as, step_of, subtracted}
use Rattle.c_rows.specs.Compare.{compared, equated, equated_as, first_converted, null_beside, one_pointer_type, ordered, ordered_as, pointers_equated, second_converted, void_beside}
use Rattle.c_rows.specs.Logic.{arms_chosen, both_or_either, chosen, chosen_as, in_order, is_first_type}
use Rattle.c_rows.specs.Access.{address, cast, is_place, member, size_of, sized_as}
use Rattle.c_rows.specs.Assign.{assigned, assigned_by, both_structs, changed, changed_as, is_writable, right_kind, right_operand, signed_unit, stepped, stepped_as, stored, unit_of, written}
use Rattle.range_laws.specs.Few.{few, few_or}
use Rattle.range_laws.specs.Fits.{IsMade, IsTree, IsValue}
use Rattle.range_laws.specs.Steps.{Answers}
use Rattle.range_laws.proofs.Both.{both, no, right}
use Rattle.range_laws.proofs.FewLaws.{few_arith, few_pointer, few_qualified, few_referenced}
use Rattle.range_laws.proofs.Moves.{answers_cond, answers_then, answers_unless, silent, told}
use Rattle.range_laws.proofs.TreeLaws.{const_made, converted_law, few_int, fitted_law, in_kind_law, made_of, struct_no_function, value_of, valued_law}

not_false : (b : Bool) → not b ≡ false → b ≡ true
not_false true h = refl
not_false false h = no (sym h)

not_true : (b : Bool) → not b ≡ true → b ≡ false
not_true true h = no h
not_true false h = refl

module _ (a : Ranged) where
  -- ---- arithmetic

  pub joined_law : (op : BinOp) (place : Place) (x y : Expr) (k gives : Arith) → IsValue a x → IsValue a y → IsMade a (joined op place x y k gives)
  joined_law op place x y k gives h g = made_of a (Binary op (in_kind k x) (in_kind k y)) (kind.Binary op (in_kind k x) (in_kind k y)) (arith_type gives) place (rolls-Binary op (in_kind k x) (in_kind k y)) (λ e. refl)
      (both (in_kind_law a k x h).numbers (in_kind_law a k y g).numbers) (few_arith gives)

  binary_by : (op : BinOp) (place : Place) (x y : Expr) (o : Option Arith) → IsValue a x → IsValue a y → Answers (IsMade a) (binary_as op place x y o)
  binary_by op place x y (Some k) h g = told _ (joined_law op place x y k k h g)
  binary_by op place x y None h g = silent

  pub binary_law : (op : BinOp) (place : Place) (x y : Expr) → IsValue a x → IsValue a y → Answers (IsMade a) (binary op place x y)
  binary_law op place x y h g = binary_by op place x y (common_of x y) h g

  shifted_by : (op : BinOp) (place : Place) (x y : Expr) (o : Option (Arith × Arith)) → IsValue a x → IsValue a y → Answers (IsMade a) (shifted_as op place x y o)
  shifted_by op place x y (Some p) h g =
      told _ (made_of a (Binary op (in_kind (promoted p.0) x) (in_kind (promoted p.1) y)) _ _ place (rolls-Binary op (in_kind (promoted p.0) x) (in_kind (promoted p.1) y)) (λ e. refl)
      (both (in_kind_law a (promoted p.0) x h).numbers (in_kind_law a (promoted p.1) y g).numbers) (few_arith (promoted p.0)))
  shifted_by op place x y None h g = silent

  pub shifted_law : (op : BinOp) (place : Place) (x y : Expr) → IsValue a x → IsValue a y → Answers (IsMade a) (shifted op place x y)
  shifted_law op place x y h g = shifted_by op place x y (arith_pair x y) h g

  unary_by : (op : UnOp) (place : Place) (e : Expr) (o : Option Arith) → IsValue a e → Answers (IsMade a) (unary_as op place e o)
  unary_by op place e (Some k) h = told _ (made_of a (Unary op (in_kind (promoted k) e)) _ _ place (rolls-Unary op (in_kind (promoted k) e)) (λ x. refl) (in_kind_law a (promoted k) e h).numbers (few_arith (promoted k)))
  unary_by op place e None h = silent

  pub unary_law : (op : UnOp) (place : Place) (e : Expr) → IsValue a e → Answers (IsMade a) (unary op place e)
  unary_law op place e h = unary_by op place e (arithmetic e.ctype) h

  pub negated_law : (place : Place) (e : Expr) → IsValue a e → Answers (IsMade a) (negated place e)
  negated_law place e h = answers_unless _ 22 place _ (λ k. told _ (made_of a (Unary un.Not e) _ _ place (rolls-Unary un.Not e) (λ x. refl) h.numbers few_int))

  -- ---- pointers

  moved_law : (place : Place) (p i : Expr) (size : ℕ) → IsValue a p → IsValue a i → IsMade a (moved place p i size)
  moved_law place p i size h g = made_of a (PtrAdd p i size) _ _ place (rolls-PtrAdd p i size) (λ x. refl) (both h.numbers g.numbers) h.typed

  moved_by : (place : Place) (p i : Expr) (o : Option ℕ) → IsValue a p → IsValue a i → Answers (IsMade a) (moved_as place p i o)
  moved_by place p i (Some size) h g = answers_unless _ 22 place _ (λ k. told _ (moved_law place p i size h g))
  moved_by place p i None h g = silent

  pub added_law : (place : Place) (x y : Expr) → IsValue a x → IsValue a y → Answers (IsMade a) (added place x y)
  added_law place x y h g =
      answers_cond (is_arithmetic x.ctype) _ _
      (λ k. answers_cond (is_arithmetic y.ctype) _ _ (λ l. binary_law bin.Add place x y h g) (λ l. moved_by place y x (step_of y.ctype) g h))
      (λ k. moved_by place x y (step_of x.ctype) h g)

  moved_back_by : (place : Place) (p i : Expr) (o : Option ℕ) → IsValue a p → IsValue a i → Answers (IsMade a) (moved_back_as place p i o)
  moved_back_by place p i (Some size) h g = told _ (moved_law place p i (negate size) h g)
  moved_back_by place p i None h g = silent

  apart_by : (place : Place) (p q : Expr) (o : Option ℕ) → IsValue a p → IsValue a q → Answers (IsMade a) (apart_as place p q o)
  apart_by place p q (Some size) h g = answers_unless _ 22 place _ (λ k. told _ (made_of a (PtrDiff p q size) _ _ place (rolls-PtrDiff p q size) (λ x. refl) (both h.numbers g.numbers) few_int))
  apart_by place p q None h g = silent

  pub subtracted_law : (place : Place) (x y : Expr) → IsValue a x → IsValue a y → Answers (IsMade a) (subtracted place x y)
  subtracted_law place x y h g =
      answers_cond (is_arithmetic x.ctype) _ _ (λ k. binary_law bin.Sub place x y h g)
      (λ k. answers_cond (is_arithmetic y.ctype) _ _ (λ l. moved_back_by place x y (step_of x.ctype) h g) (λ l. apart_by place x y (step_of x.ctype) h g))

  dereferenced_by : (place : Place) (p : Expr) (o : Option CType) → few_or o ≡ true → IsValue a p → Answers (IsMade a) (dereferenced_as place p o)
  dereferenced_by place p (Some to) f h =
      answers_unless (is_function to) 22 place _ (λ k. answers_unless _ 25 place _ (λ l. told _ (made_of a (Deref p) (kind.Deref p) to place (rolls-Deref p) (λ x. refl) h.numbers f)))
  dereferenced_by place p None f h = silent

  pub dereferenced_law : (place : Place) (p : Expr) → IsValue a p → Answers (IsMade a) (dereferenced place p)
  dereferenced_law place p h = dereferenced_by place p (referenced p.ctype) (few_referenced p.ctype h.typed) h

  pub element_law : (place : Place) (x i : Expr) → IsValue a x → IsValue a i → Answers (IsMade a) (element place x i)
  element_law place x i h g = answers_then (added place x i) (dereferenced place) (added_law place x i h g) (λ e m. dereferenced_law place e m.value)

  -- ---- comparison

  compared_law : (op : BinOp) (place : Place) (x y : Expr) → IsValue a x → IsValue a y → IsMade a (compared op place x y)
  compared_law op place x y h g = made_of a (Binary op x y) _ _ place (rolls-Binary op x y) (λ e. refl) (both h.numbers g.numbers) few_int

  second_law : (op : BinOp) (place : Place) (x y : Expr) → IsValue a x → IsValue a y → IsMade a (second_converted op place x y)
  second_law op place x y h g = compared_law op place x (converted_to x.ctype y) h (converted_law a x.ctype y h.typed g)

  first_law : (op : BinOp) (place : Place) (x y : Expr) → IsValue a x → IsValue a y → IsMade a (first_converted op place x y)
  first_law op place x y h g = compared_law op place (converted_to y.ctype x) y (converted_law a y.ctype x g.typed h) g

  ordered_by : (op : BinOp) (place : Place) (x y : Expr) (o : Option Arith) → IsValue a x → IsValue a y → Answers (IsMade a) (ordered_as op place x y o)
  ordered_by op place x y (Some k) h g = told _ (joined_law op place x y k arith.Int h g)
  ordered_by op place x y None h g = answers_cond (one_pointer_type x y) _ _ (λ k. told _ (compared_law op place x y h g)) (λ k. silent)

  pub ordered_law : (op : BinOp) (place : Place) (x y : Expr) → IsValue a x → IsValue a y → Answers (IsMade a) (ordered op place x y)
  ordered_law op place x y h g = ordered_by op place x y (common_of x y) h g

  pointers_law : (op : BinOp) (place : Place) (x y : Expr) → IsValue a x → IsValue a y → Answers (IsMade a) (pointers_equated op place x y)
  pointers_law op place x y h g =
      answers_cond (one_pointer_type x y) _ _ (λ k. told _ (compared_law op place x y h g))
      (λ k. answers_cond (null_beside x y) _ _ (λ l. told _ (second_law op place x y h g))
      (λ l. answers_cond (null_beside y x) _ _ (λ m. told _ (first_law op place x y h g))
      (λ m. answers_cond (void_beside x y) _ _ (λ n. told _ (first_law op place x y h g))
      (λ n. answers_cond (void_beside y x) _ _ (λ o. told _ (second_law op place x y h g)) (λ o. silent)))))

  equated_by : (op : BinOp) (place : Place) (x y : Expr) (o : Option Arith) → IsValue a x → IsValue a y → Answers (IsMade a) (equated_as op place x y o)
  equated_by op place x y (Some k) h g = told _ (joined_law op place x y k arith.Int h g)
  equated_by op place x y None h g = pointers_law op place x y h g

  pub equated_law : (op : BinOp) (place : Place) (x y : Expr) → IsValue a x → IsValue a y → Answers (IsMade a) (equated op place x y)
  equated_law op place x y h g = equated_by op place x y (common_of x y) h g

  -- ---- logic

  either_made : (is_and : Bool) (place : Place) (x y : Expr) → IsValue a x → IsValue a y → IsMade a (node (cond is_and (kind.And x y) (kind.Or x y)) int_type place)
  either_made true place x y h g = made_of a (And x y) _ _ place (rolls-And x y) (λ e. refl) (both h.numbers g.numbers) few_int
  either_made false place x y h g = made_of a (Or x y) _ _ place (rolls-Or x y) (λ e. refl) (both h.numbers g.numbers) few_int

  pub either_law : (is_and : Bool) (place : Place) (x y : Expr) → IsValue a x → IsValue a y → Answers (IsMade a) (both_or_either is_and place x y)
  either_law is_and place x y h g = answers_unless _ 22 place _ (λ k. told _ (either_made is_and place x y h g))

  cond_made : (place : Place) (t : CType) (c x y : Expr) → IsValue a c → IsValue a x → IsValue a y → few t ≡ true → IsMade a (node (kind.Cond c x y) t place)
  cond_made place t c x y f h g typed = made_of a (Cond c x y) _ t place (rolls-Cond c x y) (λ e. refl) (both f.numbers (both h.numbers g.numbers)) typed

  arms_law : (place : Place) (c x y : Expr) → IsValue a c → IsValue a x → IsValue a y → Answers (IsMade a) (arms_chosen place c x y)
  arms_law place c x y f h g =
      answers_cond (is_first_type x y) _ _ (λ k. told _ (cond_made place (unqualified x.ctype) c x (converted_to (unqualified x.ctype) y) f h (converted_law a (unqualified x.ctype) y h.typed g) h.typed))
      (λ k. answers_cond (null_beside y x) _ _ (λ l. told _ (cond_made place (unqualified y.ctype) c (converted_to (unqualified y.ctype) x) y f (converted_law a (unqualified y.ctype) x g.typed h) g g.typed)) (λ l. silent))

  chosen_by : (place : Place) (c x y : Expr) (o : Option Arith) → IsValue a c → IsValue a x → IsValue a y → Answers (IsMade a) (chosen_as place c x y o)
  chosen_by place c x y (Some k) f h g = told _ (cond_made place (arith_type k) c (in_kind k x) (in_kind k y) f (in_kind_law a k x h) (in_kind_law a k y g) (few_arith k))
  chosen_by place c x y None f h g = arms_law place c x y f h g

  pub chosen_law : (place : Place) (c x y : Expr) → IsValue a c → IsValue a x → IsValue a y → Answers (IsMade a) (chosen place c x y)
  chosen_law place c x y f h g = answers_unless _ 22 place _ (λ k. chosen_by place c x y (common_of x y) f h g)

  pub in_order_law : (place : Place) (x y : Expr) → IsValue a x → IsValue a y → IsMade a (in_order place x y)
  in_order_law place x y h g = made_of a (Comma x y) _ _ place (rolls-Comma x y) (λ e. refl) (both h.numbers g.numbers) g.typed

  -- ---- places

  pub address_law : (place : Place) (e : Expr) → IsTree a e → Answers (IsMade a) (address place e)
  address_law place e h =
      answers_unless (is_function e.ctype) 29 place _ (λ k. answers_unless _ 23 place _ (λ l.
      told _ (made_of a (Addr e) _ _ place (rolls-Addr e) (λ x. refl) (value_of a e h k).numbers (few_pointer e.ctype ∙ h.typed))))

  pub member_law : (place : Place) (e : Expr) (t : CType) (offset : ℕ) → IsValue a e → few t ≡ true → IsMade a (member place e t offset)
  member_law place e t offset h f = made_of a (Member e offset) _ _ place (rolls-Member e offset) (λ x. refl) h.numbers (few_qualified e.ctype.is_const e.ctype.is_volatile t f)

  sized_by : (place : Place) (o : Option ℕ) → Answers (IsMade a) (sized_as place o)
  sized_by place (Some n) = told _ (const_made a n (arith_type arith.Unsigned) place (few_arith arith.Unsigned))
  sized_by place None = silent

  pub size_law : (place : Place) (t : CType) → Answers (IsMade a) (size_of place t)
  size_law place t = sized_by place _

  pub cast_law : (place : Place) (t : CType) (e : Expr) → few t ≡ true → IsValue a e → Answers (IsMade a) (cast place t e)
  cast_law place t e f h = answers_unless _ 22 place _ (λ k. told _ (made_of a (Convert e) _ _ place (rolls-Convert e) (λ x. refl) h.numbers f))

  -- ---- assignment

  writable : (e : Expr) → IsTree a e → not (is_writable e) ≡ false → IsValue a e
  writable e h k =
      let all = not_false (is_writable e) k in
      let rest = right (is_place e) (not e.ctype.is_const && (not (is_array e.ctype) && not (is_function e.ctype))) all in
      let more = right (not e.ctype.is_const) (not (is_array e.ctype) && not (is_function e.ctype)) rest in
      value_of a e h (not_true (is_function e.ctype) (right (not (is_array e.ctype)) (not (is_function e.ctype)) more))

  right_law : (to e : Expr) (first : Place) → IsTree a e → Answers (IsValue a) (right_operand to e first)
  right_law to e first h = answers_cond (both_structs to e) _ _ (λ k. told e (value_of a e h (struct_no_function (look e.ctype) (right (is_struct to.ctype) (is_struct e.ctype) k)))) (λ k. valued_law a e first h)

  stored_law : (place : Place) (to v : Expr) → IsValue a to → IsValue a v → IsMade a (stored place to v)
  stored_law place to v h g = made_of a (Assign to v) _ _ place (rolls-Assign to v) (λ e. refl) (both h.numbers g.numbers) h.typed

  written_law : (place : Place) (to v : Expr) → IsTree a to → IsValue a v → Answers (IsMade a) (written place to v)
  written_law place to v h g = answers_unless (not (is_writable to)) 23 place _ (λ k. answers_unless (both_structs to v) 29 place _ (λ l.
      answers_then (fitted to.ctype v place) _ (fitted_law a to.ctype v place h.typed g) (λ w m. told _ (stored_law place to w (writable to h k) m))))

  pub assigned_law : (place : Place) (to e : Expr) (first : Place) → IsTree a to → IsTree a e → Answers (IsMade a) (assigned place to e first)
  assigned_law place to e first h g = answers_then (right_operand to e first) (written place to) (right_law to e first g) (λ v m. written_law place to v h m)

  changed_law : (op : BinOp) (place : Place) (to v : Expr) → IsValue a to → IsValue a v → IsMade a (changed op place to v)
  changed_law op place to v h g = made_of a (AssignOp op to v) _ _ place (rolls-AssignOp op to v) (λ e. refl) (both h.numbers g.numbers) h.typed

  changed_by : (op : BinOp) (place : Place) (to v : Expr) (o : Option (Arith × Arith)) → IsValue a to → IsValue a v → Answers (IsMade a) (changed_as op place to v o)
  changed_by op place to v (Some p) h g = told _ (changed_law op place to (in_kind (right_kind op p.0 p.1) v) h (in_kind_law a (right_kind op p.0 p.1) v g))
  changed_by op place to v None h g = answers_unless _ 22 place _ (λ k. told _ (changed_law op place to v h g))

  pub assigned_by_law : (op : BinOp) (place : Place) (to v : Expr) → IsTree a to → IsValue a v → Answers (IsMade a) (assigned_by op place to v)
  assigned_by_law op place to v h g = answers_unless (not (is_writable to)) 23 place _ (λ k. changed_by op place to v (arith_pair to v) (writable to h k) g)

  stepped_by : (place : Place) (e : Expr) (is_up old : Bool) (o : Option ℕ) → IsValue a e → Answers (IsMade a) (stepped_as place e is_up old o)
  stepped_by place e is_up old (Some n) h = told _ (made_of a (Step e (signed_unit is_up n) old) _ _ place (rolls-Step e (signed_unit is_up n) old) (λ x. refl) h.numbers h.typed)
  stepped_by place e is_up old None h = silent

  pub stepped_law : (place : Place) (e : Expr) (is_up old : Bool) → IsTree a e → Answers (IsMade a) (stepped place e is_up old)
  stepped_law place e is_up old h = answers_unless (not (is_writable e)) 23 place _ (λ k. stepped_by place e is_up old (unit_of e.ctype) (writable e h k))
