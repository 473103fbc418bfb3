-- Calls: as many arguments as the function has parameters, and at most four to Non-secure functions.
use Rattle.std.proofs.Common.{◌≡◌, ℕ, suc, ◌+◌, Bool, true, false, ◌&&◌, ◌||◌, not, cond, eqb, nat_le, List, [], ◌∷◌, ◌++◌, map, length, ap, sym, ◌∙◌, subst, refl, arith, Option, None, Some, Ok, Err, eqb-true, eq-eqb}
use Rattle.std.specs.List.{list_all}
use Rattle.std.proofs.lemmas.List.{length-map, length_push}
use Rattle.cm_base.specs.declared.place.Place.{Place}
use Rattle.c_types.specs.declared.arith.Arith.TheVariants as arith
use Rattle.c_types.specs.declared.ctype.CType.{CType}
use Rattle.c_types.specs.declared.ctype.Shape.TheOpen as shape
use Rattle.c_types.specs.Derived.{arith_type, unqualified}
use Rattle.c_types.specs.Kind.{Look, is_nonsecure_function, look, looks_nonsecure, referenced}
use Rattle.c_tree.specs.declared.expr.Expr.{Expr}
use Rattle.c_tree.specs.declared.expr.ExprKind.{ExprKind, out-ExprKind}
use Rattle.c_tree.specs.declared.expr.ExprKind.TheVariants.{rolls-Call, rolls-NsCall, rolls-NsCaller, rolls-NsCreate, rolls-NsTest, rolls-Range}
use Rattle.c_tree.specs.declared.expr.ExprKind.TheOpen.{ExprKind-F, Call, Global, NsCall, NsCaller, NsCreate, NsTest, Range}
use Rattle.c_tree.specs.Numbers.{all_true, expr_in_range, looks_called}
use Rattle.c_tree.specs.Numbers.{Around as Ranged}
use Rattle.c_rows.specs.declared.calls.Arg.{Arg}
use Rattle.c_rows.specs.declared.intrinsics.Intrinsic.{Intrinsic}
use Rattle.c_rows.specs.declared.intrinsics.Intrinsic.TheVariants.{CheckRange, CheckObject, CreatePointer, IsPointer, Caller}
use Rattle.c_rows.specs.Answers.{Checked}
use Rattle.c_rows.specs.Nodes.{int_type, size_node, void_pointer}
use Rattle.c_rows.specs.Values.{fitted}
use Rattle.c_rows.specs.Pointers.{step_of}
use Rattle.c_rows.specs.Calls.{arguments, arguments_as, called, called_as, fitted_args, fitted_from, is_secure_function, nonsecure_as, nonsecure_call, nonsecure_target, pointer_as, points_to_nonsecure, result_as, result_of, secure_as, secure_call, secure_number}
use Rattle.c_rows.specs.Intrinsics.{as_type, caller_of, created_of, intrinsic_called, object_as, object_of, range, range_of, tested_of}
use Rattle.range_laws.specs.Few.{all_few, few, few_or}
use Rattle.range_laws.specs.Fits.{AreArgs, IsArg, IsMade, IsTree, IsValue, kind_fits, names_fit}
use Rattle.range_laws.specs.Steps.{Answers}
use Rattle.range_laws.proofs.Both.{all_push, both, left, no, right}
use Rattle.range_laws.proofs.FewLaws.{few_arith, few_at, few_referenced, few_void, look_few}
use Rattle.range_laws.proofs.Moves.{answers_then, answers_unless, silent, told}
use Rattle.range_laws.proofs.TreeLaws.{const_made, few_int, few_void_pointer, fitted_law, made_of, pointer_no_function, value_of}

not_false : (b : Bool) → not b ≡ false → b ≡ true
not_false true h = refl
not_false false h = no (sym h)

or_right : (x y : Bool) → x ≡ true → (not x || y) ≡ true → y ≡ true
or_right true y h k = k
or_right false y h k = no h

gives_few : (x : Look) → look_few x ≡ true → few (result_as x) ≡ true
gives_few (shape.Function g p n) h = left (few g) _ h
gives_few shape.Void h = few_void
gives_few (shape.Arith b) h = few_void
gives_few (shape.Pointer to) h = few_void
gives_few (shape.Array of len) h = few_void
gives_few (shape.Struct m name size align) h = few_void

result_few : (t : CType) → few t ≡ true → few (result_of t) ≡ true
result_few t h = gives_few (look t) (few_at t h)

module _ (a : Ranged) where
  abbrev all_in : List Expr → Bool
  all_in es = list_all (expr_in_range a) es

  -- ---- arguments

  pub record AreFitted (many : ℕ) (vs : List Expr) : Type 0 where
    pub numbers : all_in vs ≡ true
    pub long : length vs ≡ many

  one_more : (done : List Expr) (v : Expr) (n : ℕ) → length (done ++ v ∷ []) + n ≡ length done + suc n
  one_more done v n = let l = length_push done v in omega (arith, l)

  fitted_from_law : (done : List Expr) (ts : List CType) (args : List Arg) → all_in done ≡ true → all_few ts ≡ true → AreArgs a args → length ts ≡ length args → Answers (AreFitted (length done + length ts)) (fitted_from done ts args)
  fitted_from_law done [] args d f h l = told done (record { numbers = d; long = omega arith })
  fitted_from_law done (t ∷ ts) [] d f h l = absurd (omega (arith, l))
  fitted_from_law done (t ∷ ts) (x ∷ args) d f h l =
      answers_then (fitted t x.value x.first) _ (fitted_law a t x.value x.first (left (few t) (all_few ts) f) h.0)
      (λ v m. subst (λ n. Answers (AreFitted n) (fitted_from (done ++ v ∷ []) ts args)) (one_more done v (length ts))
      (fitted_from_law (done ++ v ∷ []) ts args (all_push (expr_in_range a) done v d m.numbers) (right (few t) (all_few ts) f) h.1 (omega (arith, l))))

  -- as many as a function of this look has parameters
  pub record AreCalled (x : Look) (vs : List Expr) : Type 0 where
    pub numbers : all_in vs ≡ true
    pub many : looks_called (length vs) x ≡ true

  called_with : (g : CType) (p : List CType) (n : Bool) (vs : List Expr) → AreFitted (length p) vs → AreCalled (shape.Function g p n) vs
  called_with g p n vs h = record { numbers = h.numbers; many = eq-eqb (length p) (length vs) (sym h.long) }

  fewer : (r : Checked (List Expr)) (g : CType) (p : List CType) (n : Bool) → Answers (AreFitted (0 + length p)) r → Answers (AreCalled (shape.Function g p n)) r
  fewer (Ok vs) g p n h = told vs (called_with g p n vs (record { numbers = h.it.numbers; long = h.it.long ∙ zero_more (length p) }))
    where
      zero_more : (k : ℕ) → 0 + k ≡ k
      zero_more k = omega arith
  fewer (Err e) g p n h = record { it = tt }

  arguments_by : (place : Place) (args : List Arg) (x : Look) → look_few x ≡ true → AreArgs a args → Answers (AreCalled x) (arguments_as place args x)
  arguments_by place args (shape.Function g p n) f h =
      answers_unless (not (eqb (length p) (length args))) 22 place _ (λ k. fewer (fitted_args p args) g p n
      (fitted_from_law [] p args refl (left (all_few p) _ (right (few g) _ f)) h (eqb-true (length p) (length args) (not_false (eqb (length p) (length args)) k))))
  arguments_by place args shape.Void f h = silent
  arguments_by place args (shape.Arith b) f h = silent
  arguments_by place args (shape.Pointer to) f h = silent
  arguments_by place args (shape.Array of len) f h = silent
  arguments_by place args (shape.Struct m name size align) f h = silent

  arguments_law : (place : Place) (t : CType) (args : List Arg) → few t ≡ true → AreArgs a args → Answers (AreCalled (look t)) (arguments place t args)
  arguments_law place t args f h = arguments_by place args (look t) (few_at t f) h

  -- ---- calls

  all_is : (vs : List Expr) → all_true (map (expr_in_range a) vs) ≡ all_in vs
  all_is [] = refl
  all_is (v ∷ vs) = ap (λ b. expr_in_range a v && b) (all_is vs)

  is_the_one : (n : ℕ) (x : Look) (m : ℕ) → names_fit a n x ≡ true → looks_called m x ≡ true → a.names.is_function n m ≡ true
  is_the_one n (shape.Function g p s) m h k = subst (λ z. a.names.is_function n z ≡ true) (eqb-true (length p) m k) h
  is_the_one n shape.Void m h k = no k
  is_the_one n (shape.Arith b) m h k = no k
  is_the_one n (shape.Pointer to) m h k = no k
  is_the_one n (shape.Array of len) m h k = no k
  is_the_one n (shape.Struct q name size align) m h k = no k

  secure_law : (place : Place) (f : Expr) (n : ℕ) (args : List Arg) → names_fit a n (look f.ctype) ≡ true → few f.ctype ≡ true → AreArgs a args → Answers (IsMade a) (secure_call place f n args)
  secure_law place f n args named t h =
      answers_then (arguments place f.ctype args) _ (arguments_law place f.ctype args t h) (λ vs m.
      told _ (made_of a (Call n vs) _ _ place (rolls-Call n vs) (λ e. refl)
      (both (subst (λ z. a.names.is_function n z ≡ true) (sym (length-map vs (expr_in_range a))) (is_the_one n (look f.ctype) (length vs) named m.many)) (all_is vs ∙ m.numbers)) (result_few f.ctype t)))

  at_most : (x : Look) (m : ℕ) → look_few x ≡ true → looks_nonsecure x ≡ true → looks_called m x ≡ true → nat_le m 4 ≡ true
  at_most (shape.Function g p s) m f n k = subst (λ z. nat_le z 4 ≡ true) (eqb-true (length p) m k) (or_right s (nat_le (length p) 4) n (right (all_few p) _ (right (few g) _ f)))
  at_most shape.Void m f n k = no k
  at_most (shape.Arith b) m f n k = no k
  at_most (shape.Pointer to) m f n k = no k
  at_most (shape.Array of len) m f n k = no k
  at_most (shape.Struct q name size align) m f n k = no k

  nonsecure_law : (place : Place) (f : Expr) (args : List Arg) (to : CType) → IsValue a f → few to ≡ true → is_nonsecure_function to ≡ true → AreArgs a args → Answers (IsMade a) (nonsecure_call place f args to)
  nonsecure_law place f args to v t ns h =
      answers_then (arguments place to args) _ (arguments_law place to args t h) (λ vs m.
      told _ (made_of a (NsCall f vs) _ _ place (rolls-NsCall f vs) (λ e. refl)
      (both (subst (λ z. nat_le z 4 ≡ true) (sym (length-map vs (expr_in_range a))) (at_most (look to) (length vs) (few_at to t) ns m.many)) (both v.numbers (all_is vs ∙ m.numbers))) (result_few to t)))

  pub record IsTarget (o : Option CType) (to : CType) : Type 0 where
    pub is : o ≡ Some to
    pub nonsecure : is_nonsecure_function to ≡ true

  target_of : (o : Option CType) (to : CType) → nonsecure_as o ≡ Some to → IsTarget o to
  target_of None to h = cc
  target_of (Some u) to h = by (is_nonsecure_function u) refl h
    where
      by : (b : Bool) → is_nonsecure_function u ≡ b → cond b (Some u) None ≡ Some to → IsTarget (Some u) to
      by true is k = record { is = k; nonsecure = let same : u ≡ to = cc in subst (λ z. is_nonsecure_function z ≡ true) same is }
      by false is k = cc

  pointer_by : (place : Place) (f : Expr) (args : List Arg) (o : Option CType) → nonsecure_target f.ctype ≡ o → IsTree a f → AreArgs a args → Answers (IsMade a) (pointer_as place f args o)
  pointer_by place f args (Some to) is h g =
      let t = target_of (referenced f.ctype) to is in
      nonsecure_law place f args to (value_of a f h (pointer_no_function (look f.ctype) to t.is)) (subst (λ o. few_or o ≡ true) t.is (few_referenced f.ctype h.typed)) t.nonsecure g
  pointer_by place f args None is h g = silent

  named_by : (f : Expr) (x : ExprKind-F ExprKind Expr) (n : ℕ) → kind_fits a f x ≡ true → secure_as f.ctype x ≡ Some n → names_fit a n (look f.ctype) ≡ true
  named_by f (Global m) n h k = by (is_secure_function f.ctype) k
    where
      by : (b : Bool) → cond b (Some m) None ≡ Some n → names_fit a n (look f.ctype) ≡ true
      by true e = let same : m ≡ n = cc in subst (λ z. names_fit a z (look f.ctype) ≡ true) same h
      by false e = cc
  named_by f _ n h k = cc

  called_by : (place : Place) (f : Expr) (args : List Arg) (o : Option ℕ) → secure_number f ≡ o → IsTree a f → AreArgs a args → Answers (IsMade a) (called_as place f args o)
  called_by place f args (Some n) is h g = secure_law place f n args (named_by f (out-ExprKind f.kind) n h.numbers is) h.typed g
  called_by place f args None is h g = pointer_by place f args (nonsecure_target f.ctype) refl h g

  pub called_law : (place : Place) (f : Expr) (args : List Arg) → IsTree a f → AreArgs a args → Answers (IsMade a) (called place f args)
  called_law place f args h g = called_by place f args (secure_number f) refl h g

  -- ---- calls of arm_cmse.h

  as_type_law : (to : CType) (x : Arg) → few to ≡ true → IsArg a x → Answers (IsValue a) (as_type to x)
  as_type_law to x f h = fitted_law a to x.value x.first f h

  range_made : (place : Place) (p n flags : Expr) (t : CType) → IsValue a p → IsValue a n → IsValue a flags → few t ≡ true → IsMade a (range place p n flags t)
  range_made place p n flags t f g h typed = made_of a (Range p n flags) _ t place (rolls-Range p n flags) (λ e. refl) (both f.numbers (both g.numbers h.numbers)) typed

  range_law : (place : Place) (args : List Arg) → AreArgs a args → Answers (IsMade a) (range_of place args)
  range_law place [] h = silent
  range_law place (p ∷ []) h = silent
  range_law place (p ∷ n ∷ []) h = silent
  range_law place (p ∷ n ∷ flags ∷ []) h =
      answers_then (as_type void_pointer p) _ (as_type_law void_pointer p few_void_pointer h.0) (λ x f.
      answers_then (as_type (arith_type arith.Unsigned) n) _ (as_type_law (arith_type arith.Unsigned) n (few_arith arith.Unsigned) h.1.0) (λ y g.
      answers_then (as_type int_type flags) _ (as_type_law int_type flags few_int h.1.1.0) (λ z i. told _ (range_made place x y z void_pointer f g i few_void_pointer))))
  range_law place (p ∷ n ∷ flags ∷ more ∷ rest) h = silent

  object_by : (place : Place) (p flags : Arg) (o : Option ℕ) → IsArg a p → IsArg a flags → Answers (IsMade a) (object_as place p flags o)
  object_by place p flags (Some size) h g =
      answers_then (as_type int_type flags) _ (as_type_law int_type flags few_int g) (λ z i.
      told _ (range_made place p.value (size_node p.value.place size) z (unqualified p.value.ctype) h (const_made a size (arith_type arith.Unsigned) p.value.place (few_arith arith.Unsigned)).value i h.typed))
  object_by place p flags None h g = silent

  object_law : (place : Place) (args : List Arg) → AreArgs a args → Answers (IsMade a) (object_of place args)
  object_law place [] h = silent
  object_law place (p ∷ []) h = silent
  object_law place (p ∷ flags ∷ []) h = object_by place p flags (step_of p.value.ctype) h.0 h.1.0
  object_law place (p ∷ flags ∷ more ∷ rest) h = silent

  created_law : (place : Place) (args : List Arg) → AreArgs a args → Answers (IsMade a) (created_of place args)
  created_law place [] h = silent
  created_law place (p ∷ []) h = answers_unless (not (points_to_nonsecure p.value.ctype)) 22 p.first _ (λ k. told _ (made_of a (NsCreate p.value) _ _ place (rolls-NsCreate p.value) (λ e. refl) h.0.numbers h.0.typed))
  created_law place (p ∷ more ∷ rest) h = silent

  tested_law : (place : Place) (args : List Arg) → AreArgs a args → Answers (IsMade a) (tested_of place args)
  tested_law place [] h = silent
  tested_law place (p ∷ []) h = answers_unless (not (points_to_nonsecure p.value.ctype)) 22 p.first _ (λ k. told _ (made_of a (NsTest p.value) _ _ place (rolls-NsTest p.value) (λ e. refl) h.0.numbers few_int))
  tested_law place (p ∷ more ∷ rest) h = silent

  caller_law : (place : Place) (args : List Arg) → Answers (IsMade a) (caller_of place args a.entry)
  caller_law place [] = answers_unless (not a.entry) 44 place _ (λ k. told _ (made_of a NsCaller _ _ place rolls-NsCaller (λ e. refl) (not_false a.entry k) few_int))
  caller_law place (x ∷ args) = silent

  pub intrinsic_law : (place : Place) (i : Intrinsic) (args : List Arg) → AreArgs a args → Answers (IsMade a) (intrinsic_called place i args a.entry)
  intrinsic_law place CheckRange args h = range_law place args h
  intrinsic_law place CheckObject args h = object_law place args h
  intrinsic_law place CreatePointer args h = created_law place args h
  intrinsic_law place IsPointer args h = tested_law place args h
  intrinsic_law place Caller args h = caller_law place args
