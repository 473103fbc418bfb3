-- A type as it stands now is as few, and looks alike to a call.
use Rattle.std.proofs.Common.{◌≡◌, ℕ, true, ◌&&◌, ◌||◌, not, nat_le, List, [], ◌∷◌, map, length, ap, ap₂, sym, ◌∙◌, subst, refl, Option, None, Some, slice_get, rules}
use Rattle.std.proofs.lemmas.List.{length-map}
use Rattle.c_types.specs.declared.ctype.CType.{CType, roll-CType}
use Rattle.c_types.specs.declared.ctype.Shape.{Shape, out-Shape, roll-Shape}
use Rattle.c_types.specs.declared.ctype.Shape.TheVariants as made
use Rattle.c_types.specs.declared.ctype.Shape.TheVariants.{rolls-Void, rolls-Arith, rolls-Pointer, rolls-Array, rolls-Struct, rolls-Function}
use Rattle.c_types.specs.declared.ctype.Shape.TheOpen as shape
use Rattle.c_types.specs.declared.ctype.Shape.TheOpen.{Shape-F, CType-F}
use Rattle.c_types.specs.declared.ctype.Shape.TheFolds.{map-Shape, map-CType, fold-roll-Shape, fold_out-Shape, ind-CType, the_lemmas}
use Rattle.c_types.specs.Kind.{Look, look}
use Rattle.c_tree.specs.Numbers.{Around as Ranged}
use Rattle.c_scope.specs.declared.tables.StructInfo.{StructInfo}
use Rattle.c_scope.specs.Refresh.{refreshed, refreshed_shape, shape_now, struct_now, type_now}
use Rattle.range_laws.specs.Few.{all_few, few, few_in}
use Rattle.range_laws.specs.Fits.{names_fit}
use Rattle.range_laws.proofs.FewLaws.{few_array, few_function, few_pointer, few_struct, fold_few, look_few, looked, shape_out_is}

module _ (structs : List StructInfo) where
  abbrev now : CType → CType
  now = refreshed structs

  abbrev shape_is_now : Shape → Shape
  shape_is_now = refreshed_shape structs

  abbrev Kept : CType → Type 0
  Kept t = few (now t) ≡ few t

  abbrev ShapeKept : Shape → Type 0
  ShapeKept x = few_in (shape_is_now x) ≡ few_in x

  abbrev AType : Type 0
  AType = (t : CType) × Kept t

  abbrev AShape : Type 0
  AShape = (x : Shape) × ShapeKept x

  abbrev firsts : List AType → List CType
  firsts ts = map (λ t. t.0) ts

  all_kept : (ts : List AType) → all_few (map now (firsts ts)) ≡ all_few (firsts ts)
  all_kept [] = refl
  all_kept (t ∷ ts) = ap₂ (λ x y. x && y) t.1 (all_kept ts)

  rolled : (x : Shape-F Shape CType) → few_in (roll-Shape x) ≡ look_few x
  rolled x = fold_few x ∙ looked x

  at : (x : Shape-F Shape CType) (z : Shape) → shape_now structs (map-Shape Shape CType Shape CType shape_is_now now x) ≡ z → few_in z ≡ look_few x → ShapeKept (roll-Shape x)
  at x z is h = ap few_in (fold-roll-Shape Shape CType (shape_now structs) type_now x ∙ is) ∙ (h ∙ sym (rolled x))

  struct_few : (number : ℕ) (name : List ℕ) (size align : ℕ) (o : Option StructInfo) → few_in (struct_now number name size align o) ≡ true
  struct_few number name size align (Some i) = few_struct number name i.size i.align
  struct_few number name size align None = few_struct number name size align

  shape_law : (y : Shape-F AShape AType) → ShapeKept (roll-Shape (map-Shape AShape AType Shape CType (λ x. x.0) (λ t. t.0) y))
  shape_law shape.Void = at shape.Void made.Void refl (ap few_in (sym rolls-Void) ∙ rolled shape.Void)
  shape_law (shape.Arith a) = at (shape.Arith a) (made.Arith a) refl (ap few_in (sym (rolls-Arith a)) ∙ rolled (shape.Arith a))
  shape_law (shape.Pointer to) = at (shape.Pointer to.0) (made.Pointer (now to.0)) refl (few_pointer (now to.0) ∙ to.1)
  shape_law (shape.Array of len) = at (shape.Array of.0 len) (made.Array (now of.0) len) refl (few_array (now of.0) len ∙ of.1)
  shape_law (shape.Struct number name size align) = at (shape.Struct number name size align) _ refl (struct_few number name size align (slice_get structs number))
  shape_law (shape.Function g p n) = at (shape.Function g.0 (firsts p) n) (made.Function (now g.0) (map now (firsts p)) n) refl
      (few_function (now g.0) (map now (firsts p)) n
      ∙ (ap (λ b. b && (all_few (map now (firsts p)) && (not n || nat_le (length (map now (firsts p))) 4))) g.1
      ∙ (ap (λ b. few g.0 && (b && (not n || nat_le (length (map now (firsts p))) 4))) (all_kept p)
      ∙ ap (λ k. few g.0 && (all_few (firsts p) && (not n || nat_le k 4))) (length-map (firsts p) now))))

  whole : (t : CType) → now t ≡ record { shape = shape_is_now t.shape; is_const = t.is_const; is_volatile = t.is_volatile }
  whole t = search (rules, the_lemmas)

  type_law : (y : CType-F AShape AType) → Kept (roll-CType (map-CType AShape AType Shape CType (λ x. x.0) (λ t. t.0) y))
  type_law y = ap few (whole (roll-CType (map-CType AShape AType Shape CType (λ x. x.0) (λ t. t.0) y))) ∙ y.shape.1

  pub few_now : (t : CType) → few (now t) ≡ few t
  few_now = ind-CType ShapeKept Kept
      (λ x y is. subst (λ z. ShapeKept (roll-Shape z)) is (shape_law y))
      (λ x y is. subst (λ z. Kept (roll-CType z)) is (type_law y))

  -- ---- to a call

  struct_out : (a : Ranged) (n : ℕ) (number : ℕ) (name : List ℕ) (size align : ℕ) (o : Option StructInfo) → names_fit a n (out-Shape (struct_now number name size align o)) ≡ a.names.is_global n
  struct_out a n number name size align (Some i) = ap (names_fit a n) (shape_out_is (shape.Struct number name i.size i.align) _ (rolls-Struct number name i.size i.align))
  struct_out a n number name size align None = ap (names_fit a n) (shape_out_is (shape.Struct number name size align) _ (rolls-Struct number name size align))

  out_now : (a : Ranged) (n : ℕ) (x : Look) → names_fit a n (out-Shape (shape_now structs (map-Shape Shape CType Shape CType shape_is_now now x))) ≡ names_fit a n x
  out_now a n shape.Void = ap (names_fit a n) (shape_out_is shape.Void _ rolls-Void)
  out_now a n (shape.Arith b) = ap (names_fit a n) (shape_out_is (shape.Arith b) _ (rolls-Arith b))
  out_now a n (shape.Pointer to) = ap (names_fit a n) (shape_out_is (shape.Pointer (now to)) _ (rolls-Pointer (now to)))
  out_now a n (shape.Array of len) = ap (names_fit a n) (shape_out_is (shape.Array (now of) len) _ (rolls-Array (now of) len))
  out_now a n (shape.Struct number name size align) = struct_out a n number name size align (slice_get structs number)
  out_now a n (shape.Function g p s) = ap (names_fit a n) (shape_out_is (shape.Function (now g) (map now p) s) _ (rolls-Function (now g) (map now p) s)) ∙ ap (a.names.is_function n) (length-map p now)

  pub names_now : (a : Ranged) (n : ℕ) (t : CType) → names_fit a n (look (now t)) ≡ names_fit a n (look t)
  names_now a n t = ap (λ u. names_fit a n (look u)) (whole t) ∙ (ap (λ z. names_fit a n (out-Shape z)) (fold_out-Shape Shape CType (shape_now structs) type_now t.shape) ∙ out_now a n (out-Shape t.shape))
