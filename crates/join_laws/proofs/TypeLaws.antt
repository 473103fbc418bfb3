-- Types that are one have as many parameters.
use Rattle.std.proofs.Common.{◌≡◌, ℕ, suc, ◌==◌, Bool, true, false, ◌&&◌, eqb, List, [], ◌∷◌, map, length, ap, sym, ◌∙◌, subst, refl, true≢false, rules}
use Rattle.std.proofs.lemmas.Bool.{eqb-true}
use Rattle.c_types.specs.declared.ctype.CType.{CType}
use Rattle.c_types.specs.declared.ctype.Shape.{Shape, out-Shape}
use Rattle.c_types.specs.declared.ctype.Shape.TheOpen as shape
use Rattle.c_types.specs.declared.ctype.Shape.TheOpen.{Shape-F, CType-F}
use Rattle.c_types.specs.declared.ctype.Shape.TheFolds.{map-Shape, fold_out-Shape, the_lemmas}
use Rattle.c_types.specs.declared.same.Units.{Units}
use Rattle.c_types.specs.declared.same.Units.TheVariants.{One, Two}
use Rattle.c_types.specs.Kind.{Look, look, looks_function, is_function}
use Rattle.c_types.specs.Same.{same, same_shape, same_flag, shape_step, type_step, all_same, each_same, same_void, same_arithmetic, same_pointer, same_array, same_struct, same_function}
use Rattle.c_tree.specs.Numbers.{looks_called}

false_true : {A : Type 0} → false ≡ true → A
false_true h = absurd (true≢false (sym h))

last : (a b : Bool) → (a && b) ≡ true → b ≡ true
last true b h = h
last false b h = false_true h

first : (a b : Bool) → (a && b) ≡ true → a ≡ true
first true b h = refl
first false b h = h

struct_no : (units : Units) (k : ℕ) (m : List ℕ) (s l : ℕ) (g : CType) (p : List CType) (n : Bool) → same_struct units k m s l (shape.Function g p n) ≡ true → false ≡ true
struct_no One k m s l g p n h = h
struct_no Two k m s l g p n h = h

module _ (units : Units) (many : ℕ) where
  abbrev tests : Look → Shape-F (Shape → Bool) (CType → Bool)
  tests x = map-Shape Shape CType (Shape → Bool) (CType → Bool) (same_shape units) (same units) x

  shape_is : (s t : Shape) → same_shape units s t ≡ shape_step units (tests (out-Shape s)) t
  shape_is s t = ap (λ f. f t) (fold_out-Shape (Shape → Bool) (CType → Bool) (shape_step units) type_step s)

  same_shapes : (a b : CType) → same units a b ≡ true → same_shape units a.shape b.shape ≡ true
  same_shapes a b h =
      let opened : same units a b ≡ (same_flag a.is_const b.is_const && (same_flag a.is_volatile b.is_volatile && same_shape units a.shape b.shape)) = search (rules, the_lemmas) in
      last (same_flag a.is_volatile b.is_volatile) (same_shape units a.shape b.shape) (last (same_flag a.is_const b.is_const) _ (sym opened ∙ h))

  lengths : {A B : Type 0} (f : A → B) (xs : List A) → length (map f xs) ≡ length xs
  lengths f [] = refl
  lengths f (x ∷ xs) = ap suc (lengths f xs)

  by : (x y : Look) (t : Shape) → out-Shape t ≡ y → shape_step units (tests x) t ≡ true → looks_called many x ≡ looks_called many y
  by (shape.Function g p n) (shape.Function g' p' n') t is h =
      let h1 : (same_flag n n' && (same units g g' && all_same (map (same units) p) p')) ≡ true = subst (λ z. same_function (same units g) (map (same units) p) n z ≡ true) is h in
      let h2 : all_same (map (same units) p) p' ≡ true = last (same units g g') (all_same (map (same units) p) p') (last (same_flag n n') (same units g g' && all_same (map (same units) p) p') h1) in
      ap (λ k. k == many) (sym (lengths (same units) p) ∙ eqb-true (length (map (same units) p)) (length p') (first (eqb (length (map (same units) p)) (length p')) (each_same (map (same units) p) p') h2))
  by (shape.Function g p n) shape.Void t is h = false_true (subst (λ z. same_function (same units g) (map (same units) p) n z ≡ true) is h)
  by (shape.Function g p n) (shape.Arith a) t is h = false_true (subst (λ z. same_function (same units g) (map (same units) p) n z ≡ true) is h)
  by (shape.Function g p n) (shape.Pointer a) t is h = false_true (subst (λ z. same_function (same units g) (map (same units) p) n z ≡ true) is h)
  by (shape.Function g p n) (shape.Array a l) t is h = false_true (subst (λ z. same_function (same units g) (map (same units) p) n z ≡ true) is h)
  by (shape.Function g p n) (shape.Struct k m s l) t is h = false_true (subst (λ z. same_function (same units g) (map (same units) p) n z ≡ true) is h)
  by shape.Void (shape.Function g p n) t is h = false_true (subst (λ z. same_void z ≡ true) is h)
  by (shape.Arith a) (shape.Function g p n) t is h = false_true (subst (λ z. same_arithmetic a z ≡ true) is h)
  by (shape.Pointer a) (shape.Function g p n) t is h = false_true (subst (λ z. same_pointer (same units a) z ≡ true) is h)
  by (shape.Array a l) (shape.Function g p n) t is h = false_true (subst (λ z. same_array (same units a) l z ≡ true) is h)
  by (shape.Struct k m s l) (shape.Function g p n) t is h = false_true (struct_no units k m s l g p n (subst (λ z. same_struct units k m s l z ≡ true) is h))
  by _ _ t is h = refl

  -- two types that are one look alike to a call
  pub called_alike : (a b : CType) → same units a b ≡ true → looks_called many (look a) ≡ looks_called many (look b)
  called_alike a b h = by (look a) (look b) b.shape refl (sym (shape_is a.shape b.shape) ∙ same_shapes a b h)

is_called : (many : ℕ) (x : Look) → looks_called many x ≡ true → looks_function x ≡ true
is_called many (shape.Function g p n) h = refl
is_called many shape.Void h = h
is_called many (shape.Arith a) h = false_true h
is_called many (shape.Pointer a) h = false_true h
is_called many (shape.Array a l) h = false_true h
is_called many (shape.Struct k m s l) h = false_true h

-- what is called is a function
pub called_is_function : (many : ℕ) (t : CType) → looks_called many (look t) ≡ true → is_function t ≡ true
called_is_function many t h = is_called many (look t) h
