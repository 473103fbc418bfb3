-- Types that are one are both types of functions, or neither is, and both arrays without a length, or neither; each type is one
-- with itself.
use Rattle.std.proofs.Common.{◌≡◌, ℕ, ◌&&◌, Bool, true, false, List, [], ◌∷◌, map, ap, sym, ◌∙◌, subst, refl, Option, None, Some, rules}
use Rattle.std.proofs.lemmas.Bool.{eq-eqb}
use Rattle.std.proofs.lemmas.List.{length-map}
use Rattle.c_types.specs.declared.arith.Arith.{Arith}
use Rattle.c_types.specs.declared.arith.Arith.TheVariants as arith
use Rattle.c_types.specs.declared.ctype.CType.{CType, roll-CType}
use Rattle.c_types.specs.declared.ctype.Shape.{Shape, out-Shape, roll-Shape}
use Rattle.c_types.specs.declared.ctype.Shape.TheOpen as shape
use Rattle.c_types.specs.declared.ctype.Shape.TheOpen.{Shape-F, CType-F}
use Rattle.c_types.specs.declared.ctype.Shape.TheFolds.{map-Shape, map-CType, fold-roll-Shape, fold_out-Shape, ind-CType, the_lemmas}
use Rattle.c_types.specs.declared.same.Units.TheVariants.{One}
use Rattle.c_types.specs.Arithmetic.{same_arith}
use Rattle.c_types.specs.Kind.{Look, is_function, look, looks_function}
use Rattle.c_types.specs.Same.{all_same, each_same, same, same_arithmetic, same_array, same_flag, same_function, same_len, same_pointer, same_shape, same_struct, same_type, same_void, shape_step, type_step}
use Rattle.c_scope.specs.FileScope.{is_unsized}
use Rattle.range_laws.proofs.FewLaws.{shape_out}
use Rattle.range_laws.proofs.Both.{both, no, right}

-- ---- one look

abbrev tests : Look → Shape-F (Shape → Bool) (CType → Bool)
tests x = map-Shape Shape CType (Shape → Bool) (CType → Bool) (same_shape One) (same One) x

shape_is : (s t : Shape) → same_shape One s t ≡ shape_step One (tests (out-Shape s)) t
shape_is s t = ap (λ f. f t) (fold_out-Shape (Shape → Bool) (CType → Bool) (shape_step One) type_step s)

whole : (a b : CType) → same One a b ≡ (same_flag a.is_const b.is_const && (same_flag a.is_volatile b.is_volatile && same_shape One a.shape b.shape))
whole a b = search (rules, the_lemmas)

same_shapes : (a b : CType) → same One a b ≡ true → same_shape One a.shape b.shape ≡ true
same_shapes a b h = right (same_flag a.is_volatile b.is_volatile) (same_shape One a.shape b.shape) (right (same_flag a.is_const b.is_const) _ (sym (whole a b) ∙ h))

-- ---- functions

function_by : (x y : Look) (t : Shape) → out-Shape t ≡ y → shape_step One (tests x) t ≡ true → looks_function x ≡ looks_function y
function_by (shape.Function g p n) (shape.Function g' p' n') t is h = refl
function_by (shape.Function g p n) shape.Void t is h = no (subst (λ z. same_function (same One g) (map (same One) p) n z ≡ true) is h)
function_by (shape.Function g p n) (shape.Arith a) t is h = no (subst (λ z. same_function (same One g) (map (same One) p) n z ≡ true) is h)
function_by (shape.Function g p n) (shape.Pointer a) t is h = no (subst (λ z. same_function (same One g) (map (same One) p) n z ≡ true) is h)
function_by (shape.Function g p n) (shape.Array a l) t is h = no (subst (λ z. same_function (same One g) (map (same One) p) n z ≡ true) is h)
function_by (shape.Function g p n) (shape.Struct k m s l) t is h = no (subst (λ z. same_function (same One g) (map (same One) p) n z ≡ true) is h)
function_by shape.Void (shape.Function g p n) t is h = no (subst (λ z. same_void z ≡ true) is h)
function_by (shape.Arith a) (shape.Function g p n) t is h = no (subst (λ z. same_arithmetic a z ≡ true) is h)
function_by (shape.Pointer a) (shape.Function g p n) t is h = no (subst (λ z. same_pointer (same One a) z ≡ true) is h)
function_by (shape.Array a l) (shape.Function g p n) t is h = no (subst (λ z. same_array (same One a) l z ≡ true) is h)
function_by (shape.Struct k m s l) (shape.Function g p n) t is h = no (subst (λ z. same_struct One k m s l z ≡ true) is h)
function_by _ _ t is h = refl

pub functions_alike : (a b : CType) → same_type a b ≡ true → is_function a ≡ is_function b
functions_alike a b h = function_by (look a) (look b) b.shape refl (sym (shape_is a.shape b.shape) ∙ same_shapes a b h)

-- ---- arrays without a length

unsized_by : (x y : Look) (t : Shape) → out-Shape t ≡ y → shape_step One (tests x) t ≡ true → is_unsized x ≡ is_unsized y
unsized_by (shape.Array a None) (shape.Array b None) t is h = refl
unsized_by (shape.Array a None) (shape.Array b (Some m)) t is h = no (subst (λ z. same_array (same One a) None z ≡ true) is h)
unsized_by (shape.Array a None) shape.Void t is h = no (subst (λ z. same_array (same One a) None z ≡ true) is h)
unsized_by (shape.Array a None) (shape.Arith b) t is h = no (subst (λ z. same_array (same One a) None z ≡ true) is h)
unsized_by (shape.Array a None) (shape.Pointer b) t is h = no (subst (λ z. same_array (same One a) None z ≡ true) is h)
unsized_by (shape.Array a None) (shape.Struct k m s l) t is h = no (subst (λ z. same_array (same One a) None z ≡ true) is h)
unsized_by (shape.Array a None) (shape.Function g p n) t is h = no (subst (λ z. same_array (same One a) None z ≡ true) is h)
unsized_by (shape.Array a (Some n)) (shape.Array b None) t is h = no (subst (λ z. same_array (same One a) (Some n) z ≡ true) is h)
unsized_by shape.Void (shape.Array b None) t is h = no (subst (λ z. same_void z ≡ true) is h)
unsized_by (shape.Arith a) (shape.Array b None) t is h = no (subst (λ z. same_arithmetic a z ≡ true) is h)
unsized_by (shape.Pointer a) (shape.Array b None) t is h = no (subst (λ z. same_pointer (same One a) z ≡ true) is h)
unsized_by (shape.Struct k m s l) (shape.Array b None) t is h = no (subst (λ z. same_struct One k m s l z ≡ true) is h)
unsized_by (shape.Function g p n) (shape.Array b None) t is h = no (subst (λ z. same_function (same One g) (map (same One) p) n z ≡ true) is h)
unsized_by _ _ t is h = refl

pub unsized_alike : (a b : CType) → same_type a b ≡ true → is_unsized (look a) ≡ is_unsized (look b)
unsized_alike a b h = unsized_by (look a) (look b) b.shape refl (sym (shape_is a.shape b.shape) ∙ same_shapes a b h)

-- ---- a type and itself

flag_itself : (b : Bool) → same_flag b b ≡ true
flag_itself true = refl
flag_itself false = refl

len_itself : (len : Option ℕ) → same_len len len ≡ true
len_itself None = refl
len_itself (Some n) = eq-eqb n n refl

arith_itself : (a : Arith) → same_arith a a ≡ true
arith_itself arith.Char = refl
arith_itself arith.SignedChar = refl
arith_itself arith.UnsignedChar = refl
arith_itself arith.Short = refl
arith_itself arith.UnsignedShort = refl
arith_itself arith.Int = refl
arith_itself arith.Unsigned = refl
arith_itself arith.Long = refl
arith_itself arith.UnsignedLong = refl

abbrev Itself : CType → Type 0
Itself t = same One t t ≡ true

abbrev ShapeItself : Shape → Type 0
ShapeItself x = same_shape One x x ≡ true

abbrev AType : Type 0
AType = (t : CType) × Itself t

abbrev AShape : Type 0
AShape = (x : Shape) × ShapeItself x

abbrev firsts : List AType → List CType
firsts ts = map (λ t. t.0) ts

each_itself : (ts : List AType) → each_same (map (same One) (firsts ts)) (firsts ts) ≡ true
each_itself [] = refl
each_itself (t ∷ ts) = both t.1 (each_itself ts)

all_itself : (ts : List AType) → all_same (map (same One) (firsts ts)) (firsts ts) ≡ true
all_itself ts = both (eq-eqb _ _ (length-map (firsts ts) (same One))) (each_itself ts)

at : (x : Look) → shape_step One (tests x) (roll-Shape x) ≡ true → ShapeItself (roll-Shape x)
at x h = ap (λ f. f (roll-Shape x)) (fold-roll-Shape (Shape → Bool) (CType → Bool) (shape_step One) type_step x) ∙ h

shape_itself : (y : Shape-F AShape AType) → ShapeItself (roll-Shape (map-Shape AShape AType Shape CType (λ x. x.0) (λ t. t.0) y))
shape_itself shape.Void = at shape.Void (ap same_void (shape_out shape.Void))
shape_itself (shape.Arith a) = at (shape.Arith a) (ap (same_arithmetic a) (shape_out (shape.Arith a)) ∙ arith_itself a)
shape_itself (shape.Pointer to) = at (shape.Pointer to.0) (ap (same_pointer (same One to.0)) (shape_out (shape.Pointer to.0)) ∙ to.1)
shape_itself (shape.Array of len) = at (shape.Array of.0 len) (ap (same_array (same One of.0) len) (shape_out (shape.Array of.0 len)) ∙ both (len_itself len) of.1)
shape_itself (shape.Struct number name size align) = at (shape.Struct number name size align) (ap (same_struct One number name size align) (shape_out (shape.Struct number name size align)) ∙ eq-eqb number number refl)
shape_itself (shape.Function g p n) = at (shape.Function g.0 (firsts p) n) (ap (same_function (same One g.0) (map (same One) (firsts p)) n) (shape_out (shape.Function g.0 (firsts p) n)) ∙ both (flag_itself n) (both g.1 (all_itself p)))

type_itself : (y : CType-F AShape AType) → Itself (roll-CType (map-CType AShape AType Shape CType (λ x. x.0) (λ t. t.0) y))
type_itself y = let t : CType = roll-CType (map-CType AShape AType Shape CType (λ x. x.0) (λ t. t.0) y) in whole t t ∙ both (flag_itself t.is_const) (both (flag_itself t.is_volatile) y.shape.1)

-- each type is one with itself
pub same_itself : (t : CType) → same_type t t ≡ true
same_itself = ind-CType ShapeItself Itself
    (λ x y is. subst (λ z. ShapeItself (roll-Shape z)) is (shape_itself y))
    (λ x y is. subst (λ z. Itself (roll-CType z)) is (type_itself y))
