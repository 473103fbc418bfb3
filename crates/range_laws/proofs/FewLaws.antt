-- Types that are derived from types with few parameters.
use Rattle.std.proofs.Common.{◌≡◌, ℕ, zero, suc, Bool, true, ◌&&◌, ◌||◌, not, nat_le, List, [], ◌∷◌, map, length, ap, ap₂, sym, ◌∙◌, refl, Option, rules}
use Rattle.std.proofs.lemmas.List.{length-map}
use Rattle.std.specs.List.{list_all}
use Rattle.c_types.specs.declared.arith.Arith.{Arith}
use Rattle.c_types.specs.declared.ctype.CType.{CType}
use Rattle.c_types.specs.declared.ctype.Shape.{Shape, out-Shape, roll-Shape}
use Rattle.c_types.specs.declared.ctype.Shape.TheVariants as made
use Rattle.c_types.specs.declared.ctype.Shape.TheVariants.{rolls-Void, rolls-Arith, rolls-Pointer, rolls-Array, rolls-Struct, rolls-Function}
use Rattle.c_types.specs.declared.ctype.Shape.TheOpen as shape
use Rattle.c_types.specs.declared.ctype.Shape.TheOpen.{Shape-F, CType-F}
use Rattle.c_types.specs.declared.ctype.Shape.TheFolds.{map-Shape, fold-CType, fold-roll-Shape, fold_out-Shape, the_lemmas}
use Rattle.c_types.specs.Kind.{Look, look, element, element_of, referenced, referenced_by}
use Rattle.c_types.specs.Derived.{arith_type, decayed, decayed_as, dimensions, plain, qualified, qualified_in, with_elements}
use Rattle.range_laws.specs.Few.{all_few, few, few_in, few_or, shape_few, type_few}

-- a whole type is few where its shape is
pub few_whole : (t : CType) → fold-CType Bool Bool shape_few type_few t ≡ few t
few_whole t = search (rules, the_lemmas)

pub fold_few : (x : Shape-F Shape CType) → few_in (roll-Shape x) ≡ shape_few (map-Shape Shape CType Bool Bool few_in (fold-CType Bool Bool shape_few type_few) x)
fold_few x = fold-roll-Shape Bool Bool shape_few type_few x

-- one look at a type that is made
pub shape_out : (x : Shape-F Shape CType) → out-Shape (roll-Shape x) ≡ x
shape_out x = search (rules, the_lemmas)

pub shape_out_is : (x : Shape-F Shape CType) (k : Shape) → roll-Shape x ≡ k → out-Shape k ≡ x
shape_out_is x k is = ap out-Shape (sym is) ∙ shape_out x

pub few_void : few (plain made.Void) ≡ true
few_void = ap few_in (sym rolls-Void) ∙ fold_few shape.Void

pub few_arith : (a : Arith) → few (arith_type a) ≡ true
few_arith a = ap few_in (sym (rolls-Arith a)) ∙ fold_few (shape.Arith a)

pub few_pointer : (t : CType) → few_in (made.Pointer t) ≡ few t
few_pointer t = ap few_in (sym (rolls-Pointer t)) ∙ (fold_few (shape.Pointer t) ∙ few_whole t)

pub few_array : (t : CType) (len : Option ℕ) → few_in (made.Array t len) ≡ few t
few_array t len = ap few_in (sym (rolls-Array t len)) ∙ (fold_few (shape.Array t len) ∙ few_whole t)

pub few_struct : (number : ℕ) (name : List ℕ) (size align : ℕ) → few_in (made.Struct number name size align) ≡ true
few_struct number name size align = ap few_in (sym (rolls-Struct number name size align)) ∙ fold_few (shape.Struct number name size align)

-- what stands in a function type
abbrev pub few_function_in : CType → List CType → Bool → Bool
few_function_in gives params nonsecure = few gives && (all_few params && (not nonsecure || nat_le (length params) 4))

whole_all : (ts : List CType) → list_all (λ b. b) (map (fold-CType Bool Bool shape_few type_few) ts) ≡ all_few ts
whole_all [] = refl
whole_all (t ∷ ts) = ap₂ (λ x y. x && y) (few_whole t) (whole_all ts)

function_step : (gives : CType) (params : List CType) (nonsecure : Bool) → shape_few (map-Shape Shape CType Bool Bool few_in (fold-CType Bool Bool shape_few type_few) (shape.Function gives params nonsecure)) ≡ few_function_in gives params nonsecure
function_step gives params nonsecure =
    ap (λ b. b && (list_all (λ b. b) (map (fold-CType Bool Bool shape_few type_few) params) && (not nonsecure || nat_le (length (map (fold-CType Bool Bool shape_few type_few) params)) 4))) (few_whole gives)
    ∙ (ap (λ b. few gives && (b && (not nonsecure || nat_le (length (map (fold-CType Bool Bool shape_few type_few) params)) 4))) (whole_all params)
    ∙ ap (λ n. few gives && (all_few params && (not nonsecure || nat_le n 4))) (length-map params (fold-CType Bool Bool shape_few type_few)))

pub few_function : (gives : CType) (params : List CType) (nonsecure : Bool) → few_in (made.Function gives params nonsecure) ≡ few_function_in gives params nonsecure
few_function gives params nonsecure = ap few_in (sym (rolls-Function gives params nonsecure)) ∙ (fold_few (shape.Function gives params nonsecure) ∙ function_step gives params nonsecure)

-- ---- one look at a type

abbrev pub look_few : Look → Bool
look_few shape.Void = true
look_few (shape.Arith a) = true
look_few (shape.Pointer to) = few to
look_few (shape.Array of len) = few of
look_few (shape.Struct number name size align) = true
look_few (shape.Function gives params nonsecure) = few_function_in gives params nonsecure

pub looked : (x : Look) → shape_few (map-Shape Shape CType Bool Bool few_in (fold-CType Bool Bool shape_few type_few) x) ≡ look_few x
looked shape.Void = refl
looked (shape.Arith a) = refl
looked (shape.Pointer to) = few_whole to
looked (shape.Array of len) = few_whole of
looked (shape.Struct number name size align) = refl
looked (shape.Function gives params nonsecure) = function_step gives params nonsecure

pub few_look : (t : CType) → few t ≡ look_few (look t)
few_look t = fold_out-Shape Bool Bool shape_few type_few t.shape ∙ looked (out-Shape t.shape)

pub few_at : (t : CType) → few t ≡ true → look_few (look t) ≡ true
few_at t h = sym (few_look t) ∙ h

few_referenced_by : (x : Look) → look_few x ≡ true → few_or (referenced_by x) ≡ true
few_referenced_by (shape.Pointer to) h = h
few_referenced_by shape.Void h = refl
few_referenced_by (shape.Arith a) h = refl
few_referenced_by (shape.Array of len) h = refl
few_referenced_by (shape.Struct number name size align) h = refl
few_referenced_by (shape.Function gives params nonsecure) h = refl

pub few_referenced : (t : CType) → few t ≡ true → few_or (referenced t) ≡ true
few_referenced t h = few_referenced_by (look t) (few_at t h)

few_element_of : (x : Look) → look_few x ≡ true → few_or (element_of x) ≡ true
few_element_of (shape.Array of len) h = h
few_element_of shape.Void h = refl
few_element_of (shape.Arith a) h = refl
few_element_of (shape.Pointer to) h = refl
few_element_of (shape.Struct number name size align) h = refl
few_element_of (shape.Function gives params nonsecure) h = refl

pub few_element : (t : CType) → few t ≡ true → few_or (element t) ≡ true
few_element t h = few_element_of (look t) (few_at t h)

-- ---- derived types

few_elements : (change : CType → CType) (t : CType) (x : Look) → few t ≡ true → look_few x ≡ true → ((u : CType) → few u ≡ true → few (change u) ≡ true) → few (with_elements change t x) ≡ true
few_elements change t (shape.Array of len) h k f = few_array (change of) len ∙ f of k
few_elements change t shape.Void h k f = h
few_elements change t (shape.Arith a) h k f = h
few_elements change t (shape.Pointer to) h k f = h
few_elements change t (shape.Struct number name size align) h k f = h
few_elements change t (shape.Function gives params nonsecure) h k f = h

few_qualified_in : (n : ℕ) (c v : Bool) (t : CType) → few t ≡ true → few (qualified_in n c v t) ≡ true
few_qualified_in zero c v t h = h
few_qualified_in (suc n) c v t h = few_elements (qualified_in n c v) t (look t) h (few_at t h) (few_qualified_in n c v)

pub few_qualified : (c v : Bool) (t : CType) → few t ≡ true → few (qualified c v t) ≡ true
few_qualified c v t h = few_qualified_in (dimensions t) c v t h

few_decayed_as : (t : CType) (x : Look) → few t ≡ true → look_few x ≡ true → few (decayed_as t x) ≡ true
few_decayed_as t (shape.Array of len) h k = few_pointer of ∙ k
few_decayed_as t (shape.Function gives params nonsecure) h k = few_pointer t ∙ h
few_decayed_as t shape.Void h k = h
few_decayed_as t (shape.Arith a) h k = h
few_decayed_as t (shape.Pointer to) h k = h
few_decayed_as t (shape.Struct number name size align) h k = h

pub few_decayed : (t : CType) → few t ≡ true → few (decayed t) ≡ true
few_decayed t h = few_decayed_as t (look t) h (few_at t h)
