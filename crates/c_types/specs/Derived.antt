-- Types derived from other types (C11 6.2.5, paragraph 20), and types adjusted (6.3.2.1, 6.7.6.3).
use Rattle.std.specs.Prelude.{ℕ, zero, suc, Bool, false, ◌||◌, List, Option}
use Rattle.c_types.specs.Kind.{Look, look}
use Rattle.c_types.specs.declared.arith.Arith.{Arith}
use Rattle.c_types.specs.declared.ctype.CType.{CType}
use Rattle.c_types.specs.declared.ctype.Shape.{Shape}
use Rattle.c_types.specs.declared.ctype.Shape.TheVariants as made
use Rattle.c_types.specs.declared.ctype.Shape.TheOpen as shape
use Rattle.c_types.specs.declared.ctype.Shape.TheOpen.{Shape-F, CType-F}
use Rattle.c_types.specs.declared.ctype.Shape.TheFolds.{fold-CType}

-- a type without qualifiers
abbrev pub plain : Shape → CType
plain s = record { shape = s; is_const = false; is_volatile = false }

abbrev pub arith_type : Arith → CType
arith_type a = plain (made.Arith a)

abbrev pub pointer_to : CType → CType
pointer_to referenced = plain (made.Pointer referenced)

abbrev pub array_of : CType → Option ℕ → CType
array_of element len = plain (made.Array element len)

abbrev pub function : CType → List CType → Bool → CType
function gives params nonsecure = plain (made.Function gives params nonsecure)

-- without its own qualifiers
abbrev pub unqualified : CType → CType
unqualified t = plain t.shape

-- how many arrays stand one in another
abbrev pub shape_dimensions : Shape-F ℕ ℕ → ℕ
shape_dimensions (shape.Array of len) = suc of
shape_dimensions _ = zero

abbrev pub type_dimensions : CType-F ℕ ℕ → ℕ
type_dimensions t = t.shape

abbrev pub dimensions : CType → ℕ
dimensions = fold-CType ℕ ℕ shape_dimensions type_dimensions

-- an array whose elements are changed so
abbrev pub with_elements : (CType → CType) → CType → Look → CType
with_elements change t (shape.Array of len) = record { shape = made.Array (change of) len; is_const = t.is_const; is_volatile = t.is_volatile }
with_elements change t _ = t

-- what stands in so many arrays has these qualifiers beside its own
abbrev pub qualified_in : ℕ → Bool → Bool → CType → CType
qualified_in zero c v t = record { shape = t.shape; is_const = t.is_const || c; is_volatile = t.is_volatile || v }
qualified_in (suc n) c v t = with_elements (qualified_in n c v) t (look t)

-- These qualifiers, const and volatile, beside its own: those of an array go to its elements.
abbrev pub qualified : Bool → Bool → CType → CType
qualified c v t = qualified_in (dimensions t) c v t

abbrev pub decayed_as : CType → Look → CType
decayed_as t (shape.Array of len) = pointer_to of
decayed_as t (shape.Function gives params nonsecure) = pointer_to t
decayed_as t _ = t

-- An array becomes a pointer to its first element, a function a pointer to itself.
abbrev pub decayed : CType → CType
decayed t = decayed_as t (look t)

-- what a function type has for a parameter of this type
abbrev pub parameter : CType → CType
parameter t = unqualified (decayed t)
