-- What kind of type a type is (C11 6.2.5).
use Rattle.std.specs.Prelude.{Bool, true, false, not, ◌&&◌, ◌||◌, eqb, is_some, Option, Some, None}
use Rattle.c_types.specs.declared.arith.Arith.{Arith}
use Rattle.c_types.specs.declared.ctype.CType.{CType}
use Rattle.c_types.specs.declared.ctype.Shape.{Shape, out-Shape}
use Rattle.c_types.specs.declared.ctype.Shape.TheOpen as shape
use Rattle.c_types.specs.declared.ctype.Shape.TheOpen.{Shape-F, CType-F}
use Rattle.c_types.specs.declared.ctype.Shape.TheFolds.{fold-CType}

-- one look at a type without its qualifiers
abbrev pub Look : Type 0
Look = Shape-F Shape CType

abbrev pub look : CType → Look
look t = out-Shape t.shape

abbrev pub looks_void : Look → Bool
looks_void shape.Void = true
looks_void _ = false

abbrev pub is_void : CType → Bool
is_void t = looks_void (look t)

abbrev pub arithmetic_of : Look → Option Arith
arithmetic_of (shape.Arith a) = Some a
arithmetic_of _ = None

-- the arithmetic type that it is
abbrev pub arithmetic : CType → Option Arith
arithmetic t = arithmetic_of (look t)

abbrev pub is_arithmetic : CType → Bool
is_arithmetic t = is_some (arithmetic t)

abbrev pub referenced_by : Look → Option CType
referenced_by (shape.Pointer to) = Some to
referenced_by _ = None

-- the type that a pointer points to
abbrev pub referenced : CType → Option CType
referenced t = referenced_by (look t)

abbrev pub is_pointer : CType → Bool
is_pointer t = is_some (referenced t)

abbrev pub points_to_void : Option CType → Bool
points_to_void (Some to) = is_void to
points_to_void None = false

abbrev pub is_void_pointer : CType → Bool
is_void_pointer t = points_to_void (referenced t)

-- scalar types: arithmetic types and pointers
abbrev pub is_scalar : CType → Bool
is_scalar t = is_arithmetic t || is_pointer t

abbrev pub element_of : Look → Option CType
element_of (shape.Array of len) = Some of
element_of _ = None

-- the type of an array's elements
abbrev pub element : CType → Option CType
element t = element_of (look t)

abbrev pub is_array : CType → Bool
is_array t = is_some (element t)

abbrev pub looks_struct : Look → Bool
looks_struct (shape.Struct number name size align) = true
looks_struct _ = false

abbrev pub is_struct : CType → Bool
is_struct t = looks_struct (look t)

abbrev pub looks_function : Look → Bool
looks_function (shape.Function gives params nonsecure) = true
looks_function _ = false

abbrev pub is_function : CType → Bool
is_function t = looks_function (look t)

abbrev pub looks_nonsecure : Look → Bool
looks_nonsecure (shape.Function gives params nonsecure) = nonsecure
looks_nonsecure _ = false

-- a function that Non-secure code has
abbrev pub is_nonsecure_function : CType → Bool
is_nonsecure_function t = looks_nonsecure (look t)

-- object types, complete or not: all but functions
abbrev pub is_object : CType → Bool
is_object t = not (is_function t)

-- what a function may give: neither an array nor a function
abbrev pub is_result : CType → Bool
is_result t = not (is_array t) && not (is_function t)

abbrev pub shape_complete : Shape-F Bool Bool → Bool
shape_complete shape.Void = false
shape_complete (shape.Arith a) = true
shape_complete (shape.Pointer to) = true
shape_complete (shape.Array of len) = is_some len && of
shape_complete (shape.Struct number name size align) = not (eqb size 0)
shape_complete (shape.Function gives params nonsecure) = false

abbrev pub type_complete : CType-F Bool Bool → Bool
type_complete t = t.shape

-- An array is complete where its length is known and its elements are complete; a struct that isn't has the size 0.
abbrev pub is_complete : CType → Bool
is_complete = fold-CType Bool Bool shape_complete type_complete
