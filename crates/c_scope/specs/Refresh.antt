-- A type as it stands now: each struct in it has the size and the alignment that its table has.
use Rattle.std.specs.Prelude.{ℕ, List, slice_get, Option, Some, None}
use Rattle.c_types.specs.declared.ctype.CType.{CType}
use Rattle.c_types.specs.declared.ctype.Shape.{Shape}
use Rattle.c_types.specs.declared.ctype.Shape.TheVariants as made
use Rattle.c_types.specs.declared.ctype.Shape.TheOpen as shape
use Rattle.c_types.specs.declared.ctype.Shape.TheOpen.{Shape-F, CType-F}
use Rattle.c_types.specs.declared.ctype.Shape.TheFolds.{fold-CType, fold-Shape}
use Rattle.std.specs.Prelude.{map}
use Rattle.c_scope.specs.declared.tables.StructInfo.{StructInfo}

abbrev pub struct_now : ℕ → List ℕ → ℕ → ℕ → Option StructInfo → Shape
struct_now number name size align (Some i) = made.Struct number name i.size i.align
struct_now number name size align None = made.Struct number name size align

abbrev pub shape_now : List StructInfo → Shape-F Shape CType → Shape
shape_now structs shape.Void = made.Void
shape_now structs (shape.Arith a) = made.Arith a
shape_now structs (shape.Pointer to) = made.Pointer to
shape_now structs (shape.Array of len) = made.Array of len
shape_now structs (shape.Struct number name size align) = struct_now number name size align (slice_get structs number)
shape_now structs (shape.Function gives params nonsecure) = made.Function gives params nonsecure

abbrev pub type_now : CType-F Shape CType → CType
type_now t = record { shape = t.shape; is_const = t.is_const; is_volatile = t.is_volatile }

abbrev pub refreshed : List StructInfo → CType → CType
refreshed structs = fold-CType Shape CType (shape_now structs) type_now

abbrev pub refreshed_shape : List StructInfo → Shape → Shape
refreshed_shape structs = fold-Shape Shape CType (shape_now structs) type_now

abbrev pub all_refreshed : List StructInfo → List CType → List CType
all_refreshed structs ts = map (refreshed structs) ts
