-- The parts of arrays and structs in order of address (C11 6.2.5, paragraph 20), as an initialiser names them.
use Rattle.std.specs.Prelude.{ℕ, cond, ltb, List, [], map, length, slice_get, Option, Some, None}
use Rattle.std.specs.Option.{unwrap_or}
use Rattle.ns_types.specs.Operators.{multiply}
use Rattle.c_types.specs.Kind.{Look, look}
use Rattle.c_types.specs.Sizes.{fits}
use Rattle.c_types.specs.declared.ctype.CType.{CType}
use Rattle.c_types.specs.declared.ctype.Shape.TheOpen as shape
use Rattle.c_tree.specs.Slots as sizes
use Rattle.c_scope.specs.declared.tables.Member.{Member}
use Rattle.c_scope.specs.declared.tables.StructInfo.{StructInfo}
use Rattle.c_scope.specs.Refresh.{refreshed}
use Rattle.c_init.specs.declared.parts.Parts.{Parts}
use Rattle.c_init.specs.declared.parts.Parts.TheVariants.{Elements, Members}
use Rattle.c_init.specs.declared.parts.Slot.{Slot}

-- the bytes of an object of a declared type
abbrev pub bytes_of : CType → ℕ
bytes_of t = cond (fits t) (sizes.bytes_of t) 0

-- a member, its type as it stands now
abbrev pub slot : List StructInfo → Member → Slot
slot structs m = record { ctype = refreshed structs m.ctype; offset = m.offset }

abbrev pub slots_in : List StructInfo → Option StructInfo → List Slot
slots_in structs (Some i) = map (slot structs) i.members
slots_in structs None = []

abbrev pub parts_as : List StructInfo → Look → Option Parts
parts_as structs (shape.Array of len) = Some (Elements of (bytes_of of) (unwrap_or len 0))
parts_as structs (shape.Struct number name size align) = Some (Members (slots_in structs (slice_get structs number)))
parts_as structs _ = None

-- the parts of an array or a struct; a scalar has none
abbrev pub parts_of : List StructInfo → CType → Option Parts
parts_of structs t = parts_as structs (look t)

-- how many they are
abbrev pub count : Parts → ℕ
count (Elements of size len) = len
count (Members slots) = length slots

-- the part of this number, where there are so many
abbrev pub part_at : Parts → ℕ → Option Slot
part_at (Elements of size len) i = cond (ltb i len) (Some (record { ctype = of; offset = multiply size i })) None
part_at (Members slots) i = slice_get slots i
