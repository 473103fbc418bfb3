-- Where the members of a struct stand (C11 6.7.2.1), and members by name (6.5.2.3).
use Rattle.std.specs.Prelude.{ℕ, ◌+◌, ◌∷◌, ◌++◌, Bool, not, cond, is_some, eqb, min, max, List, [], slice_get, position, bytes_eq, Option, Some, None, Ok}
use Rattle.cm_base.specs.declared.place.Place.{Place}
use Rattle.c_ast.specs.declared.expr.Name.{Name}
use Rattle.c_types.specs.Kind.{Look, look}
use Rattle.c_types.specs.Sizes.{align_of, fits, size_of}
use Rattle.c_types.specs.declared.ctype.CType.{CType}
use Rattle.c_types.specs.declared.ctype.Shape.TheOpen as shape
use Rattle.c_tree.specs.Globals.{round_up}
use Rattle.cmse_rules.specs.Pointers.{has_secure_pointer}
use Rattle.c_rows.specs.Answers.{Checked, fault}
use Rattle.c_scope.specs.declared.layout.Found.{Found}
use Rattle.c_scope.specs.declared.tables.Layout.{Layout}
use Rattle.c_scope.specs.declared.tables.Member.{Member}
use Rattle.c_scope.specs.declared.tables.StructInfo.{StructInfo}
use Rattle.c_scope.specs.declared.tables.Tables.{Tables}
use Rattle.c_scope.specs.Lookup.{at_place}
use Rattle.c_scope.specs.Refresh.{refreshed}
use Rattle.c_scope.specs.Steps.{refuse}

-- a number of bytes, or one more than a struct may have
abbrev pub capped : ℕ → ℕ
capped n = min n 49153

-- the least multiple of an alignment that isn't below a number of bytes
abbrev pub rounded : ℕ → ℕ → ℕ
rounded n align = round_up n (max align 1)

abbrev pub member_place : List Member → List ℕ → Option ℕ
member_place members text = position (λ (m : Member). bytes_eq m.name text) members

-- a member of this size and alignment behind the others, at the next multiple of its alignment
abbrev pub placed : Name → CType → Layout → ℕ → ℕ → Layout
placed name t l size align =
    let offset : ℕ = capped (rounded l.size align) in
    record { members = l.members ++ record { name = name.text; ctype = t; offset = offset } ∷ []; size = capped (offset + size); align = max l.align align }

abbrev pub placed_as : Name → CType → Layout → Option ℕ → Option ℕ → Checked (Unit {0} × Layout)
placed_as name t l (Some size) (Some align) = refuse (has_secure_pointer t) 29 name.place (Ok (tt, placed name t l size align))
placed_as name t l (Some size) None = fault 25 name.place
placed_as name t l None align = fault 25 name.place

-- One more member. Its name is new in the struct, and its type is complete and not too large, without a pointer to a Secure
-- function.
abbrev pub added : Name → CType → Layout → Checked (Unit {0} × Layout)
added name t l =
    refuse (is_some (member_place l.members name.text)) 21 name.place (
    refuse (not (fits t)) 24 name.place (
    placed_as name t l (size_of t) (align_of t)))

abbrev pub found_as : Tables → Name → Option Member → Checked Found
found_as s name (Some m) = Ok (record { ctype = refreshed s.structs m.ctype; offset = m.offset })
found_as s name None = fault 20 name.place

abbrev pub found_in : Tables → Place → Name → Option StructInfo → Checked Found
found_in s dot name (Some i) = refuse (eqb i.size 0) 25 dot (found_as s name (at_place i.members (member_place i.members name.text)))
found_in s dot name None = fault 25 dot

abbrev pub found_at : Tables → Place → Name → Look → Checked Found
found_at s dot name (shape.Struct number tag size align) = found_in s dot name (slice_get s.structs number)
found_at s dot name _ = fault 22 dot

-- The member of a struct type by its name. A type without members is E22 and a struct that isn't complete E25 at the
-- operator, and a member that isn't there E20 at its name.
abbrev pub member_of : Tables → CType → Place → Name → Checked Found
member_of s t dot name = found_at s dot name (look t)
