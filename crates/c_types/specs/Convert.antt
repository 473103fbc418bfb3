-- Which conversions are allowed: implicit ones (C11 6.3, 6.5.16.1) and casts (6.5.4).
use Rattle.std.specs.Prelude.{Bool, false, not, ◌&&◌, ◌||◌, Option, Some, None}
use Rattle.c_types.specs.Kind.{is_void, is_object, is_arithmetic, is_pointer, is_scalar, referenced}
use Rattle.c_types.specs.Same.{same_unqualified}
use Rattle.c_types.specs.declared.ctype.CType.{CType}

-- the second has the qualifiers of the first
abbrev pub qualifiers_within : CType → CType → Bool
qualifiers_within from to = (not from.is_const || to.is_const) && (not from.is_volatile || to.is_volatile)

-- A pointer to the one is a pointer to the other: they are one type but for their own qualifiers, or void and an object type,
-- and the second has the qualifiers of the first.
abbrev pub referenced_converts : CType → CType → Bool
referenced_converts from to = qualifiers_within from to && (same_unqualified from to || ((is_void from && is_object to) || (is_object from && is_void to)))

abbrev pub both_convert : Option CType → Option CType → Bool
both_convert (Some from) (Some to) = referenced_converts from to
both_convert (Some from) None = false
both_convert None to = false

-- between pointers
abbrev pub pointer_converts : CType → CType → Bool
pointer_converts from to = both_convert (referenced from) (referenced to)

-- implicitly, the value being a null constant or not
abbrev pub converts : CType → CType → Bool → Bool
converts from to null = (is_arithmetic from && is_arithmetic to) || ((null && is_pointer to) || pointer_converts from to)

-- by a cast
abbrev pub casts : CType → CType → Bool
casts from to = is_void to || (is_scalar from && is_scalar to)
