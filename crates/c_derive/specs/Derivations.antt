-- Types derived by declarators (C11 6.7.6): pointers, arrays and functions, one after another.
use Rattle.std.specs.Prelude.{ℕ, true, false, cond, List, [], ◌∷◌, ◌++◌, map, reverse, Option, Some, None, Result, Ok, Err}
use Rattle.cm_base.specs.declared.place.Place.{Place}
use Rattle.c_ast.specs.declared.expr.Star.{Star}
use Rattle.c_ast.specs.declared.expr.Star.TheVariants as star
use Rattle.c_types.specs.declared.ctype.CType.{CType}
use Rattle.c_types.specs.Kind.{is_complete, is_function, is_result, is_struct}
use Rattle.c_types.specs.Derived.{array_of, function, parameter, pointer_to}
use Rattle.c_types.specs.Sizes.{fits}
use Rattle.c_rows.specs.Answers.{Checked, ◌>>=◌, fault}
use Rattle.c_derive.specs.declared.derivations.Derivation.{Derivation}
use Rattle.c_derive.specs.declared.derivations.Derivation.TheVariants as by
use Rattle.c_derive.specs.declared.derivations.Param.{Param}

-- what a star, or a qualifier behind one, makes of a type
abbrev pub pointer_part : Star → List Derivation
pointer_part (star.Star place) = by.Pointer ∷ []
pointer_part (star.Const place) = by.Const ∷ []
pointer_part (star.Volatile place) = by.Volatile ∷ []
pointer_part (star.Attr a) = []

abbrev pub pointer_parts : List Derivation → List Star → List Derivation
pointer_parts done [] = done
pointer_parts done (s ∷ ss) = pointer_parts (done ++ pointer_part s) ss

-- The derivations of `stars name suffixes`: the stars act first, and then the suffixes, the last one first. Those of a
-- declarator in parentheses follow.
abbrev pub derivations : List Derivation → List Derivation → List Derivation → List Derivation
derivations stars suffixes inner = (stars ++ reverse suffixes) ++ inner

-- ---- one derivation; its faults stand at the declared name

-- a type each of whose arrays and structs has at most 49,152 bytes
abbrev pub if_fits : CType → Place → Checked CType
if_fits t place = cond (fits t) (Ok t) (fault 24 place)

abbrev pub if_object : CType → Option ℕ → Place → Checked CType
if_object t len place = cond (is_complete t) (if_fits (array_of t len) place) (fault 25 place)

-- there are no arrays of functions, and the elements of an array are complete
abbrev pub array_type : CType → Option ℕ → Place → Checked CType
array_type t len place = cond (is_function t) (fault 27 place) (if_object t len place)

abbrev pub param_types : List Param → List CType
param_types ps = map (λ (p : Param). parameter p.ctype) ps

-- a function gives no struct
abbrev pub if_by_value : CType → List Param → Place → Checked CType
if_by_value t params place = cond (is_struct t) (fault 29 place) (Ok (function t (param_types params) false))

-- a function gives no array and no function
abbrev pub function_type : CType → List Param → Place → Checked CType
function_type t params place = cond (is_result t) (if_by_value t params place) (fault 27 place)

abbrev pub derive : CType → Derivation → Place → Checked CType
derive t by.Pointer place = Ok (pointer_to t)
derive t by.Const place = Ok (record t { is_const = true })
derive t by.Volatile place = Ok (record t { is_volatile = true })
derive t (by.Array len) place = array_type t len place
derive t (by.Function params) place = function_type t params place

-- one after another
abbrev pub derived : CType → List Derivation → Place → Checked CType
derived t [] place = Ok t
derived t (d ∷ ds) place = derive t d place >>= (λ u. derived u ds place)
