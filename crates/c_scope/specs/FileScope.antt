-- Declarations at file scope: functions, globals, typedefs and enumeration constants.
use Rattle.std.specs.Prelude.{ℕ, ◌∷◌, ◌++◌, Bool, true, false, not, ◌&&◌, ◌||◌, cond, is_some, List, [], length, slice_get, slice_set, Option, Some, None, Ok}
use Rattle.cm_base.specs.declared.place.Place.{Place}
use Rattle.c_ast.specs.declared.expr.Name.{Name}
use Rattle.c_types.specs.Kind.{Look, look, is_function, is_struct}
use Rattle.c_types.specs.Same.{same_type}
use Rattle.c_types.specs.Sizes.{fits}
use Rattle.c_types.specs.declared.ctype.CType.{CType}
use Rattle.c_types.specs.declared.ctype.Shape.TheOpen as shape
use Rattle.cmse_rules.specs.Names.{is_reserved}
use Rattle.cmse_rules.specs.Pointers.{has_secure_pointer}
use Rattle.c_rows.specs.Answers.{fault}
use Rattle.c_scope.specs.declared.tables.Known.{Known}
use Rattle.c_scope.specs.declared.tables.Linkage.{Linkage}
use Rattle.c_scope.specs.declared.tables.Meaning.{Meaning}
use Rattle.c_scope.specs.declared.tables.Meaning.TheVariants.{Extern, Constant, Null, Typedef, Intrinsic}
use Rattle.c_scope.specs.declared.tables.State.{State}
use Rattle.c_scope.specs.declared.tables.Tables.{Tables}
use Rattle.c_scope.specs.Blocks.{is_made}
use Rattle.c_scope.specs.Index.{added, place_of}
use Rattle.c_scope.specs.Steps.{Step, refuse}

-- whether file scope has a name already
abbrev pub is_declared : Tables → List ℕ → Bool
is_declared s text = is_some (place_of s.names text)

abbrev pub with_meaning : List ℕ → Meaning → Tables → Tables
with_meaning text m s = record s { names = added s.names text; meanings = s.meanings ++ m ∷ [] }

-- a name that only one declaration may have; its type, where it has one, is neither too large nor points to a Secure function
abbrev pub declare_typedef : Name → CType → Step (Unit {0})
declare_typedef name t s =
    refuse (is_declared s name.text) 21 name.place (
    refuse (not (fits t)) 24 name.place (
    refuse (has_secure_pointer t) 29 name.place (
    refuse (is_reserved name.text) 45 name.place (
    Ok (tt, with_meaning name.text (Typedef t) s)))))

abbrev pub declare_constant : Name → ℕ → Step (Unit {0})
declare_constant name n s =
    refuse (is_declared s name.text) 21 name.place (
    refuse (is_reserved name.text) 45 name.place (
    Ok (tt, with_meaning name.text (Constant n) s)))

-- whether a declaration doesn't go with those before it: they have one type, and of those of a global at most one isn't extern
abbrev pub clashes_with : CType → Linkage → Option Known → Bool
clashes_with t how (Some k) = not (same_type k.ctype t) || (not (is_function t) && (k.state.is_plain && not how.is_extern))
clashes_with t how None = true

abbrev pub clashes_as : Tables → CType → Linkage → Option Meaning → Bool
clashes_as s t how (Some (Extern n)) = clashes_with t how (slice_get s.externs n)
clashes_as s t how (Some (Constant n)) = true
clashes_as s t how (Some Null) = true
clashes_as s t how (Some (Typedef u)) = true
clashes_as s t how (Some (Intrinsic i)) = true
clashes_as s t how None = true

abbrev pub clashes_at : Tables → CType → Linkage → Option ℕ → Bool
clashes_at s t how (Some i) = clashes_as s t how (slice_get s.meanings i)
clashes_at s t how None = false

abbrev pub clashes : Tables → Name → CType → Linkage → Bool
clashes s name t how = clashes_at s t how (place_of s.names name.text)

-- what one declaration says alone, and what it adds to what those before it say; a function that was defined keeps its linkage
abbrev pub alone : Linkage → State
alone how = record { is_static = how.is_static; is_plain = not how.is_extern; is_entry = how.is_entry; has_body = false }

abbrev pub together : State → Linkage → State
together st how = record { is_static = st.is_static || (how.is_static && not st.has_body); is_plain = st.is_plain || not how.is_extern; is_entry = st.is_entry || how.is_entry; has_body = st.has_body }

abbrev pub first_known : Name → CType → Linkage → Known
first_known name t how = record { name = name.text; ctype = t; place = name.place; state = alone how }

abbrev pub with_known : Known → Tables → Tables
with_known k s = record s { names = added s.names k.name; meanings = s.meanings ++ Extern (length s.externs) ∷ []; externs = s.externs ++ k ∷ [] }

-- a function or global that is known already keeps the type and the place of its first declaration
abbrev pub with_state : State → Known → Known
with_state st k = record { name = k.name; ctype = k.ctype; place = k.place; state = st }

-- a function that was defined without being an entry function stays none
abbrev pub is_late : Linkage → State → Bool
is_late how st = how.is_entry && (st.has_body && not st.is_entry)

abbrev pub declared_again : ℕ → Name → Linkage → Option Known → Step ℕ
declared_again n name how (Some k) s = refuse (is_late how k.state) 40 name.place (Ok (n, record s { externs = slice_set s.externs n (with_state (together k.state how) k) }))
declared_again n name how None s = fault 21 name.place

abbrev pub declared_as : Name → Linkage → Option Meaning → Step ℕ
declared_as name how (Some (Extern n)) s = declared_again n name how (slice_get s.externs n) s
declared_as name how (Some (Constant n)) s = fault 21 name.place
declared_as name how (Some Null) s = fault 21 name.place
declared_as name how (Some (Typedef u)) s = fault 21 name.place
declared_as name how (Some (Intrinsic i)) s = fault 21 name.place
declared_as name how None s = fault 21 name.place

abbrev pub declared_at : Name → CType → Linkage → Option ℕ → Step ℕ
declared_at name t how (Some i) s = declared_as name how (slice_get s.meanings i) s
declared_at name t how None s = Ok (length s.externs, with_known (first_known name t how) s)

-- its number is its place in the order of first sight
abbrev pub declared : Name → CType → Linkage → Step ℕ
declared name t how s = declared_at name t how (place_of s.names name.text) s

-- A global: it has one type, that is complete unless the declaration is extern or its initialiser gives its length.
abbrev pub declare_object : Name → CType → Linkage → Bool → Step ℕ
declare_object name t how initialised s =
    refuse (clashes s name t how) 21 name.place (
    refuse (not (fits t)) 24 name.place (
    refuse (not (how.is_extern && not initialised) && not (is_made initialised t)) 25 name.place (
    refuse (has_secure_pointer t) 29 name.place (
    refuse (is_reserved name.text) 45 name.place (
    declared name t how s)))))

abbrev pub gives_struct : Look → Bool
gives_struct (shape.Function gives params nonsecure) = is_struct gives
gives_struct _ = false

-- A function: it has one type, which gives no struct.
abbrev pub declare_function : Name → CType → Linkage → Step ℕ
declare_function name t how s =
    refuse (clashes s name t how) 21 name.place (
    refuse (not (fits t)) 24 name.place (
    refuse (gives_struct (look t) || has_secure_pointer t) 29 name.place (
    refuse (is_reserved name.text) 45 name.place (
    declared name t how s))))

abbrev pub with_body : State → State
with_body st = record { is_static = st.is_static; is_plain = st.is_plain; is_entry = st.is_entry; has_body = true }

abbrev pub defined_as : ℕ → Tables → Option Known → Tables
defined_as n s (Some k) = record s { externs = slice_set s.externs n (with_state (with_body k.state) k) }
defined_as n s None = s

-- a function whose body is seen
abbrev pub define_function : ℕ → Tables → Tables
define_function n s = defined_as n s (slice_get s.externs n)

abbrev pub completed : CType → Known → Known
completed t k = record { name = k.name; ctype = t; place = k.place; state = k.state }

-- an array without a length
abbrev pub is_unsized : Look → Bool
is_unsized (shape.Array of None) = true
is_unsized (shape.Array of (Some len)) = false
is_unsized _ = false

abbrev pub completed_as : ℕ → CType → Tables → Option Known → Tables
completed_as n t s (Some k) = cond (is_unsized (look k.ctype)) (record s { externs = slice_set s.externs n (completed t k) }) s
completed_as n t s None = s

-- the type of a global whose initialiser gave its length; a length that is known stays
abbrev pub complete_object : ℕ → CType → Tables → Tables
complete_object n t s = completed_as n t s (slice_get s.externs n)
