-- Blocks and parameter lists: their scopes (C11 6.2.1), parameters and locals.
use Rattle.std.specs.Prelude.{ℕ, ◌∷◌, ◌++◌, Bool, true, false, not, ◌&&◌, ◌||◌, is_some, List, [], length, drop, take, cond, slice_get, slice_set, bytes_eq, Option, Some, None, Ok}
use Rattle.std.specs.List.{list_any}
use Rattle.cm_base.specs.declared.place.Place.{Place}
use Rattle.c_ast.specs.declared.expr.Name.{Name}
use Rattle.c_types.specs.Kind.{Look, look, is_complete, is_struct}
use Rattle.c_types.specs.Sizes.{fits}
use Rattle.c_types.specs.declared.ctype.CType.{CType}
use Rattle.c_types.specs.declared.ctype.Shape.TheOpen as shape
use Rattle.c_tree.specs.declared.program.TLocal.{TLocal}
use Rattle.cmse_rules.specs.Names.{is_reserved}
use Rattle.cmse_rules.specs.Pointers.{has_secure_pointer}
use Rattle.c_rows.specs.Answers.{fault}
use Rattle.c_scope.specs.declared.tables.InBlock.{InBlock}
use Rattle.c_scope.specs.declared.tables.Scope.{Scope}
use Rattle.c_scope.specs.declared.tables.Tables.{Tables}
use Rattle.c_scope.specs.Steps.{Step, refuse}

-- a block begins: its scope stands behind all that is open
abbrev pub open_block : Tables → Scope
open_block s = record { names = length s.blocks; tags = length s.block_tags; locals = length s.locals; is_file = false }

-- and ends: its names and tags mean nothing any more
abbrev pub close_block : Scope → Tables → Tables
close_block scope s = record s { blocks = take scope.names s.blocks; block_tags = take scope.tags s.block_tags }

-- a parameter list begins: its names have a scope of their own, and its tags are those of the scope around it
abbrev pub open_parameters : Scope → Tables → Scope
open_parameters outer s = record { names = length s.blocks; tags = outer.tags; locals = length s.locals; is_file = outer.is_file }

-- and ends: a function's definition declares its parameters anew
abbrev pub close_parameters : Scope → Tables → Tables
close_parameters scope s = record s { blocks = take scope.names s.blocks; locals = take scope.locals s.locals }

-- whether the innermost scope declares a name already
abbrev pub is_declared : List InBlock → ℕ → List ℕ → Bool
is_declared names from text = list_any (λ (b : InBlock). bytes_eq b.name text) (drop from names)

abbrev pub with_local : List ℕ → CType → Tables → Tables
with_local text t s = record s { locals = s.locals ++ record { name = text; ctype = t } ∷ [] }

-- a local with a name in the innermost scope
abbrev pub with_named : List ℕ → CType → Tables → Tables
with_named text t s = record s { blocks = s.blocks ++ record { name = text; local = length s.locals } ∷ []; locals = s.locals ++ record { name = text; ctype = t } ∷ [] }

-- an array whose length its initialiser gives
abbrev pub awaits_length : Look → Bool
awaits_length (shape.Array of None) = is_complete of
awaits_length (shape.Array of (Some len)) = false
awaits_length _ = false

-- whether an object of this type can be made, with an initialiser or without one
abbrev pub is_made : Bool → CType → Bool
is_made initialised t = is_complete t || (initialised && awaits_length (look t))

-- A local of a block: its name is new there, its type is neither too large nor incomplete, and no pointer to a Secure
-- function stands in it.
abbrev pub declare_local : Scope → Name → CType → Bool → Step ℕ
declare_local scope name t initialised s =
    refuse (is_declared s.blocks scope.names name.text) 21 name.place (
    refuse (not (fits t)) 24 name.place (
    refuse (not (is_made initialised t)) 25 name.place (
    refuse (has_secure_pointer t) 29 name.place (
    refuse (is_reserved name.text) 45 name.place (
    Ok (length s.locals, with_named name.text t s))))))

-- the code of the first rule that the type of a parameter breaks
abbrev pub parameter_fault : CType → Option ℕ
parameter_fault t =
    cond (not (fits t)) (Some 24) (
    cond (not (is_complete t)) (Some 25) (
    cond (is_struct t || has_secure_pointer t) (Some 29) None))

abbrev pub declare_unnamed : CType → Place → Option ℕ → Step (Unit {0})
declare_unnamed t first (Some code) s = fault code first
declare_unnamed t first None s = Ok (tt, with_local [] t s)

abbrev pub declare_named : Name → CType → Option ℕ → Step (Unit {0})
declare_named name t (Some code) s = fault code name.place
declare_named name t None s = refuse (is_reserved name.text) 45 name.place (Ok (tt, with_named name.text t s))

-- A parameter of an adjusted type; one without a name has its first token as its place.
abbrev pub declare_parameter : Scope → Option Name → CType → Place → Step (Unit {0})
declare_parameter scope (Some name) t first s = refuse (is_declared s.blocks scope.names name.text) 21 name.place (declare_named name t (parameter_fault t) s)
declare_parameter scope None t first s = declare_unnamed t first (parameter_fault t) s

abbrev pub completed : CType → TLocal → TLocal
completed t l = record { name = l.name; ctype = t }

abbrev pub complete_as : ℕ → CType → Tables → Option TLocal → Tables
complete_as n t s (Some l) = record s { locals = slice_set s.locals n (completed t l) }
complete_as n t s None = s

-- the type of a local whose initialiser gave its length
abbrev pub complete_local : ℕ → CType → Tables → Tables
complete_local n t s = complete_as n t s (slice_get s.locals n)
