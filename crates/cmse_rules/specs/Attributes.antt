-- The attributes of a declaration (ECM0359818, 5.3 and 5.5, and GNU C).
use Rattle.std.specs.Prelude.{ℕ, Bool, true, false, not, ◌&&◌, ◌||◌, cond, is_some, List, [], ◌∷◌, ◌++◌, codes, bytes_eq, Option, Some, None, Result, Ok, Err}
use Rattle.cm_base.specs.declared.place.Place.{Place}
use Rattle.c_ast.specs.declared.expr.Attr.{Attr}
use Rattle.c_ast.specs.declared.expr.Name.{Name}
use Rattle.c_ast.specs.declared.expr.One.{One}
use Rattle.c_ast.specs.declared.expr.One.TheVariants.{Plain, With}
use Rattle.c_rows.specs.Answers.{Checked, ◌>>=◌, fault}
use Rattle.cmse_rules.specs.declared.attributes.Attributes.{Attributes}
use Rattle.cmse_rules.specs.declared.attributes.Subject.{Subject}
use Rattle.cmse_rules.specs.declared.attributes.Subject.TheVariants.{Function, Global, Other}

-- the word, with or without two underscores on each side
abbrev pub spells : List ℕ → List ℕ → Bool
spells word text = bytes_eq text word || bytes_eq text (codes "__" ++ word ++ codes "__")

-- attributes that say nothing
abbrev pub is_silent : List ℕ → Bool
is_silent text = spells (codes "used") text || (spells (codes "unused") text || spells (codes "noinline") text)

-- an attribute without a string, after those so far
abbrev pub plain : Name → Attributes → Checked Attributes
plain name so_far =
    cond (spells (codes "cmse_nonsecure_entry") name.text) (Ok (record so_far { entry = Some name.place })) (
    cond (spells (codes "cmse_nonsecure_call") name.text) (Ok (record so_far { call = Some name.place })) (
    cond (is_silent name.text) (Ok so_far) (fault 40 name.place)))

-- an attribute with a string: section(".noinit") is the only one
abbrev pub with_string : Name → List ℕ → Attributes → Checked Attributes
with_string name text so_far =
    cond (spells (codes "section") name.text && bytes_eq text (codes ".noinit")) (Ok (record so_far { noinit = Some name.place })) (fault 40 name.place)

abbrev pub one : One → Attributes → Checked Attributes
one (Plain name) so_far = plain name so_far
one (With name text) so_far = with_string name text so_far

abbrev pub ones : List One → Attributes → Checked Attributes
ones [] so_far = Ok so_far
ones (a ∷ more) so_far = one a so_far >>= ones more

-- what these attributes add to those so far, or the first that isn't known
abbrev pub attributes : List Attr → Attributes → Checked Attributes
attributes [] so_far = Ok so_far
attributes (a ∷ more) so_far = ones a.list so_far >>= attributes more

-- no attribute
abbrev pub none : Attributes
none = record { entry = None; call = None; noinit = None }

-- Whether one of them stands on the wrong thing: only a function at file scope is an entry function, and only a global
-- without an initialiser is left as it is at the start.
abbrev pub misplaced : Attributes → Subject → Bool
misplaced all Function = is_some all.noinit
misplaced all (Global initialised) = is_some all.entry || (initialised && is_some all.noinit)
misplaced all Other = is_some all.entry || is_some all.noinit
