-- What declarators make of the type before them, with their attributes.
use Rattle.std.specs.Prelude.{ℕ, Bool, cond, List, [], ◌∷◌, Option, Some, None, Ok}
use Rattle.cm_base.specs.declared.place.Place.{Place}
use Rattle.c_ast.specs.declared.expr.Attr.{Attr}
use Rattle.c_ast.specs.declared.expr.Name.{Name}
use Rattle.c_ast.specs.declared.expr.Star.{Star}
use Rattle.c_ast.specs.declared.expr.Star.TheVariants as star
use Rattle.c_types.specs.Derived.{decayed}
use Rattle.c_types.specs.declared.ctype.CType.{CType}
use Rattle.c_rows.specs.Answers.{Checked, ◌>>=◌, fault}
use Rattle.cmse_rules.specs.declared.attributes.Attributes.{Attributes}
use Rattle.cmse_rules.specs.declared.attributes.Subject.{Subject}
use Rattle.cmse_rules.specs.declared.attributes.Subject.TheVariants.{Other}
use Rattle.cmse_rules.specs.Attributes.{misplaced, ones}
use Rattle.cmse_rules.specs.Pointers.{has_secure_pointer, nonsecure_declared}
use Rattle.c_derive.specs.declared.derivations.Derivation.{Derivation}
use Rattle.c_derive.specs.declared.derivations.Param.{Param}
use Rattle.c_derive.specs.Derivations.{derivations, derived, pointer_parts}
use Rattle.c_scope.specs.declared.tables.Scope.{Scope}
use Rattle.c_scope.specs.Blocks.{declare_parameter}
use Rattle.c_scope.specs.declared.tables.Layout.{Layout}
use Rattle.c_scope.specs.Layout.{added}
use Rattle.c_scope.specs.Steps.{Step, ◌>>>◌, refuse}
use Rattle.c_check.specs.declared.around.Around.{Around}
use Rattle.c_check.specs.declared.formed.Formed.{Formed}
use Rattle.c_check.specs.declared.specified.Head.{Head}

-- the attributes among stars
abbrev pub star_attributes : List Star → Attributes → Checked Attributes
star_attributes [] so_far = Ok so_far
star_attributes (star.Attr a ∷ more) so_far = ones a.list so_far >>= star_attributes more
star_attributes (_ ∷ more) so_far = star_attributes more so_far

-- what a declarator of these stars and suffixes derives, around what stands in parentheses
abbrev pub formed : List Star → List Derivation → List Derivation → Attributes → Formed
formed stars suffixes inner attrs = record { derivations = derivations (pointer_parts [] stars) suffixes inner; attributes = attrs }

abbrev pub nonsecure_if : Option Place → CType → Place → Checked CType
nonsecure_if (Some at) t place = nonsecure_declared t place
nonsecure_if None t place = Ok t

-- what attributes make of a declared type; one that stands on the wrong thing is E40 at this place
abbrev pub attributed : Attributes → Subject → CType → Place → Checked CType
attributed attrs on t place = refuse (misplaced attrs on) 40 place (nonsecure_if attrs.call t place)

-- The type of a parameter, a member or a type name: what its declarator makes of the type before it, and its attributes of
-- that. The faults stand at this place.
abbrev pub inner_type : CType → Formed → Place → Checked CType
inner_type base f place = derived base f.derivations place >>= (λ t. attributed f.attributes Other t place)

-- no pointer to a Secure function stands in it
abbrev pub without_pointer : CType → Place → Checked CType
without_pointer ty first = cond (has_secure_pointer ty) (fault 29 first) (Ok ty)

-- the type of a type name
abbrev pub type_of_name : Head → Formed → Checked CType
type_of_name h f = inner_type h.base f h.first >>= (λ t. without_pointer t h.first)

-- one more member of a struct
abbrev pub with_member : CType → Name → Formed → Layout → Checked Layout
with_member base name f l = inner_type base f name.place >>= (λ t. added name t l >>= (λ both. Ok both.1))

-- the same, in a scope within
abbrev pub inside : Around → Scope → Around
inside around scope = record around { scope = scope }

-- the name of a parameter without one is empty
abbrev pub name_or : Option Name → List ℕ
name_or (Some name) = name.text
name_or None = []

-- a parameter without a name has its first token as its place
abbrev pub place_or : Place → Option Name → Place
place_or first (Some name) = name.place
place_or first None = first

abbrev pub declared : Option Name → Place → CType → Around → Step Param
declared name place t around s = declare_parameter around.scope name t place s >>> (λ done u. Ok (record { name = name_or name; place = place; ctype = t }, u))

-- a parameter that is declared, its type adjusted
abbrev pub parameter : Option Name → Head → Formed → Around → Step Param
parameter name h f around s = inner_type h.base f (place_or h.first name) >>= (λ t. declared name (place_or h.first name) (decayed t) around s)
