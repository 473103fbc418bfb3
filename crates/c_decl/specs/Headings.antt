-- What the declarations of files, of blocks and of functions with a body have in common (C11 6.7): the specifiers before the
-- declarators, and the type that each declarator gives, with the attributes of what it declares.
use Rattle.std.specs.Prelude.{ℕ, Bool, true, false, not, ◌&&◌, cond, is_some, List, [], ◌∷◌, Option, Some, None, Ok}
use Rattle.cm_base.specs.declared.place.Place.{Place}
use Rattle.c_ast.specs.declared.expr.Abstract.{Abstract}
use Rattle.c_ast.specs.declared.expr.Access.{Access}
use Rattle.c_ast.specs.declared.expr.Attr.{Attr}
use Rattle.c_ast.specs.declared.expr.Declarator.{Declarator}
use Rattle.c_ast.specs.declared.expr.EnumSpec.{EnumSpec}
use Rattle.c_ast.specs.declared.expr.Enumerator.{Enumerator}
use Rattle.c_ast.specs.declared.expr.Expr.{Expr as Tree}
use Rattle.c_ast.specs.declared.expr.Link.{Link}
use Rattle.c_ast.specs.declared.expr.Member.{Member}
use Rattle.c_ast.specs.declared.expr.Name.{Name}
use Rattle.c_ast.specs.declared.expr.Next.{Next}
use Rattle.c_ast.specs.declared.expr.Param.{Param}
use Rattle.c_ast.specs.declared.expr.Params.{Params}
use Rattle.c_ast.specs.declared.expr.Spec.{Spec}
use Rattle.c_ast.specs.declared.expr.StructSpec.{StructSpec}
use Rattle.c_ast.specs.declared.expr.Suffix.{Suffix}
use Rattle.c_ast.specs.declared.expr.TypeName.{TypeName}
use Rattle.c_ast.specs.declared.expr.Abstract.TheOpen.{Spec-F, StructSpec-F}
use Rattle.c_ast.specs.declared.expr.Abstract.TheOpen as t
use Rattle.c_ast.specs.declared.expr.Abstract.TheViews.{out-Spec, out-StructSpec}
use Rattle.c_types.specs.Kind.{is_function}
use Rattle.c_types.specs.declared.ctype.CType.{CType}
use Rattle.c_rows.specs.Answers.{Checked, ◌>>=◌, fault}
use Rattle.cmse_rules.specs.declared.attributes.Attributes.{Attributes}
use Rattle.cmse_rules.specs.Attributes.{attributes}
use Rattle.c_derive.specs.declared.specifiers.Storage.{Storage}
use Rattle.c_derive.specs.declared.specifiers.Storage.TheVariants as storage
use Rattle.c_derive.specs.Derivations.{derived}
use Rattle.c_scope.specs.declared.tables.Linkage.{Linkage}
use Rattle.c_scope.specs.Steps.{Step, ◌>>>◌, keeping, refuse}
use Rattle.c_scope.specs.Tags.{declare_struct}
use Rattle.c_check.specs.declared.around.Around.{Around}
use Rattle.c_check.specs.declared.formed.Formed.{Formed}
use Rattle.c_check.specs.declared.specified.Specified.{Specified}
use Rattle.c_check.specs.Specified.{base_of, start_of}
use Rattle.c_check.specs.Typed.{forming, specifiers}
use Rattle.c_decl.specs.declared.headings.Declared.{Declared}
use Rattle.c_decl.specs.declared.headings.Heading.{Heading}

-- ---- before the declarators

abbrev pub as_heading : Specified → Checked Heading
as_heading it = base_of it >>= (λ ty. Ok (record { base = ty; attributes = it.attributes; storage = it.words.storage; inline = it.words.inline }))

-- the specifiers of a declaration; stored: a storage class and inline may stand among them
abbrev pub heading_of : Bool → Around → List Spec → Step Heading
heading_of stored around specs s = specifiers stored around specs s >>> (λ it u. keeping u (as_heading it))

abbrev pub is_typedef : Option Storage → Bool
is_typedef (Some storage.Typedef) = true
is_typedef _ = false

abbrev pub is_extern : Option Storage → Bool
is_extern (Some storage.Extern) = true
is_extern _ = false

abbrev pub is_static : Option Storage → Bool
is_static (Some storage.Static) = true
is_static _ = false

-- what a declaration says of the linkage of a function or a global
abbrev pub linkage : Heading → Attributes → Linkage
linkage h all = record { is_static = is_static h.storage; is_extern = is_extern h.storage; is_entry = is_some all.entry }

-- ---- a declarator

-- only a function can be inline: E27 at that word
abbrev pub if_inline : Bool → Option Place → CType → Checked CType
if_inline named (Some at) ty = cond (is_function ty && not named) (Ok ty) (fault 27 at)
if_inline named None ty = Ok ty

abbrev pub declared_type : Heading → Formed → Place → Checked CType
declared_type h f place = derived h.base f.derivations place >>= if_inline (is_typedef h.storage) h.inline

abbrev pub declared_as : Heading → Place → List Attr → Formed → Checked Declared
declared_as h place attrs f = declared_type h f place >>= (λ ty. attributes attrs f.attributes >>= (λ all. Ok (record { ctype = ty; attributes = all })))

-- the type that a declarator gives, and all attributes of what it declares
abbrev pub declared_by : Heading → Declarator → List Attr → Around → Step Declared
declared_by h d attrs around s = forming d.form h.attributes around s >>> (λ f u. keeping u (declared_as h d.name.place attrs f))

-- ---- a declaration without declarators

abbrev pub tag_named : StructSpec-F Abstract Access EnumSpec Tree Member Param Params Spec StructSpec Suffix Declarator Enumerator Link Next TypeName → Option Name
tag_named (t.StructSpec::Tag place name) = Some name
tag_named (t.StructSpec::Body place tag members) = None

abbrev pub struct_named : Spec-F Abstract Access EnumSpec Tree Member Param Params Spec StructSpec Suffix Declarator Enumerator Link Next TypeName → Option Name
struct_named (t.Struct x) = tag_named (out-StructSpec x)
struct_named _ = None

-- the tag of `struct s;`
abbrev pub lone_tag : List Spec → Option Name
lone_tag [] = None
lone_tag (x ∷ []) = struct_named (out-Spec x)
lone_tag (x ∷ y ∷ more) = None

-- an attribute that stands on nothing
abbrev pub unless_at : {A : Type 0} → Option Place → ℕ → Checked A → Checked A
unless_at (Some at) code rest = fault code at
unless_at None code rest = rest

-- without declarators a struct or an enum is declared, and nothing else can be: no function and nothing that takes an attribute
abbrev pub declares : Specified → Checked (Unit {0})
declares it =
    refuse (not it.tagged) 27 (start_of it) (
    unless_at it.words.inline 27 (
    unless_at it.attributes.entry 40 (
    unless_at it.attributes.call 40 (
    unless_at it.attributes.noinit 40 (Ok tt)))))

abbrev pub bare_as : Bool → Around → List Spec → Option Name → Step (Unit {0})
bare_as stored around specs (Some name) s = declare_struct around.scope name s >>> (λ ty u. Ok (tt, u))
bare_as stored around specs None s = specifiers stored around specs s >>> (λ it u. keeping u (declares it))

abbrev pub bare : Bool → Around → List Spec → Step (Unit {0})
bare stored around specs s = bare_as stored around specs (lone_tag specs) s
