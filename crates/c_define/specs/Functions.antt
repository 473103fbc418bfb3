-- Functions that a unit defines (C11 6.9.1): the rules of their headings, their parameters and bodies, and the limits of the whole.
use Rattle.std.specs.Prelude.{ℕ, ◌-◌, ◌&&◌, Bool, true, false, cond, nat_lt, List, [], ◌∷◌, take, drop, length, slice_get, option_and_then, Option, Some, None, Ok}
use Rattle.cm_base.specs.declared.place.Place.{Place}
use Rattle.c_ast.specs.declared.expr.Declarator.{Declarator}
use Rattle.c_ast.specs.declared.expr.Name.{Name}
use Rattle.c_ast.specs.declared.stmt.Block.{Block}
use Rattle.c_ast.specs.declared.stmt.Function.{Function}
use Rattle.c_types.specs.Derived.{plain}
use Rattle.c_types.specs.Kind.{Look, look}
use Rattle.c_types.specs.declared.ctype.CType.{CType}
use Rattle.c_types.specs.declared.ctype.Shape.TheOpen as shape
use Rattle.c_types.specs.declared.ctype.Shape.TheVariants as made
use Rattle.c_tree.specs.declared.program.TFunction.{TFunction}
use Rattle.c_tree.specs.declared.program.TLocal.{TLocal}
use Rattle.c_tree.specs.declared.stmt.Stmt.{Stmt}
use Rattle.c_tree.specs.Nodes.{function_nodes}
use Rattle.c_tree.specs.Slots.{all_fit, placed_bytes, slots}
use Rattle.c_rows.specs.Answers.{Checked, ◌>>=◌, fault}
use Rattle.cmse_rules.specs.declared.attributes.Subject.TheVariants as on
use Rattle.cmse_rules.specs.Entry.{entry_rule}
use Rattle.c_derive.specs.declared.derivations.Derivation.{Derivation}
use Rattle.c_derive.specs.declared.derivations.Derivation.TheVariants as by
use Rattle.c_derive.specs.declared.derivations.Param.{Param}
use Rattle.c_scope.specs.declared.tables.Known.{Known}
use Rattle.c_scope.specs.declared.tables.State.{State}
use Rattle.c_scope.specs.declared.tables.Tables.{Tables}
use Rattle.c_scope.specs.Blocks.{with_local, with_named}
use Rattle.c_scope.specs.FileScope.{declare_function, define_function}
use Rattle.c_scope.specs.Steps.{Step, ◌>>>◌, keeping, refuse}
use Rattle.c_check.specs.declared.around.Around.{Around}
use Rattle.c_check.specs.declared.formed.Formed.{Formed}
use Rattle.c_check.specs.Formed.{attributed}
use Rattle.c_check.specs.Typed.{forming}
use Rattle.c_decl.specs.declared.headings.Declared.{Declared}
use Rattle.c_decl.specs.declared.headings.Heading.{Heading}
use Rattle.c_decl.specs.Globals.{at_file}
use Rattle.c_decl.specs.Headings.{declared_as, heading_of, is_typedef, linkage}
use Rattle.c_body.specs.Stmts.{body}

-- ---- the declarator of a function with a body

abbrev pub params_in : Derivation → Option (List Param)
params_in (by.Function ps) = Some ps
params_in _ = None

-- the parameters of the function that a declarator's name itself is: what it derives last is next to the name
abbrev pub own_params : List Derivation → Option (List Param)
own_params ds = option_and_then params_in (slice_get ds (length ds - 1))

-- the same behind what isn't `typedef`
abbrev pub defined_params : Heading → Formed → Option (List Param)
defined_params h f = cond (is_typedef h.storage) None (own_params f.derivations)

-- a body behind anything else
abbrev pub if_function : {A : Type 0} → Option (List Param) → Place → (List Param → Checked A) → Checked A
if_function (Some ps) place rest = rest ps
if_function None place rest = fault 27 place

-- ---- what holds of its heading

abbrev pub many_params : ℕ → Option ℕ
many_params params = cond (nat_lt 8 params) (Some 56) None

abbrev pub first_of : Option ℕ → Option ℕ → Option ℕ
first_of (Some code) other = Some code
first_of None other = other

-- the code of the first rule that it breaks: those of entry functions, and then the number of parameters
abbrev pub rule_broken : State → ℕ → Option ℕ
rule_broken st params = first_of (entry_rule st.is_entry params st.is_static) (many_params params)

abbrev pub unless : {A : Type 0} → Option ℕ → Place → Checked A → Checked A
unless (Some code) place rest = fault code place
unless None place rest = rest

-- ---- its parameters and its body

-- no block is open, and no function is at hand
abbrev pub outside : Tables → Tables
outside s = record s { blocks = []; block_tags = []; locals = [] }

abbrev pub with_param : List ℕ → CType → Tables → Tables
with_param [] t s = with_local [] t s
with_param (b ∷ bs) t s = with_named (b ∷ bs) t s

-- parameters in the scope of the body, one after another; their declarator told their faults
abbrev pub entered : List Param → Tables → Tables
entered [] s = s
entered (p ∷ ps) s = entered ps (with_param p.name p.ctype s)

-- around the body: one scope with the parameters
abbrev pub in_body : Bool → Around
in_body entry = record { scope = record { names = 0; tags = 0; locals = 0; is_file = false }; in_entry = entry }

abbrev pub gives_in : Look → CType
gives_in (shape.Function gives params nonsecure) = gives
gives_in _ = plain made.Void

-- what a function of this type gives
abbrev pub gives_of : CType → CType
gives_of t = gives_in (look t)

-- ---- the whole

-- so many of the locals are the parameters
abbrev pub function_of : Name → CType → State → ℕ → Stmt → List TLocal → TFunction
function_of name t st many x locals =
    record { name = name.text; unit = name.place.unit; ctype = t; entry = st.is_entry; is_static = st.is_static; params = take many locals; locals = drop many locals; body = x; place = name.place }

-- whether its placed locals have too many bytes; no type of a declared local is too large
abbrev pub is_too_large : TFunction → Bool
is_too_large f = all_fit f.locals && nat_lt 16384 (placed_bytes f)

-- nodes, slots, and bytes of placed locals
abbrev pub within_limits : TFunction → Checked TFunction
within_limits f =
    refuse (nat_lt 2000 (function_nodes f)) 50 f.place (
    refuse (nat_lt 900 (slots f)) 53 f.place (
    refuse (is_too_large f) 55 f.place (Ok f)))

abbrev pub with_body : Name → CType → State → List Param → Block → Step TFunction
with_body name t st ps b s =
    body b (gives_of t) (in_body st.is_entry) (entered ps (outside s)) >>> (λ x u. keeping (outside u) (within_limits (function_of name t st (length ps) x u.locals)))

abbrev pub state_of : Option Known → Place → Checked State
state_of (Some k) place = Ok k.state
state_of None place = fault 21 place

-- a function of this number, which is declared: its rules come before its body
abbrev pub function_made : ℕ → Name → CType → List Param → Block → Step TFunction
function_made n name t ps b s =
    state_of (slice_get s.externs n) name.place >>= (λ st. unless (rule_broken st (length ps)) name.place (with_body name t st ps b (define_function n s)))

abbrev pub function_declared : Heading → Name → Declared → List Param → Block → Step TFunction
function_declared h name d ps b s =
    attributed d.attributes on.Function d.ctype name.place >>= (λ t. declare_function name t (linkage h d.attributes) s >>> (λ n u. function_made n name t ps b u))

abbrev pub function_formed : Heading → Function → Formed → Step TFunction
function_formed h f it s =
    declared_as h f.declarator.name.place f.attrs it >>= (λ d.
    if_function (defined_params h it) f.declarator.name.place (λ ps.
    function_declared h f.declarator.name d ps f.body s))

-- a function with its body
abbrev pub defined : Function → Step TFunction
defined f s = heading_of true at_file f.specs s >>> (λ h u. forming f.declarator.form h.attributes at_file u >>> (λ it v. function_formed h f it v))
