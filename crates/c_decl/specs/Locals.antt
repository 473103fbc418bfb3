-- Declarations in blocks (C11 6.7, 6.8.2): one Declare for each local, with the elements that its initialiser sets.
use Rattle.std.specs.Prelude.{ℕ, Bool, false, cond, eqb, length, is_some, List, [], ◌∷◌, ◌++◌, Option, Some, None, Ok}
use Rattle.cm_base.specs.declared.place.Place.{Place}
use Rattle.c_ast.specs.declared.expr.Name.{Name}
use Rattle.c_ast.specs.declared.expr.Spec.{Spec}
use Rattle.c_ast.specs.declared.stmt.Decl.{Decl}
use Rattle.c_ast.specs.declared.stmt.Init.{Init}
use Rattle.c_ast.specs.declared.stmt.Initial.{Initial}
use Rattle.c_types.specs.Kind.{is_function}
use Rattle.c_types.specs.declared.ctype.CType.{CType}
use Rattle.c_tree.specs.declared.stmt.Stmt.{Stmt}
use Rattle.c_tree.specs.declared.stmt.Stmt.TheVariants as stmt
use Rattle.c_rows.specs.Answers.{◌>>=◌, fault}
use Rattle.cmse_rules.specs.declared.attributes.Subject.TheVariants.{Other}
use Rattle.c_scope.specs.Blocks.{complete_local, declare_local}
use Rattle.c_scope.specs.Steps.{Step, ◌>>>◌}
use Rattle.c_check.specs.declared.around.Around.{Around}
use Rattle.c_check.specs.Formed.{attributed}
use Rattle.c_init.specs.Initials.{initialise}
use Rattle.c_decl.specs.declared.headings.Declared.{Declared}
use Rattle.c_decl.specs.declared.headings.Heading.{Heading}
use Rattle.c_decl.specs.Headings.{bare, declared_by, heading_of}

-- the statement of a local that is declared: its elements are known in a second step, the local being known in it
abbrev pub local_value : ℕ → CType → Place → Option Initial → Around → Step Stmt
local_value n t place None around s = Ok (stmt.Declare n [], s)
local_value n t place (Some x) around s = initialise t x place around s >>> (λ it u. Ok (stmt.Declare n it.items, complete_local n it.ctype u))

abbrev pub local_made : Name → CType → Option Initial → Around → Step Stmt
local_made name t value around s = declare_local around.scope name t (is_some value) s >>> (λ n u. local_value n t name.place value around u)

-- no function is declared in a block
abbrev pub local_declared : Name → Declared → Option Initial → Around → Step Stmt
local_declared name d value around s =
    cond (is_function d.ctype) (fault 27 name.place)
    (attributed d.attributes Other d.ctype name.place >>= (λ t. local_made name t value around s))

abbrev pub local_init : Heading → Init → Around → Step Stmt
local_init h x around s = declared_by h x.declarator x.attrs around s >>> (λ d u. local_declared x.declarator.name d x.value around u)

abbrev pub local_inits : Heading → Around → List Stmt → List Init → Step (List Stmt)
local_inits h around done [] s = Ok (done, s)
local_inits h around done (x ∷ xs) s = local_init h x around s >>> (λ d u. local_inits h around (done ++ d ∷ []) xs u)

abbrev pub locals_of : List Spec → List Init → Around → Step (List Stmt)
locals_of specs inits around s =
    cond (eqb (length inits) 0) (bare false around specs s >>> (λ done u. Ok ([], u)))
    (heading_of false around specs s >>> (λ h u. local_inits h around [] inits u))

-- a declaration in a block, as the statements that it stands for
abbrev pub local_declaration : Decl → Around → Step (List Stmt)
local_declaration d around s = locals_of d.specs d.inits around s
