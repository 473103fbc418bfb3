-- The nesting of tokens. The nesting of a token is the number of assign, cond, cast, declarator, abstract, initial, struct and
-- stmt on its path in a derivation, and of each unary there that begins with "++", "--" or "sizeof". Here n of these may
-- still be entered. `deep_x d n` is the first token of d that is nested deeper, as the number of tokens from it to the end:
-- a counted part where none is left has it as its first token, and an abstract declarator may have no token.
use Rattle.std.specs.Prelude.{ℕ, zero, suc, List, length, Option, Some, None, if◌then◌else◌}
use Rattle.c_lex.specs.declared.token.Token.{Token}
use Rattle.c_ast.specs.declared.expr.Expr.{Expr}
use Rattle.c_ast.specs.declared.expr.Link.{Link}
use Rattle.c_ast.specs.declared.expr.Next.{Next as After}
use Rattle.c_ast.specs.declared.expr.Access.{Access}
use Rattle.c_ast.specs.declared.expr.TypeName.{TypeName}
use Rattle.c_ast.specs.declared.expr.Spec.{Spec}
use Rattle.c_ast.specs.declared.expr.StructSpec.{StructSpec}
use Rattle.c_ast.specs.declared.expr.Member.{Member}
use Rattle.c_ast.specs.declared.expr.EnumSpec.{EnumSpec}
use Rattle.c_ast.specs.declared.expr.Enumerator.{Enumerator}
use Rattle.c_ast.specs.declared.expr.Declarator.{Declarator}
use Rattle.c_ast.specs.declared.expr.Suffix.{Suffix}
use Rattle.c_ast.specs.declared.expr.Params.{Params}
use Rattle.c_ast.specs.declared.expr.Param.{Param}
use Rattle.c_ast.specs.declared.expr.Abstract.{Abstract}
use Rattle.c_ast.specs.declared.stmt.Initial.{Initial}
use Rattle.c_ast.specs.declared.stmt.Init.{Init}
use Rattle.c_ast.specs.declared.stmt.Decl.{Decl}
use Rattle.c_ast.specs.declared.stmt.First.{First}
use Rattle.c_ast.specs.declared.stmt.Label.{Label}
use Rattle.c_ast.specs.declared.stmt.Block.{Block}
use Rattle.c_ast.specs.declared.stmt.Item.{Item}
use Rattle.c_ast.specs.declared.stmt.Part.{Part}
use Rattle.c_ast.specs.declared.stmt.Stmt.{Stmt}
use Rattle.c_ast.specs.declared.stmt.Function.{Function}
use Rattle.c_ast.specs.declared.stmt.External.{External}
use Rattle.c_grammar.specs.Tokens.{begins_abstract}
use Rattle.c_grammar.specs.Grammar.{exprs, ExprAt, no_commas, next_comma, MoreCommas, no_expr, next_expr, MoreExprs, assigned, only_cond, Assign, chosen, only_binary, Cond, converted, only_unary, Cast, type_name, TypeNameAt, counted_unary, prefixed, only_postfix, Unary, step_before, a_sizeof, Stepped, sizeof_type, sizeof_expr, SizeofAt, postfixed, Postfix, no_access, next_access, Accesses, indexed, called, member_of, member_behind, step_after, AccessAt, some_args, no_args, Args, a_name, a_number, a_char, a_string, grouped, Primary, some_specs, SpecsAt, no_spec, next_spec, MoreSpecs, a_word, a_struct, an_enum, an_attr, a_type, SpecAt, struct_body, struct_tag, struct_plain, StructAt, braced_members, Members, no_member, next_member, MoreMembers, a_member, MemberAt, no_declarator, next_declarator, MoreDeclarators, enum_body, enum_tag, enum_plain, EnumAt, braced_enumrs, Enumrs, no_enumr, next_enumr, MoreEnumrs, enumr_value, enumr_plain, EnumrAt, plain_declarator, group_declarator, DeclaratorAt, no_suffix, next_suffix, Suffixes, array_suffix, params_suffix, SuffixAt, a_cond, no_cond, OptCond, void_only, some_params, no_params, ParamsAt, no_param, next_param, MoreParams, group_abstract, plain_abstract, AbstractAt, Binary, MoreOps, only_cast, binaries, no_op, next_op, ParamAt, named_param, unnamed_param}
use Rattle.c_grammar.specs.Units.{braced_initial, assign_initial, InitialAt, no_initial, next_initial, MoreInitials, init_value, init_plain, InitAt, no_init, next_init, MoreInits, bare_decl, inits_decl, DeclAt, an_expr, without_expr, OptExpr, first_decl, first_expr, FirstAt, case_label, default_label, LabelAt, braces, BlockAt, no_item, next_item, Items, decl_item, stmt_item, ItemAt, block_stmt, empty_stmt, return_stmt, break_stmt, continue_stmt, if_else, if_only, while_stmt, do_stmt, for_stmt, switch_stmt, expr_stmt, StmtAt, no_part, next_part, Parts, label_part, decl_part, stmt_part, PartAt, FunctionAt, a_function, UnitAt, unit_end, unit_include, unit_decl, unit_function}

abbrev pub earlier : Option ℕ → Option ℕ → Option ℕ
earlier None b = b
earlier (Some a) b = Some a

unfoldable mutual
  pub deep_expr : {names : List (List ℕ)} {ts rest : List Token} {a : Expr} → ExprAt names ts a rest → ℕ → Option ℕ
  deep_expr (exprs d0 d1) n = earlier (deep_assign d0 n) (deep_more_commas d1 n)

  pub deep_more_commas : {names : List (List ℕ)} {ts rest : List Token} {so_far all : List After} → MoreCommas names ts so_far all rest → ℕ → Option ℕ
  deep_more_commas no_commas n = None
  deep_more_commas (next_comma _ d1 m) n = earlier (deep_assign d1 n) (deep_more_commas m n)

  pub deep_more_exprs : {names : List (List ℕ)} {ts rest : List Token} {so_far all : List Expr} → MoreExprs names ts so_far all rest → ℕ → Option ℕ
  deep_more_exprs no_expr n = None
  deep_more_exprs (next_expr _ d1 m) n = earlier (deep_assign d1 n) (deep_more_exprs m n)

  pub deep_assign : {names : List (List ℕ)} {ts rest : List Token} {a : Expr} → Assign names ts a rest → ℕ → Option ℕ
  deep_assign {ts = ts} d zero = Some (length ts)
  deep_assign (assigned d0 _ d2) (suc n) = earlier (deep_cond d0 n) (deep_assign d2 n)
  deep_assign (only_cond d0) (suc n) = deep_cond d0 n

  pub deep_cond : {names : List (List ℕ)} {ts rest : List Token} {a : Expr} → Cond names ts a rest → ℕ → Option ℕ
  deep_cond {ts = ts} d zero = Some (length ts)
  deep_cond (chosen d0 _ d2 _ d4) (suc n) = earlier (deep_binary d0 n) (earlier (deep_expr d2 n) (deep_cond d4 n))
  deep_cond (only_binary d0) (suc n) = deep_binary d0 n

  pub deep_binary : {names : List (List ℕ)} {l : ℕ} {ts rest : List Token} {a : Expr} → Binary names l ts a rest → ℕ → Option ℕ
  deep_binary (only_cast d0) n = deep_cast d0 n
  deep_binary (binaries d0 m) n = earlier (deep_binary d0 n) (deep_more_ops m n)

  pub deep_more_ops : {names : List (List ℕ)} {l : ℕ} {ts rest : List Token} {so_far all : List Link} → MoreOps names l ts so_far all rest → ℕ → Option ℕ
  deep_more_ops no_op n = None
  deep_more_ops (next_op _ d1 m) n = earlier (deep_binary d1 n) (deep_more_ops m n)

  pub deep_cast : {names : List (List ℕ)} {ts rest : List Token} {a : Expr} → Cast names ts a rest → ℕ → Option ℕ
  deep_cast {ts = ts} d zero = Some (length ts)
  deep_cast (converted _ d1 _ d3) (suc n) = earlier (deep_typename d1 n) (deep_cast d3 n)
  deep_cast (only_unary d0) (suc n) = deep_unary d0 n

  pub deep_typename : {names : List (List ℕ)} {ts rest : List Token} {a : TypeName} → TypeNameAt names ts a rest → ℕ → Option ℕ
  deep_typename (type_name d0 d1) n = earlier (deep_specs d0 n) (deep_nameless d1 n)

  pub deep_unary : {names : List (List ℕ)} {ts rest : List Token} {a : Expr} → Unary names ts a rest → ℕ → Option ℕ
  deep_unary (counted_unary d0) n = deep_stepped d0 n
  deep_unary (prefixed _ d1) n = deep_cast d1 n
  deep_unary (only_postfix d0) n = deep_postfix d0 n

  pub deep_stepped : {names : List (List ℕ)} {ts rest : List Token} {a : Expr} → Stepped names ts a rest → ℕ → Option ℕ
  deep_stepped {ts = ts} d zero = Some (length ts)
  deep_stepped (step_before _ d1) (suc n) = deep_unary d1 n
  deep_stepped (a_sizeof d0) (suc n) = deep_size_of d0 n

  pub deep_size_of : {names : List (List ℕ)} {ts rest : List Token} {a : Expr} → SizeofAt names ts a rest → ℕ → Option ℕ
  deep_size_of (sizeof_type _ _ d2 _) n = deep_typename d2 n
  deep_size_of (sizeof_expr _ d1) n = deep_unary d1 n

  pub deep_postfix : {names : List (List ℕ)} {ts rest : List Token} {a : Expr} → Postfix names ts a rest → ℕ → Option ℕ
  deep_postfix (postfixed d0 d1) n = earlier (deep_primary d0 n) (deep_accesses d1 n)

  pub deep_accesses : {names : List (List ℕ)} {ts rest : List Token} {so_far all : List Access} → Accesses names ts so_far all rest → ℕ → Option ℕ
  deep_accesses no_access n = None
  deep_accesses (next_access d0 m) n = earlier (deep_access d0 n) (deep_accesses m n)

  pub deep_access : {names : List (List ℕ)} {ts rest : List Token} {a : Access} → AccessAt names ts a rest → ℕ → Option ℕ
  deep_access (indexed _ d1 _) n = deep_expr d1 n
  deep_access (called _ d1 _) n = deep_args d1 n
  deep_access (member_of _ _) n = None
  deep_access (member_behind _ _) n = None
  deep_access (step_after _) n = None

  pub deep_args : {names : List (List ℕ)} {ts rest : List Token} {a : List Expr} → Args names ts a rest → ℕ → Option ℕ
  deep_args (some_args d0 d1) n = earlier (deep_assign d0 n) (deep_more_exprs d1 n)
  deep_args no_args n = None

  pub deep_primary : {names : List (List ℕ)} {ts rest : List Token} {a : Expr} → Primary names ts a rest → ℕ → Option ℕ
  deep_primary (a_name _) n = None
  deep_primary (a_number _) n = None
  deep_primary (a_char _) n = None
  deep_primary (a_string _) n = None
  deep_primary (grouped _ d1 _) n = deep_expr d1 n

  pub deep_specs : {names : List (List ℕ)} {ts rest : List Token} {a : List Spec} → SpecsAt names ts a rest → ℕ → Option ℕ
  deep_specs (some_specs d0 d1) n = earlier (deep_spec d0 n) (deep_more_specs d1 n)

  pub deep_more_specs : {names : List (List ℕ)} {ts rest : List Token} {so_far all : List Spec} → MoreSpecs names ts so_far all rest → ℕ → Option ℕ
  deep_more_specs (no_spec _) n = None
  deep_more_specs (next_spec d0 m) n = earlier (deep_spec d0 n) (deep_more_specs m n)

  pub deep_spec : {names : List (List ℕ)} {ts rest : List Token} {a : Spec} → SpecAt names ts a rest → ℕ → Option ℕ
  deep_spec (a_word _) n = None
  deep_spec (a_struct d0) n = deep_structs d0 n
  deep_spec (an_enum d0) n = deep_enums d0 n
  deep_spec (an_attr _) n = None
  deep_spec (a_type _) n = None

  pub deep_structs : {names : List (List ℕ)} {ts rest : List Token} {a : StructSpec} → StructAt names ts a rest → ℕ → Option ℕ
  deep_structs {ts = ts} d zero = Some (length ts)
  deep_structs (struct_body _ _ d2) (suc n) = deep_members d2 n
  deep_structs (struct_tag _ _ _) (suc n) = None
  deep_structs (struct_plain _ d1) (suc n) = deep_members d1 n

  pub deep_members : {names : List (List ℕ)} {ts rest : List Token} {a : List Member} → Members names ts a rest → ℕ → Option ℕ
  deep_members (braced_members _ d1 d2 _) n = earlier (deep_member d1 n) (deep_more_members d2 n)

  pub deep_more_members : {names : List (List ℕ)} {ts rest : List Token} {so_far all : List Member} → MoreMembers names ts so_far all rest → ℕ → Option ℕ
  deep_more_members no_member n = None
  deep_more_members (next_member d0 m) n = earlier (deep_member d0 n) (deep_more_members m n)

  pub deep_member : {names : List (List ℕ)} {ts rest : List Token} {a : Member} → MemberAt names ts a rest → ℕ → Option ℕ
  deep_member (a_member d0 d1 d2 _) n = earlier (deep_specs d0 n) (earlier (deep_declarator d1 n) (deep_more_declarators d2 n))

  pub deep_more_declarators : {names : List (List ℕ)} {ts rest : List Token} {so_far all : List Declarator} → MoreDeclarators names ts so_far all rest → ℕ → Option ℕ
  deep_more_declarators no_declarator n = None
  deep_more_declarators (next_declarator _ d1 m) n = earlier (deep_declarator d1 n) (deep_more_declarators m n)

  pub deep_enums : {names : List (List ℕ)} {ts rest : List Token} {a : EnumSpec} → EnumAt names ts a rest → ℕ → Option ℕ
  deep_enums (enum_body _ _ d2) n = deep_enumrs d2 n
  deep_enums (enum_tag _ _ _) n = None
  deep_enums (enum_plain _ d1) n = deep_enumrs d1 n

  pub deep_enumrs : {names : List (List ℕ)} {ts rest : List Token} {a : List Enumerator} → Enumrs names ts a rest → ℕ → Option ℕ
  deep_enumrs (braced_enumrs _ d1 d2 _ _) n = earlier (deep_enumr d1 n) (deep_more_enumrs d2 n)

  pub deep_more_enumrs : {names : List (List ℕ)} {ts rest : List Token} {so_far all : List Enumerator} → MoreEnumrs names ts so_far all rest → ℕ → Option ℕ
  deep_more_enumrs no_enumr n = None
  deep_more_enumrs (next_enumr _ d1 m) n = earlier (deep_enumr d1 n) (deep_more_enumrs m n)

  pub deep_enumr : {names : List (List ℕ)} {ts rest : List Token} {a : Enumerator} → EnumrAt names ts a rest → ℕ → Option ℕ
  deep_enumr (enumr_value _ _ d2) n = deep_cond d2 n
  deep_enumr (enumr_plain _) n = None

  pub deep_declarator : {names : List (List ℕ)} {ts rest : List Token} {a : Declarator} → DeclaratorAt names ts a rest → ℕ → Option ℕ
  deep_declarator {ts = ts} d zero = Some (length ts)
  deep_declarator (plain_declarator _ _ d2) (suc n) = deep_suffixes d2 n
  deep_declarator (group_declarator _ _ d2 _ d4) (suc n) = earlier (deep_declarator d2 n) (deep_suffixes d4 n)

  pub deep_suffixes : {names : List (List ℕ)} {ts rest : List Token} {so_far all : List Suffix} → Suffixes names ts so_far all rest → ℕ → Option ℕ
  deep_suffixes no_suffix n = None
  deep_suffixes (next_suffix d0 m) n = earlier (deep_suffix d0 n) (deep_suffixes m n)

  pub deep_suffix : {names : List (List ℕ)} {ts rest : List Token} {a : Suffix} → SuffixAt names ts a rest → ℕ → Option ℕ
  deep_suffix (array_suffix _ d1 _) n = deep_opt_cond d1 n
  deep_suffix (params_suffix _ d1 _) n = deep_params d1 n

  pub deep_opt_cond : {names : List (List ℕ)} {ts rest : List Token} {a : Option Expr} → OptCond names ts a rest → ℕ → Option ℕ
  deep_opt_cond (a_cond d0) n = deep_cond d0 n
  deep_opt_cond no_cond n = None

  pub deep_params : {names : List (List ℕ)} {ts rest : List Token} {a : Params} → ParamsAt names ts a rest → ℕ → Option ℕ
  deep_params (void_only _) n = None
  deep_params (some_params _ d0 d1) n = earlier (deep_param d0 n) (deep_more_params d1 n)
  deep_params no_params n = None

  pub deep_more_params : {names : List (List ℕ)} {ts rest : List Token} {so_far all : List Param} → MoreParams names ts so_far all rest → ℕ → Option ℕ
  deep_more_params no_param n = None
  deep_more_params (next_param _ d1 m) n = earlier (deep_param d1 n) (deep_more_params m n)

  pub deep_param : {names : List (List ℕ)} {ts rest : List Token} {a : Param} → ParamAt names ts a rest → ℕ → Option ℕ
  deep_param (named_param d0 d1) n = earlier (deep_specs d0 n) (deep_declarator d1 n)
  deep_param (unnamed_param d0 d1) n = earlier (deep_specs d0 n) (deep_nameless d1 n)

  pub deep_nameless : {names : List (List ℕ)} {ts rest : List Token} {a : Abstract} → AbstractAt names ts a rest → ℕ → Option ℕ
  deep_nameless {ts = ts} d zero = if begins_abstract ts then Some (length ts) else None
  deep_nameless (group_abstract _ _ _ d2 _ d4) (suc n) = earlier (deep_nameless d2 n) (deep_suffixes d4 n)
  deep_nameless (plain_abstract _ _ d1) (suc n) = deep_suffixes d1 n

unfoldable mutual
  pub deep_initial : {names : List (List ℕ)} {ts rest : List Token} {a : Initial} → InitialAt names ts a rest → ℕ → Option ℕ
  deep_initial {ts = ts} d zero = Some (length ts)
  deep_initial (braced_initial _ d1 d2 _ _) (suc n) = earlier (deep_initial d1 n) (deep_more_initials d2 n)
  deep_initial (assign_initial d0) (suc n) = deep_assign d0 n

  pub deep_more_initials : {names : List (List ℕ)} {ts rest : List Token} {so_far all : List Initial} → MoreInitials names ts so_far all rest → ℕ → Option ℕ
  deep_more_initials no_initial n = None
  deep_more_initials (next_initial _ d1 m) n = earlier (deep_initial d1 n) (deep_more_initials m n)

unfoldable pub deep_init : {names : List (List ℕ)} {ts rest : List Token} {a : Init} → InitAt names ts a rest → ℕ → Option ℕ
deep_init (init_value d0 _ _ d3) n = earlier (deep_declarator d0 n) (deep_initial d3 n)
deep_init (init_plain d0 _) n = deep_declarator d0 n

unfoldable pub deep_more_inits : {names : List (List ℕ)} {ts rest : List Token} {so_far all : List Init} → MoreInits names ts so_far all rest → ℕ → Option ℕ
deep_more_inits no_init n = None
deep_more_inits (next_init _ d1 m) n = earlier (deep_init d1 n) (deep_more_inits m n)

unfoldable pub deep_decl : {names : List (List ℕ)} {ts rest : List Token} {a : Decl} → DeclAt names ts a rest → ℕ → Option ℕ
deep_decl (bare_decl d0 _) n = deep_specs d0 n
deep_decl (inits_decl d0 d1 d2 _) n = earlier (deep_specs d0 n) (earlier (deep_init d1 n) (deep_more_inits d2 n))

unfoldable pub deep_opt_expr : {names : List (List ℕ)} {ts rest : List Token} {a : Option Expr} → OptExpr names ts a rest → ℕ → Option ℕ
deep_opt_expr (an_expr d0) n = deep_expr d0 n
deep_opt_expr without_expr n = None

unfoldable pub deep_first : {names : List (List ℕ)} {ts rest : List Token} {a : First} → FirstAt names ts a rest → ℕ → Option ℕ
deep_first (first_decl d0) n = deep_decl d0 n
deep_first (first_expr d0 _) n = deep_opt_expr d0 n

unfoldable pub deep_label : {names : List (List ℕ)} {ts rest : List Token} {a : Label} → LabelAt names ts a rest → ℕ → Option ℕ
deep_label (case_label _ d1 _) n = deep_cond d1 n
deep_label (default_label _ _) n = None

unfoldable mutual
  pub deep_block : {names : List (List ℕ)} {ts rest : List Token} {a : Block} → BlockAt names ts a rest → ℕ → Option ℕ
  deep_block (braces _ d1 _) n = deep_items d1 n

  pub deep_items : {names : List (List ℕ)} {ts rest : List Token} {so_far all : List Item} → Items names ts so_far all rest → ℕ → Option ℕ
  deep_items no_item n = None
  deep_items (next_item d0 m) n = earlier (deep_item d0 n) (deep_items m n)

  pub deep_item : {names : List (List ℕ)} {ts rest : List Token} {a : Item} → ItemAt names ts a rest → ℕ → Option ℕ
  deep_item (decl_item d0) n = deep_decl d0 n
  deep_item (stmt_item d0) n = deep_stmt d0 n

  pub deep_stmt : {names : List (List ℕ)} {ts rest : List Token} {a : Stmt} → StmtAt names ts a rest → ℕ → Option ℕ
  deep_stmt {ts = ts} d zero = Some (length ts)
  deep_stmt (block_stmt d0) (suc n) = deep_block d0 n
  deep_stmt (empty_stmt _) (suc n) = None
  deep_stmt (return_stmt _ d1 _) (suc n) = deep_opt_expr d1 n
  deep_stmt (break_stmt _ _) (suc n) = None
  deep_stmt (continue_stmt _ _) (suc n) = None
  deep_stmt (if_else _ _ d2 _ d4 _ d6) (suc n) = earlier (deep_expr d2 n) (earlier (deep_stmt d4 n) (deep_stmt d6 n))
  deep_stmt (if_only _ _ d2 _ d4 _) (suc n) = earlier (deep_expr d2 n) (deep_stmt d4 n)
  deep_stmt (while_stmt _ _ d2 _ d4) (suc n) = earlier (deep_expr d2 n) (deep_stmt d4 n)
  deep_stmt (do_stmt _ d1 _ _ d4 _ _) (suc n) = earlier (deep_stmt d1 n) (deep_expr d4 n)
  deep_stmt (for_stmt _ _ d2 d3 _ d5 _ d7) (suc n) = earlier (deep_first d2 n) (earlier (deep_opt_expr d3 n) (earlier (deep_opt_expr d5 n) (deep_stmt d7 n)))
  deep_stmt (switch_stmt _ _ d2 _ _ d5 _) (suc n) = earlier (deep_expr d2 n) (deep_parts d5 n)
  deep_stmt (expr_stmt d0 _) (suc n) = deep_expr d0 n

  pub deep_parts : {names : List (List ℕ)} {ts rest : List Token} {so_far all : List Part} → Parts names ts so_far all rest → ℕ → Option ℕ
  deep_parts no_part n = None
  deep_parts (next_part d0 m) n = earlier (deep_part d0 n) (deep_parts m n)

  pub deep_part : {names : List (List ℕ)} {ts rest : List Token} {a : Part} → PartAt names ts a rest → ℕ → Option ℕ
  deep_part (label_part d0) n = deep_label d0 n
  deep_part (decl_part d0) n = deep_decl d0 n
  deep_part (stmt_part d0) n = deep_stmt d0 n

unfoldable pub deep_function : {names : List (List ℕ)} {ts rest : List Token} {f : Function} → FunctionAt names ts f rest → ℕ → Option ℕ
deep_function (a_function d0 d1 _ d3) n = earlier (deep_specs d0 n) (earlier (deep_declarator d1 n) (deep_block d3 n))

unfoldable pub deep_unit : {names : List (List ℕ)} {ts : List Token} {so_far all : List External} → UnitAt names ts so_far all → ℕ → Option ℕ
deep_unit unit_end n = None
deep_unit (unit_include _ m) n = deep_unit m n
deep_unit (unit_decl d m) n = earlier (deep_decl d n) (deep_unit m n)
deep_unit (unit_function d m) n = earlier (deep_function d n) (deep_unit m n)
