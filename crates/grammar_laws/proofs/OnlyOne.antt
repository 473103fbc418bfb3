-- With levels enough no token is nested too deeply, so the tokens derive one unit at most.
use Rattle.std.proofs.Common.{List, None, Option, Some, [], ap, arith, refl, suc, sym, zero, ℕ, ◌≡◌, ◌≤◌, ◌+◌, ◌∙◌}
use Rattle.c_lex.specs.declared.token.Token.{Token}
use Rattle.c_ast.specs.declared.expr.Expr.{Expr}
use Rattle.c_ast.specs.declared.expr.Link.{Link}
use Rattle.c_ast.specs.declared.expr.Next.{Next as After}
use Rattle.c_ast.specs.declared.expr.Access.{Access}
use Rattle.c_ast.specs.declared.expr.TypeName.{TypeName}
use Rattle.c_ast.specs.declared.expr.Spec.{Spec}
use Rattle.c_ast.specs.declared.expr.StructSpec.{StructSpec}
use Rattle.c_ast.specs.declared.expr.Member.{Member}
use Rattle.c_ast.specs.declared.expr.EnumSpec.{EnumSpec}
use Rattle.c_ast.specs.declared.expr.Enumerator.{Enumerator}
use Rattle.c_ast.specs.declared.expr.Declarator.{Declarator}
use Rattle.c_ast.specs.declared.expr.Suffix.{Suffix}
use Rattle.c_ast.specs.declared.expr.Params.{Params}
use Rattle.c_ast.specs.declared.expr.Param.{Param}
use Rattle.c_ast.specs.declared.expr.Abstract.{Abstract}
use Rattle.c_ast.specs.declared.stmt.Initial.{Initial}
use Rattle.c_ast.specs.declared.stmt.Init.{Init}
use Rattle.c_ast.specs.declared.stmt.Decl.{Decl}
use Rattle.c_ast.specs.declared.stmt.First.{First}
use Rattle.c_ast.specs.declared.stmt.Label.{Label}
use Rattle.c_ast.specs.declared.stmt.Block.{Block}
use Rattle.c_ast.specs.declared.stmt.Item.{Item}
use Rattle.c_ast.specs.declared.stmt.Part.{Part}
use Rattle.c_ast.specs.declared.stmt.Stmt.{Stmt}
use Rattle.c_ast.specs.declared.stmt.Function.{Function}
use Rattle.c_ast.specs.declared.stmt.External.{External}
use Rattle.c_grammar.specs.Grammar.{AbstractAt, AccessAt, Accesses, Args, Assign, Binary, Cast, Cond, DeclaratorAt, EnumAt, EnumrAt, Enumrs, ExprAt, MemberAt, Members, MoreCommas, MoreDeclarators, MoreEnumrs, MoreExprs, MoreMembers, MoreOps, MoreParams, MoreSpecs, OptCond, ParamAt, ParamsAt, Postfix, Primary, SizeofAt, SpecAt, SpecsAt, Stepped, StructAt, SuffixAt, Suffixes, TypeNameAt, Unary, a_char, a_cond, a_member, a_name, a_number, a_sizeof, a_string, a_struct, a_type, a_word, an_attr, an_enum, array_suffix, assigned, binaries, braced_enumrs, braced_members, called, chosen, converted, counted_unary, enum_body, enum_plain, enum_tag, enumr_plain, enumr_value, exprs, group_abstract, group_declarator, grouped, indexed, member_behind, member_of, named_param, next_access, next_comma, next_declarator, next_enumr, next_expr, next_member, next_op, next_param, next_spec, next_suffix, no_access, no_args, no_commas, no_cond, no_declarator, no_enumr, no_expr, no_member, no_op, no_param, no_params, no_spec, no_suffix, only_binary, only_cast, only_cond, only_postfix, only_unary, params_suffix, plain_abstract, plain_declarator, postfixed, prefixed, sizeof_expr, sizeof_type, some_args, some_params, some_specs, step_after, step_before, struct_body, struct_plain, struct_tag, type_name, unnamed_param, void_only}
use Rattle.c_grammar.specs.Units.{BlockAt, DeclAt, Derives, FirstAt, FunctionAt, InitAt, InitialAt, ItemAt, Items, LabelAt, MoreInitials, MoreInits, OptExpr, PartAt, Parts, StmtAt, UnitAt, a_function, an_expr, assign_initial, bare_decl, block_stmt, braced_initial, braces, break_stmt, case_label, continue_stmt, decl_item, decl_part, default_label, do_stmt, empty_stmt, expr_stmt, first_decl, first_expr, for_stmt, if_else, if_only, init_plain, init_value, inits_decl, label_part, next_init, next_initial, next_item, next_part, no_init, no_initial, no_item, no_part, return_stmt, stmt_item, stmt_part, switch_stmt, unit_decl, unit_end, unit_function, unit_include, while_stmt, without_expr}
use Rattle.c_grammar.specs.Nesting.{deep_access, deep_accesses, deep_args, deep_assign, deep_binary, deep_block, deep_cast, deep_cond, deep_decl, deep_declarator, deep_enumr, deep_enumrs, deep_enums, deep_expr, deep_first, deep_function, deep_init, deep_initial, deep_item, deep_items, deep_label, deep_member, deep_members, deep_more_commas, deep_more_declarators, deep_more_enumrs, deep_more_exprs, deep_more_initials, deep_more_inits, deep_more_members, deep_more_ops, deep_more_params, deep_more_specs, deep_nameless, deep_opt_cond, deep_opt_expr, deep_param, deep_params, deep_part, deep_parts, deep_postfix, deep_primary, deep_size_of, deep_spec, deep_specs, deep_stepped, deep_stmt, deep_structs, deep_suffix, deep_suffixes, deep_typename, deep_unary, deep_unit, earlier}
use Rattle.grammar_laws.proofs.UnitComplete.{unit_read}
use Rattle.grammar_laws.proofs.Steps.{answer}

pub record Shallow (f : ℕ → Option ℕ) : Type 0 where
  pub levels_enough : ℕ
  pub fits : (n : ℕ) → levels_enough ≤ n → f n ≡ None

no_level : Shallow (λ n. None)
no_level = record { levels_enough = 0; fits = λ n h. refl }

both : {f g : ℕ → Option ℕ} → Shallow f → Shallow g → Shallow (λ n. earlier (f n) (g n))
both {f = f} {g = g} p q = record { levels_enough = p.levels_enough + q.levels_enough; fits = λ n h. rw (p.fits n (omega (arith, h)), q.fits n (omega (arith, h))) refl }

deeper_fits : (g : ℕ → Option ℕ) (m : ℕ) → ((n : ℕ) → m ≤ n → g (suc n) ≡ None) → (n : ℕ) → suc m ≤ n → g n ≡ None
deeper_fits g m p zero h = absurd (omega (arith, h))
deeper_fits g m p (suc n) h = p n (omega (arith, h))

deeper : (g : ℕ → Option ℕ) → Shallow (λ n. g (suc n)) → Shallow g
deeper g p = record { levels_enough = suc p.levels_enough; fits = deeper_fits g p.levels_enough (λ n h. p.fits n h) }

mutual
  unfolding deep_expr

  pub shallow_expr : {names : List (List ℕ)} {ts rest : List Token} {a : Expr} (d : ExprAt names ts a rest) → Shallow (λ n. deep_expr d n)
  shallow_expr (exprs d0 d1) = both (shallow_assign d0) (shallow_more_commas d1)

  pub shallow_more_commas : {names : List (List ℕ)} {ts rest : List Token} {so_far all : List After} (d : MoreCommas names ts so_far all rest) → Shallow (λ n. deep_more_commas d n)
  shallow_more_commas no_commas = no_level
  shallow_more_commas (next_comma _ d1 m) = both (shallow_assign d1) (shallow_more_commas m)

  pub shallow_more_exprs : {names : List (List ℕ)} {ts rest : List Token} {so_far all : List Expr} (d : MoreExprs names ts so_far all rest) → Shallow (λ n. deep_more_exprs d n)
  shallow_more_exprs no_expr = no_level
  shallow_more_exprs (next_expr _ d1 m) = both (shallow_assign d1) (shallow_more_exprs m)

  pub shallow_assign : {names : List (List ℕ)} {ts rest : List Token} {a : Expr} (d : Assign names ts a rest) → Shallow (λ n. deep_assign d n)
  shallow_assign (assigned d0 y0 d2) = deeper (λ n. deep_assign (assigned d0 y0 d2) n) (both (shallow_cond d0) (shallow_assign d2))
  shallow_assign (only_cond d0) = deeper (λ n. deep_assign (only_cond d0) n) (shallow_cond d0)

  pub shallow_cond : {names : List (List ℕ)} {ts rest : List Token} {a : Expr} (d : Cond names ts a rest) → Shallow (λ n. deep_cond d n)
  shallow_cond (chosen d0 y0 d2 y1 d4) = deeper (λ n. deep_cond (chosen d0 y0 d2 y1 d4) n) (both (shallow_binary d0) (both (shallow_expr d2) (shallow_cond d4)))
  shallow_cond (only_binary d0) = deeper (λ n. deep_cond (only_binary d0) n) (shallow_binary d0)

  pub shallow_binary : {names : List (List ℕ)} {l : ℕ} {ts rest : List Token} {a : Expr} (d : Binary names l ts a rest) → Shallow (λ n. deep_binary d n)
  shallow_binary (only_cast d0) = shallow_cast d0
  shallow_binary (binaries d0 m) = both (shallow_binary d0) (shallow_more_ops m)

  pub shallow_more_ops : {names : List (List ℕ)} {l : ℕ} {ts rest : List Token} {so_far all : List Link} (d : MoreOps names l ts so_far all rest) → Shallow (λ n. deep_more_ops d n)
  shallow_more_ops no_op = no_level
  shallow_more_ops (next_op _ d1 m) = both (shallow_binary d1) (shallow_more_ops m)

  pub shallow_cast : {names : List (List ℕ)} {ts rest : List Token} {a : Expr} (d : Cast names ts a rest) → Shallow (λ n. deep_cast d n)
  shallow_cast (converted y0 d1 y1 d3) = deeper (λ n. deep_cast (converted y0 d1 y1 d3) n) (both (shallow_typename d1) (shallow_cast d3))
  shallow_cast (only_unary d0) = deeper (λ n. deep_cast (only_unary d0) n) (shallow_unary d0)

  pub shallow_typename : {names : List (List ℕ)} {ts rest : List Token} {a : TypeName} (d : TypeNameAt names ts a rest) → Shallow (λ n. deep_typename d n)
  shallow_typename (type_name d0 d1) = both (shallow_specs d0) (shallow_nameless d1)

  pub shallow_unary : {names : List (List ℕ)} {ts rest : List Token} {a : Expr} (d : Unary names ts a rest) → Shallow (λ n. deep_unary d n)
  shallow_unary (counted_unary d0) = shallow_stepped d0
  shallow_unary (prefixed _ d1) = shallow_cast d1
  shallow_unary (only_postfix d0) = shallow_postfix d0

  pub shallow_stepped : {names : List (List ℕ)} {ts rest : List Token} {a : Expr} (d : Stepped names ts a rest) → Shallow (λ n. deep_stepped d n)
  shallow_stepped (step_before y0 d1) = deeper (λ n. deep_stepped (step_before y0 d1) n) (shallow_unary d1)
  shallow_stepped (a_sizeof d0) = deeper (λ n. deep_stepped (a_sizeof d0) n) (shallow_size_of d0)

  pub shallow_size_of : {names : List (List ℕ)} {ts rest : List Token} {a : Expr} (d : SizeofAt names ts a rest) → Shallow (λ n. deep_size_of d n)
  shallow_size_of (sizeof_type _ _ d2 _) = shallow_typename d2
  shallow_size_of (sizeof_expr _ d1) = shallow_unary d1

  pub shallow_postfix : {names : List (List ℕ)} {ts rest : List Token} {a : Expr} (d : Postfix names ts a rest) → Shallow (λ n. deep_postfix d n)
  shallow_postfix (postfixed d0 d1) = both (shallow_primary d0) (shallow_accesses d1)

  pub shallow_accesses : {names : List (List ℕ)} {ts rest : List Token} {so_far all : List Access} (d : Accesses names ts so_far all rest) → Shallow (λ n. deep_accesses d n)
  shallow_accesses no_access = no_level
  shallow_accesses (next_access d0 m) = both (shallow_access d0) (shallow_accesses m)

  pub shallow_access : {names : List (List ℕ)} {ts rest : List Token} {a : Access} (d : AccessAt names ts a rest) → Shallow (λ n. deep_access d n)
  shallow_access (indexed _ d1 _) = shallow_expr d1
  shallow_access (called _ d1 _) = shallow_args d1
  shallow_access (member_of _ _) = no_level
  shallow_access (member_behind _ _) = no_level
  shallow_access (step_after _) = no_level

  pub shallow_args : {names : List (List ℕ)} {ts rest : List Token} {a : List Expr} (d : Args names ts a rest) → Shallow (λ n. deep_args d n)
  shallow_args (some_args d0 d1) = both (shallow_assign d0) (shallow_more_exprs d1)
  shallow_args no_args = no_level

  pub shallow_primary : {names : List (List ℕ)} {ts rest : List Token} {a : Expr} (d : Primary names ts a rest) → Shallow (λ n. deep_primary d n)
  shallow_primary (a_name _) = no_level
  shallow_primary (a_number _) = no_level
  shallow_primary (a_char _) = no_level
  shallow_primary (a_string _) = no_level
  shallow_primary (grouped _ d1 _) = shallow_expr d1

  pub shallow_specs : {names : List (List ℕ)} {ts rest : List Token} {a : List Spec} (d : SpecsAt names ts a rest) → Shallow (λ n. deep_specs d n)
  shallow_specs (some_specs d0 d1) = both (shallow_spec d0) (shallow_more_specs d1)

  pub shallow_more_specs : {names : List (List ℕ)} {ts rest : List Token} {so_far all : List Spec} (d : MoreSpecs names ts so_far all rest) → Shallow (λ n. deep_more_specs d n)
  shallow_more_specs (no_spec _) = no_level
  shallow_more_specs (next_spec d0 m) = both (shallow_spec d0) (shallow_more_specs m)

  pub shallow_spec : {names : List (List ℕ)} {ts rest : List Token} {a : Spec} (d : SpecAt names ts a rest) → Shallow (λ n. deep_spec d n)
  shallow_spec (a_word _) = no_level
  shallow_spec (a_struct d0) = shallow_structs d0
  shallow_spec (an_enum d0) = shallow_enums d0
  shallow_spec (an_attr _) = no_level
  shallow_spec (a_type _) = no_level

  pub shallow_structs : {names : List (List ℕ)} {ts rest : List Token} {a : StructSpec} (d : StructAt names ts a rest) → Shallow (λ n. deep_structs d n)
  shallow_structs (struct_body y0 y1 d2) = deeper (λ n. deep_structs (struct_body y0 y1 d2) n) (shallow_members d2)
  shallow_structs (struct_tag y0 y1 y2) = deeper (λ n. deep_structs (struct_tag y0 y1 y2) n) no_level
  shallow_structs (struct_plain y0 d1) = deeper (λ n. deep_structs (struct_plain y0 d1) n) (shallow_members d1)

  pub shallow_members : {names : List (List ℕ)} {ts rest : List Token} {a : List Member} (d : Members names ts a rest) → Shallow (λ n. deep_members d n)
  shallow_members (braced_members _ d1 d2 _) = both (shallow_member d1) (shallow_more_members d2)

  pub shallow_more_members : {names : List (List ℕ)} {ts rest : List Token} {so_far all : List Member} (d : MoreMembers names ts so_far all rest) → Shallow (λ n. deep_more_members d n)
  shallow_more_members no_member = no_level
  shallow_more_members (next_member d0 m) = both (shallow_member d0) (shallow_more_members m)

  pub shallow_member : {names : List (List ℕ)} {ts rest : List Token} {a : Member} (d : MemberAt names ts a rest) → Shallow (λ n. deep_member d n)
  shallow_member (a_member d0 d1 d2 _) = both (shallow_specs d0) (both (shallow_declarator d1) (shallow_more_declarators d2))

  pub shallow_more_declarators : {names : List (List ℕ)} {ts rest : List Token} {so_far all : List Declarator} (d : MoreDeclarators names ts so_far all rest) → Shallow (λ n. deep_more_declarators d n)
  shallow_more_declarators no_declarator = no_level
  shallow_more_declarators (next_declarator _ d1 m) = both (shallow_declarator d1) (shallow_more_declarators m)

  pub shallow_enums : {names : List (List ℕ)} {ts rest : List Token} {a : EnumSpec} (d : EnumAt names ts a rest) → Shallow (λ n. deep_enums d n)
  shallow_enums (enum_body _ _ d2) = shallow_enumrs d2
  shallow_enums (enum_tag _ _ _) = no_level
  shallow_enums (enum_plain _ d1) = shallow_enumrs d1

  pub shallow_enumrs : {names : List (List ℕ)} {ts rest : List Token} {a : List Enumerator} (d : Enumrs names ts a rest) → Shallow (λ n. deep_enumrs d n)
  shallow_enumrs (braced_enumrs _ d1 d2 _ _) = both (shallow_enumr d1) (shallow_more_enumrs d2)

  pub shallow_more_enumrs : {names : List (List ℕ)} {ts rest : List Token} {so_far all : List Enumerator} (d : MoreEnumrs names ts so_far all rest) → Shallow (λ n. deep_more_enumrs d n)
  shallow_more_enumrs no_enumr = no_level
  shallow_more_enumrs (next_enumr _ d1 m) = both (shallow_enumr d1) (shallow_more_enumrs m)

  pub shallow_enumr : {names : List (List ℕ)} {ts rest : List Token} {a : Enumerator} (d : EnumrAt names ts a rest) → Shallow (λ n. deep_enumr d n)
  shallow_enumr (enumr_value _ _ d2) = shallow_cond d2
  shallow_enumr (enumr_plain _) = no_level

  pub shallow_declarator : {names : List (List ℕ)} {ts rest : List Token} {a : Declarator} (d : DeclaratorAt names ts a rest) → Shallow (λ n. deep_declarator d n)
  shallow_declarator (plain_declarator y0 y1 d2) = deeper (λ n. deep_declarator (plain_declarator y0 y1 d2) n) (shallow_suffixes d2)
  shallow_declarator (group_declarator y0 y1 d2 y2 d4) = deeper (λ n. deep_declarator (group_declarator y0 y1 d2 y2 d4) n) (both (shallow_declarator d2) (shallow_suffixes d4))

  pub shallow_suffixes : {names : List (List ℕ)} {ts rest : List Token} {so_far all : List Suffix} (d : Suffixes names ts so_far all rest) → Shallow (λ n. deep_suffixes d n)
  shallow_suffixes no_suffix = no_level
  shallow_suffixes (next_suffix d0 m) = both (shallow_suffix d0) (shallow_suffixes m)

  pub shallow_suffix : {names : List (List ℕ)} {ts rest : List Token} {a : Suffix} (d : SuffixAt names ts a rest) → Shallow (λ n. deep_suffix d n)
  shallow_suffix (array_suffix _ d1 _) = shallow_opt_cond d1
  shallow_suffix (params_suffix _ d1 _) = shallow_params d1

  pub shallow_opt_cond : {names : List (List ℕ)} {ts rest : List Token} {a : Option Expr} (d : OptCond names ts a rest) → Shallow (λ n. deep_opt_cond d n)
  shallow_opt_cond (a_cond d0) = shallow_cond d0
  shallow_opt_cond no_cond = no_level

  pub shallow_params : {names : List (List ℕ)} {ts rest : List Token} {a : Params} (d : ParamsAt names ts a rest) → Shallow (λ n. deep_params d n)
  shallow_params (void_only _) = no_level
  shallow_params (some_params _ d0 d1) = both (shallow_param d0) (shallow_more_params d1)
  shallow_params no_params = no_level

  pub shallow_more_params : {names : List (List ℕ)} {ts rest : List Token} {so_far all : List Param} (d : MoreParams names ts so_far all rest) → Shallow (λ n. deep_more_params d n)
  shallow_more_params no_param = no_level
  shallow_more_params (next_param _ d1 m) = both (shallow_param d1) (shallow_more_params m)

  pub shallow_param : {names : List (List ℕ)} {ts rest : List Token} {a : Param} (d : ParamAt names ts a rest) → Shallow (λ n. deep_param d n)
  shallow_param (named_param d0 d1) = both (shallow_specs d0) (shallow_declarator d1)
  shallow_param (unnamed_param d0 d1) = both (shallow_specs d0) (shallow_nameless d1)

  pub shallow_nameless : {names : List (List ℕ)} {ts rest : List Token} {a : Abstract} (d : AbstractAt names ts a rest) → Shallow (λ n. deep_nameless d n)
  shallow_nameless (group_abstract y0 y1 y2 d2 y3 d4) = deeper (λ n. deep_nameless (group_abstract y0 y1 y2 d2 y3 d4) n) (both (shallow_nameless d2) (shallow_suffixes d4))
  shallow_nameless (plain_abstract y0 y1 d1) = deeper (λ n. deep_nameless (plain_abstract y0 y1 d1) n) (shallow_suffixes d1)

mutual
  unfolding deep_initial

  pub shallow_initial : {names : List (List ℕ)} {ts rest : List Token} {a : Initial} (d : InitialAt names ts a rest) → Shallow (λ n. deep_initial d n)
  shallow_initial (braced_initial y0 d1 d2 y1 y2) = deeper (λ n. deep_initial (braced_initial y0 d1 d2 y1 y2) n) (both (shallow_initial d1) (shallow_more_initials d2))
  shallow_initial (assign_initial d0) = deeper (λ n. deep_initial (assign_initial d0) n) (shallow_assign d0)

  pub shallow_more_initials : {names : List (List ℕ)} {ts rest : List Token} {so_far all : List Initial} (d : MoreInitials names ts so_far all rest) → Shallow (λ n. deep_more_initials d n)
  shallow_more_initials no_initial = no_level
  shallow_more_initials (next_initial _ d1 m) = both (shallow_initial d1) (shallow_more_initials m)

pub shallow_init : {names : List (List ℕ)} {ts rest : List Token} {a : Init} (d : InitAt names ts a rest) → Shallow (λ n. deep_init d n)
unfolding deep_init
shallow_init (init_value d0 _ _ d3) = both (shallow_declarator d0) (shallow_initial d3)
shallow_init (init_plain d0 _) = shallow_declarator d0

pub shallow_more_inits : {names : List (List ℕ)} {ts rest : List Token} {so_far all : List Init} (d : MoreInits names ts so_far all rest) → Shallow (λ n. deep_more_inits d n)
unfolding deep_more_inits
shallow_more_inits no_init = no_level
shallow_more_inits (next_init _ d1 m) = both (shallow_init d1) (shallow_more_inits m)

pub shallow_decl : {names : List (List ℕ)} {ts rest : List Token} {a : Decl} (d : DeclAt names ts a rest) → Shallow (λ n. deep_decl d n)
unfolding deep_decl
shallow_decl (bare_decl d0 _) = shallow_specs d0
shallow_decl (inits_decl d0 d1 d2 _) = both (shallow_specs d0) (both (shallow_init d1) (shallow_more_inits d2))

pub shallow_opt_expr : {names : List (List ℕ)} {ts rest : List Token} {a : Option Expr} (d : OptExpr names ts a rest) → Shallow (λ n. deep_opt_expr d n)
unfolding deep_opt_expr
shallow_opt_expr (an_expr d0) = shallow_expr d0
shallow_opt_expr without_expr = no_level

pub shallow_first : {names : List (List ℕ)} {ts rest : List Token} {a : First} (d : FirstAt names ts a rest) → Shallow (λ n. deep_first d n)
unfolding deep_first
shallow_first (first_decl d0) = shallow_decl d0
shallow_first (first_expr d0 _) = shallow_opt_expr d0

pub shallow_label : {names : List (List ℕ)} {ts rest : List Token} {a : Label} (d : LabelAt names ts a rest) → Shallow (λ n. deep_label d n)
unfolding deep_label
shallow_label (case_label _ d1 _) = shallow_cond d1
shallow_label (default_label _ _) = no_level

mutual
  unfolding deep_block

  pub shallow_block : {names : List (List ℕ)} {ts rest : List Token} {a : Block} (d : BlockAt names ts a rest) → Shallow (λ n. deep_block d n)
  shallow_block (braces _ d1 _) = shallow_items d1

  pub shallow_items : {names : List (List ℕ)} {ts rest : List Token} {so_far all : List Item} (d : Items names ts so_far all rest) → Shallow (λ n. deep_items d n)
  shallow_items no_item = no_level
  shallow_items (next_item d0 m) = both (shallow_item d0) (shallow_items m)

  pub shallow_item : {names : List (List ℕ)} {ts rest : List Token} {a : Item} (d : ItemAt names ts a rest) → Shallow (λ n. deep_item d n)
  shallow_item (decl_item d0) = shallow_decl d0
  shallow_item (stmt_item d0) = shallow_stmt d0

  pub shallow_stmt : {names : List (List ℕ)} {ts rest : List Token} {a : Stmt} (d : StmtAt names ts a rest) → Shallow (λ n. deep_stmt d n)
  shallow_stmt (block_stmt d0) = deeper (λ n. deep_stmt (block_stmt d0) n) (shallow_block d0)
  shallow_stmt {names = names} (empty_stmt y0) = deeper (λ n. deep_stmt {names = names} (empty_stmt y0) n) no_level
  shallow_stmt (return_stmt y0 d1 y1) = deeper (λ n. deep_stmt (return_stmt y0 d1 y1) n) (shallow_opt_expr d1)
  shallow_stmt {names = names} (break_stmt y0 y1) = deeper (λ n. deep_stmt {names = names} (break_stmt y0 y1) n) no_level
  shallow_stmt {names = names} (continue_stmt y0 y1) = deeper (λ n. deep_stmt {names = names} (continue_stmt y0 y1) n) no_level
  shallow_stmt (if_else y0 y1 d2 y2 d4 y3 d6) = deeper (λ n. deep_stmt (if_else y0 y1 d2 y2 d4 y3 d6) n) (both (shallow_expr d2) (both (shallow_stmt d4) (shallow_stmt d6)))
  shallow_stmt (if_only y0 y1 d2 y2 d4 y3) = deeper (λ n. deep_stmt (if_only y0 y1 d2 y2 d4 y3) n) (both (shallow_expr d2) (shallow_stmt d4))
  shallow_stmt (while_stmt y0 y1 d2 y2 d4) = deeper (λ n. deep_stmt (while_stmt y0 y1 d2 y2 d4) n) (both (shallow_expr d2) (shallow_stmt d4))
  shallow_stmt (do_stmt y0 d1 y1 y2 d4 y3 y4) = deeper (λ n. deep_stmt (do_stmt y0 d1 y1 y2 d4 y3 y4) n) (both (shallow_stmt d1) (shallow_expr d4))
  shallow_stmt (for_stmt y0 y1 d2 d3 y2 d5 y3 d7) = deeper (λ n. deep_stmt (for_stmt y0 y1 d2 d3 y2 d5 y3 d7) n) (both (shallow_first d2) (both (shallow_opt_expr d3) (both (shallow_opt_expr d5) (shallow_stmt d7))))
  shallow_stmt (switch_stmt y0 y1 d2 y2 y3 d5 y4) = deeper (λ n. deep_stmt (switch_stmt y0 y1 d2 y2 y3 d5 y4) n) (both (shallow_expr d2) (shallow_parts d5))
  shallow_stmt (expr_stmt d0 y0) = deeper (λ n. deep_stmt (expr_stmt d0 y0) n) (shallow_expr d0)

  pub shallow_parts : {names : List (List ℕ)} {ts rest : List Token} {so_far all : List Part} (d : Parts names ts so_far all rest) → Shallow (λ n. deep_parts d n)
  shallow_parts no_part = no_level
  shallow_parts (next_part d0 m) = both (shallow_part d0) (shallow_parts m)

  pub shallow_part : {names : List (List ℕ)} {ts rest : List Token} {a : Part} (d : PartAt names ts a rest) → Shallow (λ n. deep_part d n)
  shallow_part (label_part d0) = shallow_label d0
  shallow_part (decl_part d0) = shallow_decl d0
  shallow_part (stmt_part d0) = shallow_stmt d0

pub shallow_function : {names : List (List ℕ)} {ts rest : List Token} {f : Function} (d : FunctionAt names ts f rest) → Shallow (λ n. deep_function d n)
unfolding deep_function
shallow_function (a_function d0 d1 _ d3) = both (shallow_specs d0) (both (shallow_declarator d1) (shallow_block d3))

pub shallow_unit : {names : List (List ℕ)} {ts : List Token} {so_far all : List External} (d : UnitAt names ts so_far all) → Shallow (λ n. deep_unit d n)
unfolding deep_unit
shallow_unit unit_end = no_level
shallow_unit (unit_include _ m) = shallow_unit m
shallow_unit (unit_decl d m) = both (shallow_decl d) (shallow_unit m)
shallow_unit (unit_function d m) = both (shallow_function d) (shallow_unit m)

same_ok : {A : Type 0} (o : Option ℕ) (x y : A × List Token) → answer None x ≡ answer o y → x ≡ y
same_ok None x y e = cc
same_ok (Some k) x y e = absurd cc

-- two units that the tokens derive are the same
pub one_unit : (ts : List Token) (a b : List External) → Derives ts a → Derives ts b → a ≡ b
one_unit ts a b d e =
    let n = (shallow_unit d).levels_enough in
    let p = unit_read n ts a d in
    let q = unit_read n ts b e in
    let h : deep_unit d n ≡ None = (shallow_unit d).fits n (omega arith) in
    let r : answer None ((p.0, a), []) ≡ answer (deep_unit e n) ((q.0, b), []) = sym (rw h at p.1.holds) ∙ q.1.holds in
    ap (λ y. y.0.1) (same_ok (deep_unit e n) ((p.0, a), []) ((q.0, b), []) r)
