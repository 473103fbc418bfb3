-- Each part takes tokens.
use Rattle.std.proofs.Common.{◌≡◌, ℕ, suc, ◌<◌, ◌≤◌, Bool, List, length, Option, refl, arith}
use Rattle.cm_base.specs.declared.place.Place.{Place}
use Rattle.c_lex.specs.declared.token.Token.{Token}
use Rattle.c_grammar.specs.declared.tokens.Sign.{Sign}
use Rattle.c_ast.specs.declared.expr.One.{One}
use Rattle.c_ast.specs.declared.expr.Attr.{Attr}
use Rattle.c_ast.specs.declared.expr.Star.{Star}
use Rattle.c_ast.specs.declared.expr.Expr.{Expr}
use Rattle.c_ast.specs.declared.expr.Link.{Link}
use Rattle.c_ast.specs.declared.expr.Next.{Next as After}
use Rattle.c_ast.specs.declared.expr.Access.{Access}
use Rattle.c_ast.specs.declared.expr.TypeName.{TypeName}
use Rattle.c_ast.specs.declared.expr.Spec.{Spec}
use Rattle.c_ast.specs.declared.expr.StructSpec.{StructSpec}
use Rattle.c_ast.specs.declared.expr.Member.{Member}
use Rattle.c_ast.specs.declared.expr.EnumSpec.{EnumSpec}
use Rattle.c_ast.specs.declared.expr.Enumerator.{Enumerator}
use Rattle.c_ast.specs.declared.expr.Declarator.{Declarator}
use Rattle.c_ast.specs.declared.expr.Suffix.{Suffix}
use Rattle.c_ast.specs.declared.expr.Params.{Params}
use Rattle.c_ast.specs.declared.expr.Param.{Param}
use Rattle.c_ast.specs.declared.expr.Abstract.{Abstract}
use Rattle.c_grammar.specs.Grammar.{one_with, one_plain, OneAt, no_one, next_one, MoreOnes, attr_, AttrAt, no_attr, next_attr, Attrs, no_lead, next_lead, LeadAttrs, star_star, star_const, star_volatile, star_attr, StarAt, no_star, next_star, MoreStars, some_stars, no_stars, Stars, a_comma, no_comma, OptComma, exprs, ExprAt, no_commas, next_comma, MoreCommas, no_expr, next_expr, MoreExprs, assigned, only_cond, Assign, chosen, only_binary, Cond, converted, only_unary, Cast, type_name, TypeNameAt, counted_unary, prefixed, only_postfix, Unary, step_before, a_sizeof, Stepped, sizeof_type, sizeof_expr, SizeofAt, postfixed, Postfix, no_access, next_access, Accesses, indexed, called, member_of, member_behind, step_after, AccessAt, some_args, no_args, Args, a_name, a_number, a_char, a_string, grouped, Primary, some_specs, SpecsAt, no_spec, next_spec, MoreSpecs, a_word, a_struct, an_enum, an_attr, a_type, SpecAt, struct_body, struct_tag, struct_plain, StructAt, braced_members, Members, no_member, next_member, MoreMembers, a_member, MemberAt, no_declarator, next_declarator, MoreDeclarators, enum_body, enum_tag, enum_plain, EnumAt, braced_enumrs, Enumrs, no_enumr, next_enumr, MoreEnumrs, enumr_value, enumr_plain, EnumrAt, plain_declarator, group_declarator, DeclaratorAt, no_suffix, next_suffix, Suffixes, array_suffix, params_suffix, SuffixAt, a_cond, no_cond, OptCond, void_only, some_params, no_params, ParamsAt, no_param, next_param, MoreParams, group_abstract, plain_abstract, AbstractAt, Binary, MoreOps, only_cast, binaries, no_op, next_op, ParamAt, named_param, unnamed_param, Next, token, Takes, takes}

pub next_shrinks : {s : Sign} {ts r : List Token} {p : Place} → Next s ts p r → length ts ≡ suc (length r)
next_shrinks (token e) = refl

pub takes_shrinks : {A : Type 0} {f : Token → Option A} {ts r : List Token} {a : A} → Takes f ts a r → length ts ≡ suc (length r)
takes_shrinks (takes e) = refl

pub one_shrinks : {names : List (List ℕ)} {ts rest : List Token} {a : One} → OneAt names ts a rest → length rest < length ts
one_shrinks (one_with d0 d1 d2 d3) = omega (arith, takes_shrinks d0, next_shrinks d1, takes_shrinks d2, next_shrinks d3)
one_shrinks (one_plain d0) = omega (arith, takes_shrinks d0)

pub more_ones_shrinks : {names : List (List ℕ)} {ts rest : List Token} {so_far all : List One} → MoreOnes names ts so_far all rest → length rest ≤ length ts
more_ones_shrinks no_one = omega arith
more_ones_shrinks (next_one d0 d1 m) = omega (arith, next_shrinks d0, one_shrinks d1, more_ones_shrinks m)

pub attr_shrinks : {names : List (List ℕ)} {ts rest : List Token} {a : Attr} → AttrAt names ts a rest → length rest < length ts
attr_shrinks (attr_ d0 d1 d2 d3 d4 d5 d6) = omega (arith, next_shrinks d0, next_shrinks d1, next_shrinks d2, one_shrinks d3, more_ones_shrinks d4, next_shrinks d5, next_shrinks d6)

pub attrs_shrinks : {names : List (List ℕ)} {ts rest : List Token} {so_far all : List Attr} → Attrs names ts so_far all rest → length rest ≤ length ts
attrs_shrinks no_attr = omega arith
attrs_shrinks (next_attr d0 m) = omega (arith, attr_shrinks d0, attrs_shrinks m)

pub lead_attrs_shrinks : {names : List (List ℕ)} {ts rest : List Token} {so_far all : List Star} → LeadAttrs names ts so_far all rest → length rest ≤ length ts
lead_attrs_shrinks no_lead = omega arith
lead_attrs_shrinks (next_lead d0 m) = omega (arith, attr_shrinks d0, lead_attrs_shrinks m)

pub star_shrinks : {names : List (List ℕ)} {ts rest : List Token} {a : Star} → StarAt names ts a rest → length rest < length ts
star_shrinks (star_star d0) = omega (arith, next_shrinks d0)
star_shrinks (star_const d0) = omega (arith, next_shrinks d0)
star_shrinks (star_volatile d0) = omega (arith, next_shrinks d0)
star_shrinks (star_attr d0) = omega (arith, attr_shrinks d0)

pub more_stars_shrinks : {names : List (List ℕ)} {ts rest : List Token} {so_far all : List Star} → MoreStars names ts so_far all rest → length rest ≤ length ts
more_stars_shrinks no_star = omega arith
more_stars_shrinks (next_star d0 m) = omega (arith, star_shrinks d0, more_stars_shrinks m)

pub stars_shrinks : {names : List (List ℕ)} {ts rest : List Token} {a : List Star} → Stars names ts a rest → length rest ≤ length ts
stars_shrinks (some_stars d0 d1 d2) = omega (arith, lead_attrs_shrinks d0, next_shrinks d1, more_stars_shrinks d2)
stars_shrinks (no_stars d0) = omega (arith, lead_attrs_shrinks d0)

pub opt_comma_shrinks : {ts rest : List Token} {a : Bool} → OptComma ts a rest → length rest ≤ length ts
opt_comma_shrinks (a_comma d0) = omega (arith, next_shrinks d0)
opt_comma_shrinks no_comma = omega arith

mutual
  pub expr_shrinks : {names : List (List ℕ)} {ts rest : List Token} {a : Expr} → ExprAt names ts a rest → length rest < length ts
  expr_shrinks (exprs d0 d1) = omega (arith, assign_shrinks d0, more_commas_shrinks d1)

  pub more_commas_shrinks : {names : List (List ℕ)} {ts rest : List Token} {so_far all : List After} → MoreCommas names ts so_far all rest → length rest ≤ length ts
  more_commas_shrinks no_commas = omega arith
  more_commas_shrinks (next_comma d0 d1 m) = omega (arith, next_shrinks d0, assign_shrinks d1, more_commas_shrinks m)

  pub more_exprs_shrinks : {names : List (List ℕ)} {ts rest : List Token} {so_far all : List Expr} → MoreExprs names ts so_far all rest → length rest ≤ length ts
  more_exprs_shrinks no_expr = omega arith
  more_exprs_shrinks (next_expr d0 d1 m) = omega (arith, next_shrinks d0, assign_shrinks d1, more_exprs_shrinks m)

  pub assign_shrinks : {names : List (List ℕ)} {ts rest : List Token} {a : Expr} → Assign names ts a rest → length rest < length ts
  assign_shrinks (assigned d0 d1 d2) = omega (arith, cond_shrinks d0, takes_shrinks d1, assign_shrinks d2)
  assign_shrinks (only_cond d0) = omega (arith, cond_shrinks d0)

  pub cond_shrinks : {names : List (List ℕ)} {ts rest : List Token} {a : Expr} → Cond names ts a rest → length rest < length ts
  cond_shrinks (chosen d0 d1 d2 d3 d4) = omega (arith, binary_shrinks d0, next_shrinks d1, expr_shrinks d2, next_shrinks d3, cond_shrinks d4)
  cond_shrinks (only_binary d0) = omega (arith, binary_shrinks d0)

  pub binary_shrinks : {names : List (List ℕ)} {l : ℕ} {ts rest : List Token} {a : Expr} → Binary names l ts a rest → length rest < length ts
  binary_shrinks (only_cast d) = cast_shrinks d
  binary_shrinks (binaries d m) = omega (arith, binary_shrinks d, more_ops_shrinks m)

  pub more_ops_shrinks : {names : List (List ℕ)} {l : ℕ} {ts rest : List Token} {so_far all : List Link} → MoreOps names l ts so_far all rest → length rest ≤ length ts
  more_ops_shrinks no_op = omega arith
  more_ops_shrinks (next_op d0 d1 m) = omega (arith, takes_shrinks d0, binary_shrinks d1, more_ops_shrinks m)

  pub cast_shrinks : {names : List (List ℕ)} {ts rest : List Token} {a : Expr} → Cast names ts a rest → length rest < length ts
  cast_shrinks (converted d0 d1 d2 d3) = omega (arith, next_shrinks d0, typename_shrinks d1, next_shrinks d2, cast_shrinks d3)
  cast_shrinks (only_unary d0) = omega (arith, unary_shrinks d0)

  pub typename_shrinks : {names : List (List ℕ)} {ts rest : List Token} {a : TypeName} → TypeNameAt names ts a rest → length rest < length ts
  typename_shrinks (type_name d0 d1) = omega (arith, specs_shrinks d0, nameless_shrinks d1)

  pub unary_shrinks : {names : List (List ℕ)} {ts rest : List Token} {a : Expr} → Unary names ts a rest → length rest < length ts
  unary_shrinks (counted_unary d0) = omega (arith, stepped_shrinks d0)
  unary_shrinks (prefixed d0 d1) = omega (arith, takes_shrinks d0, cast_shrinks d1)
  unary_shrinks (only_postfix d0) = omega (arith, postfix_shrinks d0)

  pub stepped_shrinks : {names : List (List ℕ)} {ts rest : List Token} {a : Expr} → Stepped names ts a rest → length rest < length ts
  stepped_shrinks (step_before d0 d1) = omega (arith, takes_shrinks d0, unary_shrinks d1)
  stepped_shrinks (a_sizeof d0) = omega (arith, size_of_shrinks d0)

  pub size_of_shrinks : {names : List (List ℕ)} {ts rest : List Token} {a : Expr} → SizeofAt names ts a rest → length rest < length ts
  size_of_shrinks (sizeof_type d0 d1 d2 d3) = omega (arith, next_shrinks d0, next_shrinks d1, typename_shrinks d2, next_shrinks d3)
  size_of_shrinks (sizeof_expr d0 d1) = omega (arith, next_shrinks d0, unary_shrinks d1)

  pub postfix_shrinks : {names : List (List ℕ)} {ts rest : List Token} {a : Expr} → Postfix names ts a rest → length rest < length ts
  postfix_shrinks (postfixed d0 d1) = omega (arith, primary_shrinks d0, accesses_shrinks d1)

  pub accesses_shrinks : {names : List (List ℕ)} {ts rest : List Token} {so_far all : List Access} → Accesses names ts so_far all rest → length rest ≤ length ts
  accesses_shrinks no_access = omega arith
  accesses_shrinks (next_access d0 m) = omega (arith, access_shrinks d0, accesses_shrinks m)

  pub access_shrinks : {names : List (List ℕ)} {ts rest : List Token} {a : Access} → AccessAt names ts a rest → length rest < length ts
  access_shrinks (indexed d0 d1 d2) = omega (arith, next_shrinks d0, expr_shrinks d1, next_shrinks d2)
  access_shrinks (called d0 d1 d2) = omega (arith, next_shrinks d0, args_shrinks d1, next_shrinks d2)
  access_shrinks (member_of d0 d1) = omega (arith, next_shrinks d0, takes_shrinks d1)
  access_shrinks (member_behind d0 d1) = omega (arith, next_shrinks d0, takes_shrinks d1)
  access_shrinks (step_after d0) = omega (arith, takes_shrinks d0)

  pub args_shrinks : {names : List (List ℕ)} {ts rest : List Token} {a : List Expr} → Args names ts a rest → length rest ≤ length ts
  args_shrinks (some_args d0 d1) = omega (arith, assign_shrinks d0, more_exprs_shrinks d1)
  args_shrinks no_args = omega arith

  pub primary_shrinks : {names : List (List ℕ)} {ts rest : List Token} {a : Expr} → Primary names ts a rest → length rest < length ts
  primary_shrinks (a_name d0) = omega (arith, takes_shrinks d0)
  primary_shrinks (a_number d0) = omega (arith, takes_shrinks d0)
  primary_shrinks (a_char d0) = omega (arith, takes_shrinks d0)
  primary_shrinks (a_string d0) = omega (arith, takes_shrinks d0)
  primary_shrinks (grouped d0 d1 d2) = omega (arith, next_shrinks d0, expr_shrinks d1, next_shrinks d2)

  pub specs_shrinks : {names : List (List ℕ)} {ts rest : List Token} {a : List Spec} → SpecsAt names ts a rest → length rest < length ts
  specs_shrinks (some_specs d0 d1) = omega (arith, spec_shrinks d0, more_specs_shrinks d1)

  pub more_specs_shrinks : {names : List (List ℕ)} {ts rest : List Token} {so_far all : List Spec} → MoreSpecs names ts so_far all rest → length rest ≤ length ts
  more_specs_shrinks (no_spec e0) = omega arith
  more_specs_shrinks (next_spec d0 m) = omega (arith, spec_shrinks d0, more_specs_shrinks m)

  pub spec_shrinks : {names : List (List ℕ)} {ts rest : List Token} {a : Spec} → SpecAt names ts a rest → length rest < length ts
  spec_shrinks (a_word d0) = omega (arith, takes_shrinks d0)
  spec_shrinks (a_struct d0) = omega (arith, structs_shrinks d0)
  spec_shrinks (an_enum d0) = omega (arith, enums_shrinks d0)
  spec_shrinks (an_attr d0) = omega (arith, attr_shrinks d0)
  spec_shrinks (a_type d0) = omega (arith, takes_shrinks d0)

  pub structs_shrinks : {names : List (List ℕ)} {ts rest : List Token} {a : StructSpec} → StructAt names ts a rest → length rest < length ts
  structs_shrinks (struct_body d0 d1 d2) = omega (arith, next_shrinks d0, takes_shrinks d1, members_shrinks d2)
  structs_shrinks (struct_tag d0 d1 e0) = omega (arith, next_shrinks d0, takes_shrinks d1)
  structs_shrinks (struct_plain d0 d1) = omega (arith, next_shrinks d0, members_shrinks d1)

  pub members_shrinks : {names : List (List ℕ)} {ts rest : List Token} {a : List Member} → Members names ts a rest → length rest < length ts
  members_shrinks (braced_members d0 d1 d2 d3) = omega (arith, next_shrinks d0, member_shrinks d1, more_members_shrinks d2, next_shrinks d3)

  pub more_members_shrinks : {names : List (List ℕ)} {ts rest : List Token} {so_far all : List Member} → MoreMembers names ts so_far all rest → length rest ≤ length ts
  more_members_shrinks no_member = omega arith
  more_members_shrinks (next_member d0 m) = omega (arith, member_shrinks d0, more_members_shrinks m)

  pub member_shrinks : {names : List (List ℕ)} {ts rest : List Token} {a : Member} → MemberAt names ts a rest → length rest < length ts
  member_shrinks (a_member d0 d1 d2 d3) = omega (arith, specs_shrinks d0, declarator_shrinks d1, more_declarators_shrinks d2, next_shrinks d3)

  pub more_declarators_shrinks : {names : List (List ℕ)} {ts rest : List Token} {so_far all : List Declarator} → MoreDeclarators names ts so_far all rest → length rest ≤ length ts
  more_declarators_shrinks no_declarator = omega arith
  more_declarators_shrinks (next_declarator d0 d1 m) = omega (arith, next_shrinks d0, declarator_shrinks d1, more_declarators_shrinks m)

  pub enums_shrinks : {names : List (List ℕ)} {ts rest : List Token} {a : EnumSpec} → EnumAt names ts a rest → length rest < length ts
  enums_shrinks (enum_body d0 d1 d2) = omega (arith, next_shrinks d0, takes_shrinks d1, enumrs_shrinks d2)
  enums_shrinks (enum_tag d0 d1 e0) = omega (arith, next_shrinks d0, takes_shrinks d1)
  enums_shrinks (enum_plain d0 d1) = omega (arith, next_shrinks d0, enumrs_shrinks d1)

  pub enumrs_shrinks : {names : List (List ℕ)} {ts rest : List Token} {a : List Enumerator} → Enumrs names ts a rest → length rest < length ts
  enumrs_shrinks (braced_enumrs d0 d1 d2 d3 d4) = omega (arith, next_shrinks d0, enumr_shrinks d1, more_enumrs_shrinks d2, opt_comma_shrinks d3, next_shrinks d4)

  pub more_enumrs_shrinks : {names : List (List ℕ)} {ts rest : List Token} {so_far all : List Enumerator} → MoreEnumrs names ts so_far all rest → length rest ≤ length ts
  more_enumrs_shrinks no_enumr = omega arith
  more_enumrs_shrinks (next_enumr d0 d1 m) = omega (arith, next_shrinks d0, enumr_shrinks d1, more_enumrs_shrinks m)

  pub enumr_shrinks : {names : List (List ℕ)} {ts rest : List Token} {a : Enumerator} → EnumrAt names ts a rest → length rest < length ts
  enumr_shrinks (enumr_value d0 d1 d2) = omega (arith, takes_shrinks d0, next_shrinks d1, cond_shrinks d2)
  enumr_shrinks (enumr_plain d0) = omega (arith, takes_shrinks d0)

  pub declarator_shrinks : {names : List (List ℕ)} {ts rest : List Token} {a : Declarator} → DeclaratorAt names ts a rest → length rest < length ts
  declarator_shrinks (plain_declarator d0 d1 d2) = omega (arith, stars_shrinks d0, takes_shrinks d1, suffixes_shrinks d2)
  declarator_shrinks (group_declarator d0 d1 d2 d3 d4) = omega (arith, stars_shrinks d0, next_shrinks d1, declarator_shrinks d2, next_shrinks d3, suffixes_shrinks d4)

  pub suffixes_shrinks : {names : List (List ℕ)} {ts rest : List Token} {so_far all : List Suffix} → Suffixes names ts so_far all rest → length rest ≤ length ts
  suffixes_shrinks no_suffix = omega arith
  suffixes_shrinks (next_suffix d0 m) = omega (arith, suffix_shrinks d0, suffixes_shrinks m)

  pub suffix_shrinks : {names : List (List ℕ)} {ts rest : List Token} {a : Suffix} → SuffixAt names ts a rest → length rest < length ts
  suffix_shrinks (array_suffix d0 d1 d2) = omega (arith, next_shrinks d0, opt_cond_shrinks d1, next_shrinks d2)
  suffix_shrinks (params_suffix d0 d1 d2) = omega (arith, next_shrinks d0, params_shrinks d1, next_shrinks d2)

  pub opt_cond_shrinks : {names : List (List ℕ)} {ts rest : List Token} {a : Option Expr} → OptCond names ts a rest → length rest ≤ length ts
  opt_cond_shrinks (a_cond d0) = omega (arith, cond_shrinks d0)
  opt_cond_shrinks no_cond = omega arith

  pub params_shrinks : {names : List (List ℕ)} {ts rest : List Token} {a : Params} → ParamsAt names ts a rest → length rest ≤ length ts
  params_shrinks (void_only d0) = omega (arith, next_shrinks d0)
  params_shrinks (some_params h0 d0 d1) = omega (arith, param_shrinks d0, more_params_shrinks d1)
  params_shrinks no_params = omega arith

  pub more_params_shrinks : {names : List (List ℕ)} {ts rest : List Token} {so_far all : List Param} → MoreParams names ts so_far all rest → length rest ≤ length ts
  more_params_shrinks no_param = omega arith
  more_params_shrinks (next_param d0 d1 m) = omega (arith, next_shrinks d0, param_shrinks d1, more_params_shrinks m)

  pub param_shrinks : {names : List (List ℕ)} {ts rest : List Token} {a : Param} → ParamAt names ts a rest → length rest < length ts
  param_shrinks (named_param d0 d1) = omega (arith, specs_shrinks d0, declarator_shrinks d1)
  param_shrinks (unnamed_param d0 d1) = omega (arith, specs_shrinks d0, nameless_shrinks d1)

  pub nameless_shrinks : {names : List (List ℕ)} {ts rest : List Token} {a : Abstract} → AbstractAt names ts a rest → length rest ≤ length ts
  nameless_shrinks (group_abstract d0 h1 d1 d2 d3 d4) = omega (arith, stars_shrinks d0, next_shrinks d1, nameless_shrinks d2, next_shrinks d3, suffixes_shrinks d4)
  nameless_shrinks (plain_abstract d0 h1 d1) = omega (arith, stars_shrinks d0, suffixes_shrinks d1)
