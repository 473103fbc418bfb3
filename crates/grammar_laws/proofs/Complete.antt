-- What derives is read: expressions and types.
use Rattle.std.proofs.Common.{List, Option, arith, false, length, refl, suc, zero, ℕ, ◌≡◌, ◌<◌, ◌≤◌, ◌+◌}
use Rattle.cm_base.specs.declared.place.Place.{Place}
use Rattle.c_lex.specs.declared.token.Token.{Token}
use Rattle.c_grammar.specs.declared.tokens.Sign.TheVariants.{Mark}
use Rattle.c_ast.specs.declared.expr.Expr.{Expr}
use Rattle.c_ast.specs.declared.expr.Link.{Link}
use Rattle.c_ast.specs.declared.expr.Next.{Next as After}
use Rattle.c_ast.specs.declared.expr.Access.{Access}
use Rattle.c_ast.specs.declared.expr.TypeName.{TypeName}
use Rattle.c_ast.specs.declared.expr.Spec.{Spec}
use Rattle.c_ast.specs.declared.expr.StructSpec.{StructSpec}
use Rattle.c_ast.specs.declared.expr.Member.{Member}
use Rattle.c_ast.specs.declared.expr.EnumSpec.{EnumSpec}
use Rattle.c_ast.specs.declared.expr.Enumerator.{Enumerator}
use Rattle.c_ast.specs.declared.expr.Declarator.{Declarator}
use Rattle.c_ast.specs.declared.expr.Suffix.{Suffix}
use Rattle.c_ast.specs.declared.expr.Params.{Params}
use Rattle.c_ast.specs.declared.expr.Param.{Param}
use Rattle.c_ast.specs.declared.expr.Abstract.{Abstract}
use Rattle.c_grammar.specs.Tokens.{begins_expr, begins_spec, comma_more, expr_token, next_is_name, spec_token}
use Rattle.c_grammar.specs.Grammar.{AbstractAt, AccessAt, Accesses, Args, Assign, Binary, Cast, Cond, DeclaratorAt, EnumAt, EnumrAt, Enumrs, ExprAt, MemberAt, Members, MoreCommas, MoreDeclarators, MoreEnumrs, MoreExprs, MoreMembers, MoreOps, MoreParams, MoreSpecs, Next, OptCond, ParamAt, ParamsAt, Postfix, Primary, SizeofAt, SpecAt, SpecsAt, Stepped, StructAt, SuffixAt, Suffixes, TypeNameAt, Unary, a_char, a_cond, a_member, a_name, a_number, a_sizeof, a_string, a_struct, a_type, a_word, an_attr, an_enum, array_suffix, assigned, binaries, braced_enumrs, braced_members, called, chosen, converted, counted_unary, enum_body, enum_plain, enum_tag, enumr_plain, enumr_value, exprs, group_abstract, group_declarator, grouped, indexed, member_behind, member_of, named_param, next_access, next_comma, next_declarator, next_enumr, next_expr, next_member, next_op, next_param, next_spec, next_suffix, no_access, no_args, no_commas, no_cond, no_declarator, no_enumr, no_expr, no_member, no_op, no_param, no_params, no_spec, no_suffix, only_binary, only_cast, only_cond, only_postfix, only_unary, params_suffix, plain_abstract, plain_declarator, postfixed, prefixed, sizeof_expr, sizeof_type, some_args, some_params, some_specs, step_after, step_before, struct_body, struct_plain, struct_tag, type_name, unnamed_param, void_only}
use Rattle.grammar_laws.specs.Follow.{follow}
use Rattle.grammar_laws.proofs.First.{assign_follow, not_assign, op_follow}
use Rattle.grammar_laws.proofs.DeclaratorSteps.{a_cond_by, abstract_deep, array_suffix_by, declarator_deep, group_abstract_by, group_declarator_by, group_named_by, group_unnamed_by, more_params_end, more_params_turn, named_deep, named_param_by, no_cond_by, no_params_by, params_suffix_by, plain_abstract_by, plain_declarator_by, plain_named_by, plain_unnamed_by, some_params_by, suffixes_end, suffixes_turn, unnamed_deep, unnamed_param_by, void_only_by}
use Rattle.grammar_laws.proofs.Answered.{AbstractReads, AccessReads, AccessesReads, ArgsReads, AssignReads, BinaryReads, CastReads, CondReads, DeclaratorReads, EnumReads, EnumrReads, EnumrsReads, ExprReads, MemberReads, MembersReads, MoreCommasReads, MoreDeclaratorsReads, MoreEnumrsReads, MoreExprsReads, MoreMembersReads, MoreOpsReads, MoreParamsReads, MoreSpecsReads, NamedReads, OptCondReads, ParamReads, ParamsReads, PostfixReads, PrimaryReads, SizeofReads, SpecReads, SpecsReads, SteppedReads, StructReads, SuffixReads, SuffixesReads, TypeNameReads, UnaryReads, UnnamedReads}
use Rattle.grammar_laws.proofs.ExprSteps.{a_char_by, a_name_by, a_number_by, a_sizeof_by, a_string_by, accesses_end, accesses_turn, assign_deep, assigned_by, binaries_by, called_by, cast_deep, chosen_by, cond_deep, converted_by, counted_by, expr_by, grouped_by, indexed_by, member_behind_by, member_of_by, more_commas_end, more_commas_turn, more_exprs_end, more_exprs_turn, more_ops_end, more_ops_turn, no_args_by, only_binary_by, only_cast_by, only_cond_by, only_postfix_by, only_unary_by, postfixed_by, prefixed_by, sizeof_expr_by, sizeof_type_by, some_args_by, step_after_by, step_before_by, stepped_deep, typename_by}
use Rattle.grammar_laws.proofs.TypeBegins.{Ended, by_close, by_comma, ended_follow, typename_begins}
use Rattle.grammar_laws.proofs.Steps.{next_follow, not_next, other, sign_at}
use Rattle.grammar_laws.proofs.ExprBegins.{type_open}
use Rattle.grammar_laws.proofs.TypeSteps.{a_struct_by, a_type_by, a_word_by, an_attr_by, an_enum_by, enum_body_by, enum_plain_by, enum_tag_by, enumr_plain_by, enumr_value_by, enumrs_by, member_by, members_by, more_declarators_end, more_declarators_turn, more_enumrs_end, more_enumrs_turn, more_members_end, more_members_turn, more_specs_end, more_specs_turn, specs_by, struct_body_by, struct_deep, struct_plain_by, struct_tag_by}
use Rattle.grammar_laws.proofs.Attributes.{no_more, opt_comma_follow}
use Rattle.c_lex.specs.declared.token.Punct.TheVariants as mark

more_commas_follow : {names : List (List ℕ)} {ts rest : List Token} {so_far all : List After} → MoreCommas names ts so_far all rest → follow rest < 1 → follow ts < 2
more_commas_follow no_commas lt = omega arith
more_commas_follow (next_comma d0 d1 m) lt = omega (arith, next_follow d0)

more_exprs_follow : {names : List (List ℕ)} {ts rest : List Token} {so_far all : List Expr} → MoreExprs names ts so_far all rest → follow rest < 1 → follow ts < 2
more_exprs_follow no_expr lt = omega arith
more_exprs_follow (next_expr d0 d1 m) lt = omega (arith, next_follow d0)

more_ops_follow : {names : List (List ℕ)} {l : ℕ} {ts rest : List Token} {so_far all : List Link} → MoreOps names l ts so_far all rest → follow rest + suc l < 14 → follow ts + l < 14
more_ops_follow no_op lt = omega arith
more_ops_follow {l = l} (next_op d0 d1 m) lt = omega (arith, op_follow l d0)

more_declarators_follow : {names : List (List ℕ)} {ts rest : List Token} {so_far all : List Declarator} → MoreDeclarators names ts so_far all rest → follow rest < 1 → follow ts < 14
more_declarators_follow no_declarator lt = omega arith
more_declarators_follow (next_declarator d0 d1 m) lt = omega (arith, next_follow d0)

more_enumrs_follow : {names : List (List ℕ)} {ts rest : List Token} {so_far all : List Enumerator} → MoreEnumrs names ts so_far all rest → follow rest < 2 → follow ts < 2
more_enumrs_follow no_enumr lt = lt
more_enumrs_follow (next_enumr d0 d1 m) lt = omega (arith, next_follow d0)

more_params_ended : {names : List (List ℕ)} {ts rest r : List Token} {so_far all : List Param} {c : Place} → MoreParams names ts so_far all rest → Next (Mark mark.ParenClose) rest c r → Ended ts
more_params_ended no_param c = by_close c
more_params_ended (next_param d0 d1 m) c = by_comma d0

suffixes_after : {ts r : List Token} {c : Place} → Next (Mark mark.ParenClose) ts c r → follow ts < 14
suffixes_after c = omega (arith, next_follow c)

loose : {ts : List Token} → Ended ts → follow ts < 14
loose e = omega (arith, ended_follow e)

mutual
  pub expr_read : {names : List (List ℕ)} {ts rest : List Token} {a : Expr} (d : ExprAt names ts a rest) (n : ℕ) → follow rest < 1 → ExprReads d n
  expr_read (exprs d0 d1) n stop = expr_by d0 d1 n (assign_read d0 n (more_commas_follow d1 stop)) (more_commas_read d1 n stop _ (omega arith))

  pub more_commas_read : {names : List (List ℕ)} {ts rest : List Token} {so_far all : List After} (d : MoreCommas names ts so_far all rest) (n : ℕ) → follow rest < 1 → (fuel : ℕ) → length ts ≤ fuel → MoreCommasReads d n fuel
  more_commas_read {names = names} {ts = ts} {so_far = so_far} no_commas n stop fuel fits = more_commas_end names ts so_far n fuel stop
  more_commas_read {so_far = so_far} (next_comma d0 d1 m) n stop fuel fits = more_commas_turn so_far d0 d1 m n fuel (assign_read d1 n (more_commas_follow m stop)) fits (λ f h. more_commas_read m n stop f h)

  pub more_exprs_read : {names : List (List ℕ)} {ts rest : List Token} {so_far all : List Expr} (d : MoreExprs names ts so_far all rest) (n : ℕ) → follow rest < 1 → (fuel : ℕ) → length ts ≤ fuel → MoreExprsReads d n fuel
  more_exprs_read {names = names} {ts = ts} {so_far = so_far} no_expr n stop fuel fits = more_exprs_end names ts so_far n fuel stop
  more_exprs_read {so_far = so_far} (next_expr d0 d1 m) n stop fuel fits = more_exprs_turn so_far d0 d1 m n fuel (assign_read d1 n (more_exprs_follow m stop)) fits (λ f h. more_exprs_read m n stop f h)

  pub assign_read : {names : List (List ℕ)} {ts rest : List Token} {a : Expr} (d : Assign names ts a rest) (n : ℕ) → follow rest < 2 → AssignReads d n
  assign_read d zero stop = assign_deep d
  assign_read (assigned d0 d1 d2) (suc n) stop = assigned_by d0 d1 d2 n (cond_read d0 n (omega (arith, assign_follow d1))) (assign_read d2 n stop)
  assign_read {rest = rest} (only_cond d0) (suc n) stop = only_cond_by d0 n (not_assign rest stop) (cond_read d0 n (omega arith))

  pub cond_read : {names : List (List ℕ)} {ts rest : List Token} {a : Expr} (d : Cond names ts a rest) (n : ℕ) → follow rest < 3 → CondReads d n
  cond_read d zero stop = cond_deep d
  cond_read (chosen d0 d1 d2 d3 d4) (suc n) stop = chosen_by d0 d1 d2 d3 d4 n (binary_read d0 n (omega (arith, next_follow d1))) (expr_read d2 n (omega (arith, next_follow d3))) (cond_read d4 n stop)
  cond_read {rest = rest} (only_binary d0) (suc n) stop = only_binary_by d0 n (not_next (Mark mark.Question) rest stop) (binary_read d0 n (omega arith))

  pub binary_read : {names : List (List ℕ)} {l : ℕ} {ts rest : List Token} {a : Expr} (d : Binary names l ts a rest) (n : ℕ) → follow rest + l < 14 → BinaryReads d n
  binary_read (only_cast d0) n stop = only_cast_by d0 n (cast_read d0 n (omega arith))
  binary_read (binaries d0 d1) n stop = binaries_by d0 d1 n (binary_read d0 n (more_ops_follow d1 stop)) (more_ops_read d1 n stop _ (omega arith))

  pub more_ops_read : {names : List (List ℕ)} {l : ℕ} {ts rest : List Token} {so_far all : List Link} (d : MoreOps names l ts so_far all rest) (n : ℕ) → follow rest + suc l < 14 → (fuel : ℕ) → length ts ≤ fuel → MoreOpsReads d n fuel
  more_ops_read {names = names} {l = l} {ts = ts} {so_far = so_far} no_op n stop fuel fits = more_ops_end names l ts so_far n fuel stop
  more_ops_read {so_far = so_far} (next_op d0 d1 m) n stop fuel fits = more_ops_turn so_far d0 d1 m n fuel (binary_read d1 n (more_ops_follow m stop)) fits (λ f h. more_ops_read m n stop f h)

  pub cast_read : {names : List (List ℕ)} {ts rest : List Token} {a : Expr} (d : Cast names ts a rest) (n : ℕ) → follow rest < 14 → CastReads d n
  cast_read d zero stop = cast_deep d
  cast_read {names = names} (converted d0 d1 d2 d3) (suc n) stop = converted_by d0 d1 d2 d3 n (type_open names d0 (typename_begins d1)) (typename_read d1 n (by_close d2)) (cast_read d3 n stop)
  cast_read (only_unary d0) (suc n) stop = only_unary_by d0 n (unary_read d0 n stop)

  pub unary_read : {names : List (List ℕ)} {ts rest : List Token} {a : Expr} (d : Unary names ts a rest) (n : ℕ) → follow rest < 14 → UnaryReads d n
  unary_read (counted_unary d0) n stop = counted_by d0 n (stepped_read d0 n stop)
  unary_read (prefixed d0 d1) n stop = prefixed_by d0 d1 n (cast_read d1 n stop)
  unary_read (only_postfix d0) n stop = only_postfix_by d0 n (postfix_read d0 n stop)

  pub stepped_read : {names : List (List ℕ)} {ts rest : List Token} {a : Expr} (d : Stepped names ts a rest) (n : ℕ) → follow rest < 14 → SteppedReads d n
  stepped_read d zero stop = stepped_deep d
  stepped_read (step_before d0 d1) (suc n) stop = step_before_by d0 d1 n (unary_read d1 n stop)
  stepped_read (a_sizeof d0) (suc n) stop = a_sizeof_by d0 n (sizeof_read d0 n stop)

  pub sizeof_read : {names : List (List ℕ)} {ts rest : List Token} {a : Expr} (d : SizeofAt names ts a rest) (n : ℕ) → follow rest < 14 → SizeofReads d n
  sizeof_read {names = names} (sizeof_type d0 d1 d2 d3) n stop = sizeof_type_by d0 d1 d2 d3 n (type_open names d1 (typename_begins d2)) (typename_read d2 n (by_close d3))
  sizeof_read (sizeof_expr d0 d1) n stop = sizeof_expr_by d0 d1 n (unary_read d1 n stop)

  pub postfix_read : {names : List (List ℕ)} {ts rest : List Token} {a : Expr} (d : Postfix names ts a rest) (n : ℕ) → follow rest < 14 → PostfixReads d n
  postfix_read (postfixed d0 d1) n stop = postfixed_by d0 d1 n (primary_read d0 n) (accesses_read d1 n stop _ (omega arith))

  pub accesses_read : {names : List (List ℕ)} {ts rest : List Token} {so_far all : List Access} (d : Accesses names ts so_far all rest) (n : ℕ) → follow rest < 14 → (fuel : ℕ) → length ts ≤ fuel → AccessesReads d n fuel
  accesses_read {names = names} {ts = ts} {so_far = so_far} no_access n stop fuel fits = accesses_end names ts so_far n fuel stop
  accesses_read {so_far = so_far} (next_access d0 m) n stop fuel fits = accesses_turn so_far d0 m n fuel (access_read d0 n) fits (λ f h. accesses_read m n stop f h)

  pub access_read : {names : List (List ℕ)} {ts rest : List Token} {a : Access} (d : AccessAt names ts a rest) (n : ℕ) → AccessReads d n
  access_read (indexed d0 d1 d2) n = indexed_by d0 d1 d2 n (expr_read d1 n (omega (arith, next_follow d2)))
  access_read {names = names} (called d0 d1 d2) n = called_by d0 d1 d2 n (args_read d1 n (omega (arith, next_follow d2)) (sign_at (expr_token names) false (λ q. refl) d2))
  access_read {names = names} (member_of d0 d1) n = member_of_by names d0 d1 n
  access_read {names = names} (member_behind d0 d1) n = member_behind_by names d0 d1 n
  access_read {names = names} (step_after d0) n = step_after_by names d0 n

  pub args_read : {names : List (List ℕ)} {ts rest : List Token} {a : List Expr} (d : Args names ts a rest) (n : ℕ) → follow rest < 1 → begins_expr names rest ≡ false → ArgsReads d n
  args_read (some_args d0 d1) n stop none = some_args_by d0 d1 n (assign_read d0 n (more_exprs_follow d1 stop)) (more_exprs_read d1 n stop _ (omega arith))
  args_read {names = names} {ts = ts} no_args n stop none = no_args_by names ts n none

  pub primary_read : {names : List (List ℕ)} {ts rest : List Token} {a : Expr} (d : Primary names ts a rest) (n : ℕ) → PrimaryReads d n
  primary_read {names = names} (a_name d0) n = a_name_by names d0 n
  primary_read {names = names} (a_number d0) n = a_number_by names d0 n
  primary_read {names = names} (a_char d0) n = a_char_by names d0 n
  primary_read {names = names} (a_string d0) n = a_string_by names d0 n
  primary_read (grouped d0 d1 d2) n = grouped_by d0 d1 d2 n (expr_read d1 n (omega (arith, next_follow d2)))

  pub typename_read : {names : List (List ℕ)} {ts rest : List Token} {a : TypeName} (d : TypeNameAt names ts a rest) (n : ℕ) → Ended rest → TypeNameReads d n
  typename_read (type_name d0 d1) n stop = typename_by d0 d1 n (specs_read d0 n) (abstract_read d1 n stop)

  pub specs_read : {names : List (List ℕ)} {ts rest : List Token} {a : List Spec} (d : SpecsAt names ts a rest) (n : ℕ) → SpecsReads d n
  specs_read (some_specs d0 d1) n = specs_by d0 d1 n (spec_read d0 n) (more_specs_read d1 n _ (omega arith))

  pub more_specs_read : {names : List (List ℕ)} {ts rest : List Token} {so_far all : List Spec} (d : MoreSpecs names ts so_far all rest) (n : ℕ) (fuel : ℕ) → length ts ≤ fuel → MoreSpecsReads d n fuel
  more_specs_read {names = names} {ts = ts} {so_far = so_far} (no_spec h) n fuel fits = more_specs_end names ts so_far h n fuel
  more_specs_read {so_far = so_far} (next_spec d0 m) n fuel fits = more_specs_turn so_far d0 m n fuel (spec_read d0 n) fits (λ f h. more_specs_read m n f h)

  pub spec_read : {names : List (List ℕ)} {ts rest : List Token} {a : Spec} (d : SpecAt names ts a rest) (n : ℕ) → SpecReads d n
  spec_read {names = names} (a_word d0) n = a_word_by names d0 n
  spec_read (a_struct d0) n = a_struct_by d0 n (struct_read d0 n)
  spec_read (an_enum d0) n = an_enum_by d0 n (enum_read d0 n)
  spec_read (an_attr d0) n = an_attr_by d0 n
  spec_read {names = names} (a_type d0) n = a_type_by names d0 n

  pub struct_read : {names : List (List ℕ)} {ts rest : List Token} {a : StructSpec} (d : StructAt names ts a rest) (n : ℕ) → StructReads d n
  struct_read d zero = struct_deep d
  struct_read (struct_body d0 d1 d2) (suc n) = struct_body_by d0 d1 d2 n (members_read d2 n)
  struct_read {names = names} (struct_tag d0 d1 h) (suc n) = struct_tag_by names d0 d1 h n
  struct_read (struct_plain d0 d1) (suc n) = struct_plain_by d0 d1 n (members_read d1 n)

  pub members_read : {names : List (List ℕ)} {ts rest : List Token} {a : List Member} (d : Members names ts a rest) (n : ℕ) → MembersReads d n
  members_read {names = names} (braced_members d0 d1 d2 d3) n = members_by d0 d1 d2 d3 n (member_read d1 n) (more_members_read d2 n (sign_at (spec_token names) false (λ q. refl) d3) _ (omega arith))

  pub more_members_read : {names : List (List ℕ)} {ts rest : List Token} {so_far all : List Member} (d : MoreMembers names ts so_far all rest) (n : ℕ) → begins_spec names rest ≡ false → (fuel : ℕ) → length ts ≤ fuel → MoreMembersReads d n fuel
  more_members_read {names = names} {ts = ts} {so_far = so_far} no_member n stop fuel fits = more_members_end names ts so_far n fuel stop
  more_members_read {so_far = so_far} (next_member d0 m) n stop fuel fits = more_members_turn so_far d0 m n fuel (member_read d0 n) fits (λ f h. more_members_read m n stop f h)

  pub member_read : {names : List (List ℕ)} {ts rest : List Token} {a : Member} (d : MemberAt names ts a rest) (n : ℕ) → MemberReads d n
  member_read (a_member {r3 = r3} d0 d1 d2 d3) n =
      let stop : follow r3 < 1 = omega (arith, next_follow d3) in
      member_by d0 d1 d2 d3 n (specs_read d0 n) (declarator_read d1 n (more_declarators_follow d2 stop)) (more_declarators_read d2 n stop _ (omega arith))

  pub more_declarators_read : {names : List (List ℕ)} {ts rest : List Token} {so_far all : List Declarator} (d : MoreDeclarators names ts so_far all rest) (n : ℕ) → follow rest < 1 → (fuel : ℕ) → length ts ≤ fuel → MoreDeclaratorsReads d n fuel
  more_declarators_read {names = names} {ts = ts} {so_far = so_far} no_declarator n stop fuel fits = more_declarators_end names ts so_far n fuel stop
  more_declarators_read {so_far = so_far} (next_declarator d0 d1 m) n stop fuel fits = more_declarators_turn so_far d0 d1 m n fuel (declarator_read d1 n (more_declarators_follow m stop)) fits (λ f h. more_declarators_read m n stop f h)

  pub enum_read : {names : List (List ℕ)} {ts rest : List Token} {a : EnumSpec} (d : EnumAt names ts a rest) (n : ℕ) → EnumReads d n
  enum_read (enum_body d0 d1 d2) n = enum_body_by d0 d1 d2 n (enumrs_read d2 n)
  enum_read {names = names} (enum_tag d0 d1 h) n = enum_tag_by names d0 d1 h n
  enum_read (enum_plain d0 d1) n = enum_plain_by d0 d1 n (enumrs_read d1 n)

  pub enumrs_read : {names : List (List ℕ)} {ts rest : List Token} {a : List Enumerator} (d : Enumrs names ts a rest) (n : ℕ) → EnumrsReads d n
  enumrs_read (braced_enumrs {r3 = r3} d0 d1 d2 d3 d4) n =
      let stop : follow r3 < 2 = opt_comma_follow d3 (omega (arith, next_follow d4)) in
      enumrs_by d0 d1 d2 d3 d4 n (enumr_read d1 n (more_enumrs_follow d2 stop)) (more_enumrs_read d2 n stop (no_more d3 d4) _ (omega arith))

  pub more_enumrs_read : {names : List (List ℕ)} {ts rest : List Token} {so_far all : List Enumerator} (d : MoreEnumrs names ts so_far all rest) (n : ℕ) → follow rest < 2 → comma_more rest ≡ false → (fuel : ℕ) → length ts ≤ fuel → MoreEnumrsReads d n fuel
  more_enumrs_read {names = names} {ts = ts} {so_far = so_far} no_enumr n stop last fuel fits = more_enumrs_end names ts so_far n fuel last
  more_enumrs_read {so_far = so_far} (next_enumr d0 d1 m) n stop last fuel fits = more_enumrs_turn so_far d0 d1 m n fuel (enumr_read d1 n (more_enumrs_follow m stop)) fits (λ f h. more_enumrs_read m n stop last f h)

  pub enumr_read : {names : List (List ℕ)} {ts rest : List Token} {a : Enumerator} (d : EnumrAt names ts a rest) (n : ℕ) → follow rest < 2 → EnumrReads d n
  enumr_read (enumr_value d0 d1 d2) n stop = enumr_value_by d0 d1 d2 n (cond_read d2 n (omega arith))
  enumr_read {names = names} {rest = rest} (enumr_plain d0) n stop = enumr_plain_by names d0 n (not_next (Mark mark.Assign) rest stop)

  pub declarator_read : {names : List (List ℕ)} {ts rest : List Token} {a : Declarator} (d : DeclaratorAt names ts a rest) (n : ℕ) → follow rest < 14 → DeclaratorReads d n
  declarator_read d zero stop = declarator_deep d
  declarator_read (plain_declarator d0 d1 d2) (suc n) stop = plain_declarator_by d0 d1 d2 n (suffixes_read d2 n stop _ (omega arith))
  declarator_read (group_declarator d0 d1 d2 d3 d4) (suc n) stop = group_declarator_by d0 d1 d2 d3 d4 n (declarator_read d2 n (suffixes_after d3)) (suffixes_read d4 n stop _ (omega arith))

  pub suffixes_read : {names : List (List ℕ)} {ts rest : List Token} {so_far all : List Suffix} (d : Suffixes names ts so_far all rest) (n : ℕ) → follow rest < 14 → (fuel : ℕ) → length ts ≤ fuel → SuffixesReads d n fuel
  suffixes_read {names = names} {ts = ts} {so_far = so_far} no_suffix n stop fuel fits = suffixes_end names ts so_far n fuel stop
  suffixes_read {so_far = so_far} (next_suffix d0 m) n stop fuel fits = suffixes_turn so_far d0 m n fuel (suffix_read d0 n) fits (λ f h. suffixes_read m n stop f h)

  pub suffix_read : {names : List (List ℕ)} {ts rest : List Token} {a : Suffix} (d : SuffixAt names ts a rest) (n : ℕ) → SuffixReads d n
  suffix_read {names = names} (array_suffix d0 d1 d2) n = array_suffix_by d0 d1 d2 n (opt_cond_read d1 n (omega (arith, next_follow d2)) (sign_at (expr_token names) false (λ q. refl) d2))
  suffix_read (params_suffix d0 d1 d2) n = params_suffix_by d0 d1 d2 n (params_read d1 n d2)

  pub opt_cond_read : {names : List (List ℕ)} {ts rest : List Token} {a : Option Expr} (d : OptCond names ts a rest) (n : ℕ) → follow rest < 3 → begins_expr names rest ≡ false → OptCondReads d n
  opt_cond_read (a_cond d0) n stop none = a_cond_by d0 n (cond_read d0 n stop)
  opt_cond_read {names = names} {ts = ts} no_cond n stop none = no_cond_by names ts n none

  pub params_read : {names : List (List ℕ)} {ts rest r : List Token} {a : Params} {c : Place} (d : ParamsAt names ts a rest) (n : ℕ) → Next (Mark mark.ParenClose) rest c r → ParamsReads d n
  params_read {names = names} (void_only d0) n stop = void_only_by names d0 n stop
  params_read (some_params h d0 d1) n stop = some_params_by h d0 d1 n (param_read d0 n (more_params_ended d1 stop)) (more_params_read d1 n stop _ (omega arith))
  params_read {names = names} no_params n stop = no_params_by names n stop

  pub more_params_read : {names : List (List ℕ)} {ts rest r : List Token} {so_far all : List Param} {c : Place} (d : MoreParams names ts so_far all rest) (n : ℕ) → Next (Mark mark.ParenClose) rest c r → (fuel : ℕ) → length ts ≤ fuel → MoreParamsReads d n fuel
  more_params_read {names = names} {ts = ts} {so_far = so_far} no_param n stop fuel fits = more_params_end names ts so_far n fuel (other (Mark mark.Comma) stop refl)
  more_params_read {so_far = so_far} (next_param d0 d1 m) n stop fuel fits = more_params_turn so_far d0 d1 m n fuel (param_read d1 n (more_params_ended m stop)) fits (λ f h. more_params_read m n stop f h)

  pub param_read : {names : List (List ℕ)} {ts rest : List Token} {a : Param} (d : ParamAt names ts a rest) (n : ℕ) → Ended rest → ParamReads d n
  param_read (named_param d0 d1) n stop = named_param_by d0 d1 n (specs_read d0 n) (named_read d1 n (loose stop))
  param_read (unnamed_param d0 d1) n stop = unnamed_param_by d0 d1 n (specs_read d0 n) (unnamed_read d1 n stop)

  pub abstract_read : {names : List (List ℕ)} {ts rest : List Token} {a : Abstract} (d : AbstractAt names ts a rest) (n : ℕ) → Ended rest → AbstractReads d n
  abstract_read d zero stop = abstract_deep d
  abstract_read (group_abstract d0 h d1 d2 d3 d4) (suc n) stop = group_abstract_by d0 h d1 d2 d3 d4 n (abstract_read d2 n (by_close d3)) (suffixes_read d4 n (loose stop) _ (omega arith))
  abstract_read (plain_abstract d0 h d1) (suc n) stop = plain_abstract_by d0 h d1 n stop (suffixes_read d1 n (loose stop) _ (omega arith))

  pub named_read : {names : List (List ℕ)} {ts rest : List Token} {a : Declarator} (d : DeclaratorAt names ts a rest) (n : ℕ) → follow rest < 14 → NamedReads d n
  named_read d zero stop = named_deep d
  named_read (plain_declarator d0 d1 d2) (suc n) stop = plain_named_by d0 d1 d2 n (suffixes_read d2 n stop _ (omega arith))
  named_read {names = names} (group_declarator {r2 = r2} d0 d1 d2 d3 d4) (suc n) stop =
      group_named_by d0 d1 d2 d3 d4 n (declarator_read d2 n (suffixes_after d3)) (named_read d2 n (suffixes_after d3)) (suffixes_read d4 n stop _ (omega arith)) (next_is_name names r2) refl

  pub unnamed_read : {names : List (List ℕ)} {ts rest : List Token} {a : Abstract} (d : AbstractAt names ts a rest) (n : ℕ) → Ended rest → UnnamedReads d n
  unnamed_read d zero stop = unnamed_deep d stop
  unnamed_read (group_abstract d0 h d1 d2 d3 d4) (suc n) stop = group_unnamed_by d0 h d1 d2 d3 d4 n (unnamed_read d2 n (by_close d3)) (suffixes_read d4 n (loose stop) _ (omega arith))
  unnamed_read (plain_abstract d0 h d1) (suc n) stop = plain_unnamed_by d0 h d1 n stop (suffixes_read d1 n (loose stop) _ (omega arith))
