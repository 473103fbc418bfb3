-- What it is that a reader answers what derives: the part, or its first token that is nested too deeply.
use Rattle.std.specs.Prelude.{ℕ, List, Option}
use Rattle.c_lex.specs.declared.token.Token.{Token}
use Rattle.c_lex.specs.declared.token.Punct.TheVariants as mark
use Rattle.c_grammar.specs.declared.tokens.Sign.TheVariants.{Mark}
use Rattle.c_ast.specs.declared.expr.Abstract.{Abstract}
use Rattle.c_ast.specs.declared.expr.Access.{Access}
use Rattle.c_ast.specs.declared.expr.Declarator.{Declarator}
use Rattle.c_ast.specs.declared.expr.EnumSpec.{EnumSpec}
use Rattle.c_ast.specs.declared.expr.Enumerator.{Enumerator}
use Rattle.c_ast.specs.declared.expr.Expr.{Expr}
use Rattle.c_ast.specs.declared.expr.Link.{Link}
use Rattle.c_ast.specs.declared.expr.Next.{Next as After}
use Rattle.c_ast.specs.declared.expr.Member.{Member}
use Rattle.c_ast.specs.declared.expr.Param.{Param}
use Rattle.c_ast.specs.declared.expr.Params.{Params}
use Rattle.c_ast.specs.declared.expr.Spec.{Spec}
use Rattle.c_ast.specs.declared.expr.StructSpec.{StructSpec}
use Rattle.c_ast.specs.declared.expr.Suffix.{Suffix}
use Rattle.c_ast.specs.declared.expr.TypeName.{TypeName}
use Rattle.c_grammar.specs.declared.either.Either.TheVariants as either
use Rattle.c_grammar.specs.Tokens.{next_is, has, op_of, begins_access, begins_spec, comma_more, begins_suffix}
use Rattle.c_grammar.specs.Grammar.{ExprAt, Assign, Cond, Cast, TypeNameAt, Unary, Stepped, SizeofAt, Postfix, AccessAt, Args, Primary, SpecsAt, SpecAt, StructAt, Members, MemberAt, EnumAt, Enumrs, EnumrAt, DeclaratorAt, SuffixAt, OptCond, ParamsAt, ParamAt, AbstractAt, Binary, MoreOps, MoreCommas, MoreExprs, Accesses, MoreSpecs, MoreMembers, MoreDeclarators, MoreEnumrs, Suffixes, MoreParams}
use Rattle.c_grammar.specs.Reading.{levels, repeat, read_access, read_access_item, read_args, read_binary, read_comma_item, read_declarator_item, read_enumr, read_enumr_item, read_enumrs, read_enums, read_expr, read_expr_item, read_member, read_member_item, read_members, read_op_item, read_opt_cond, read_param, read_param_item, read_params, read_postfix, read_primary, read_size_of, read_spec, read_spec_item, read_specs, read_suffix, read_suffix_item, read_typename, read_unary}
use Rattle.c_grammar.specs.Nesting.{deep_access, deep_accesses, deep_args, deep_assign, deep_binary, deep_cast, deep_cond, deep_declarator, deep_enumr, deep_enumrs, deep_enums, deep_expr, deep_member, deep_members, deep_more_commas, deep_more_declarators, deep_more_enumrs, deep_more_exprs, deep_more_members, deep_more_ops, deep_more_params, deep_more_specs, deep_nameless, deep_opt_cond, deep_param, deep_params, deep_postfix, deep_primary, deep_size_of, deep_spec, deep_specs, deep_stepped, deep_structs, deep_suffix, deep_suffixes, deep_typename, deep_unary}
use Rattle.grammar_laws.proofs.Steps.{Answers}

abbrev pub ExprReads : {names : List (List ℕ)} {ts rest : List Token} {a : Expr} → ExprAt names ts a rest → ℕ → Type 0
ExprReads {names = names} {ts = ts} {rest = rest} {a = a} d n = Answers (read_expr names (levels names n) ts) (deep_expr d n) (a, rest)

abbrev pub AssignReads : {names : List (List ℕ)} {ts rest : List Token} {a : Expr} → Assign names ts a rest → ℕ → Type 0
AssignReads {names = names} {ts = ts} {rest = rest} {a = a} d n = Answers ((levels names n).assign ts) (deep_assign d n) (a, rest)

abbrev pub CondReads : {names : List (List ℕ)} {ts rest : List Token} {a : Expr} → Cond names ts a rest → ℕ → Type 0
CondReads {names = names} {ts = ts} {rest = rest} {a = a} d n = Answers ((levels names n).cond ts) (deep_cond d n) (a, rest)

abbrev pub CastReads : {names : List (List ℕ)} {ts rest : List Token} {a : Expr} → Cast names ts a rest → ℕ → Type 0
CastReads {names = names} {ts = ts} {rest = rest} {a = a} d n = Answers ((levels names n).cast ts) (deep_cast d n) (a, rest)

abbrev pub TypeNameReads : {names : List (List ℕ)} {ts rest : List Token} {a : TypeName} → TypeNameAt names ts a rest → ℕ → Type 0
TypeNameReads {names = names} {ts = ts} {rest = rest} {a = a} d n = Answers (read_typename names (levels names n) ts) (deep_typename d n) (a, rest)

abbrev pub UnaryReads : {names : List (List ℕ)} {ts rest : List Token} {a : Expr} → Unary names ts a rest → ℕ → Type 0
UnaryReads {names = names} {ts = ts} {rest = rest} {a = a} d n = Answers (read_unary names (levels names n) ts) (deep_unary d n) (a, rest)

abbrev pub SteppedReads : {names : List (List ℕ)} {ts rest : List Token} {a : Expr} → Stepped names ts a rest → ℕ → Type 0
SteppedReads {names = names} {ts = ts} {rest = rest} {a = a} d n = Answers ((levels names n).stepped ts) (deep_stepped d n) (a, rest)

abbrev pub SizeofReads : {names : List (List ℕ)} {ts rest : List Token} {a : Expr} → SizeofAt names ts a rest → ℕ → Type 0
SizeofReads {names = names} {ts = ts} {rest = rest} {a = a} d n = Answers (read_size_of names (levels names n) ts) (deep_size_of d n) (a, rest)

abbrev pub PostfixReads : {names : List (List ℕ)} {ts rest : List Token} {a : Expr} → Postfix names ts a rest → ℕ → Type 0
PostfixReads {names = names} {ts = ts} {rest = rest} {a = a} d n = Answers (read_postfix names (levels names n) ts) (deep_postfix d n) (a, rest)

abbrev pub AccessReads : {names : List (List ℕ)} {ts rest : List Token} {a : Access} → AccessAt names ts a rest → ℕ → Type 0
AccessReads {names = names} {ts = ts} {rest = rest} {a = a} d n = Answers (read_access names (levels names n) ts) (deep_access d n) (a, rest)

abbrev pub ArgsReads : {names : List (List ℕ)} {ts rest : List Token} {a : List Expr} → Args names ts a rest → ℕ → Type 0
ArgsReads {names = names} {ts = ts} {rest = rest} {a = a} d n = Answers (read_args names (levels names n) ts) (deep_args d n) (a, rest)

abbrev pub PrimaryReads : {names : List (List ℕ)} {ts rest : List Token} {a : Expr} → Primary names ts a rest → ℕ → Type 0
PrimaryReads {names = names} {ts = ts} {rest = rest} {a = a} d n = Answers (read_primary names (levels names n) ts) (deep_primary d n) (a, rest)

abbrev pub SpecsReads : {names : List (List ℕ)} {ts rest : List Token} {a : List Spec} → SpecsAt names ts a rest → ℕ → Type 0
SpecsReads {names = names} {ts = ts} {rest = rest} {a = a} d n = Answers (read_specs names (levels names n) ts) (deep_specs d n) (a, rest)

abbrev pub SpecReads : {names : List (List ℕ)} {ts rest : List Token} {a : Spec} → SpecAt names ts a rest → ℕ → Type 0
SpecReads {names = names} {ts = ts} {rest = rest} {a = a} d n = Answers (read_spec names (levels names n) ts) (deep_spec d n) (a, rest)

abbrev pub StructReads : {names : List (List ℕ)} {ts rest : List Token} {a : StructSpec} → StructAt names ts a rest → ℕ → Type 0
StructReads {names = names} {ts = ts} {rest = rest} {a = a} d n = Answers ((levels names n).structs ts) (deep_structs d n) (a, rest)

abbrev pub MembersReads : {names : List (List ℕ)} {ts rest : List Token} {a : List Member} → Members names ts a rest → ℕ → Type 0
MembersReads {names = names} {ts = ts} {rest = rest} {a = a} d n = Answers (read_members names (levels names n) ts) (deep_members d n) (a, rest)

abbrev pub MemberReads : {names : List (List ℕ)} {ts rest : List Token} {a : Member} → MemberAt names ts a rest → ℕ → Type 0
MemberReads {names = names} {ts = ts} {rest = rest} {a = a} d n = Answers (read_member names (levels names n) ts) (deep_member d n) (a, rest)

abbrev pub EnumReads : {names : List (List ℕ)} {ts rest : List Token} {a : EnumSpec} → EnumAt names ts a rest → ℕ → Type 0
EnumReads {names = names} {ts = ts} {rest = rest} {a = a} d n = Answers (read_enums names (levels names n) ts) (deep_enums d n) (a, rest)

abbrev pub EnumrsReads : {names : List (List ℕ)} {ts rest : List Token} {a : List Enumerator} → Enumrs names ts a rest → ℕ → Type 0
EnumrsReads {names = names} {ts = ts} {rest = rest} {a = a} d n = Answers (read_enumrs names (levels names n) ts) (deep_enumrs d n) (a, rest)

abbrev pub EnumrReads : {names : List (List ℕ)} {ts rest : List Token} {a : Enumerator} → EnumrAt names ts a rest → ℕ → Type 0
EnumrReads {names = names} {ts = ts} {rest = rest} {a = a} d n = Answers (read_enumr names (levels names n) ts) (deep_enumr d n) (a, rest)

abbrev pub DeclaratorReads : {names : List (List ℕ)} {ts rest : List Token} {a : Declarator} → DeclaratorAt names ts a rest → ℕ → Type 0
DeclaratorReads {names = names} {ts = ts} {rest = rest} {a = a} d n = Answers ((levels names n).declarator ts) (deep_declarator d n) (a, rest)

abbrev pub SuffixReads : {names : List (List ℕ)} {ts rest : List Token} {a : Suffix} → SuffixAt names ts a rest → ℕ → Type 0
SuffixReads {names = names} {ts = ts} {rest = rest} {a = a} d n = Answers (read_suffix names (levels names n) ts) (deep_suffix d n) (a, rest)

abbrev pub OptCondReads : {names : List (List ℕ)} {ts rest : List Token} {a : Option Expr} → OptCond names ts a rest → ℕ → Type 0
OptCondReads {names = names} {ts = ts} {rest = rest} {a = a} d n = Answers (read_opt_cond names (levels names n) ts) (deep_opt_cond d n) (a, rest)

abbrev pub ParamsReads : {names : List (List ℕ)} {ts rest : List Token} {a : Params} → ParamsAt names ts a rest → ℕ → Type 0
ParamsReads {names = names} {ts = ts} {rest = rest} {a = a} d n = Answers (read_params names (levels names n) ts) (deep_params d n) (a, rest)

abbrev pub ParamReads : {names : List (List ℕ)} {ts rest : List Token} {a : Param} → ParamAt names ts a rest → ℕ → Type 0
ParamReads {names = names} {ts = ts} {rest = rest} {a = a} d n = Answers (read_param names (levels names n) ts) (deep_param d n) (a, rest)

abbrev pub AbstractReads : {names : List (List ℕ)} {ts rest : List Token} {a : Abstract} → AbstractAt names ts a rest → ℕ → Type 0
AbstractReads {names = names} {ts = ts} {rest = rest} {a = a} d n = Answers ((levels names n).nameless ts) (deep_nameless d n) (a, rest)

abbrev pub BinaryReads : {names : List (List ℕ)} {l : ℕ} {ts rest : List Token} {a : Expr} → Binary names l ts a rest → ℕ → Type 0
BinaryReads {names = names} {l = l} {ts = ts} {rest = rest} {a = a} d n = Answers (read_binary (levels names n) l ts) (deep_binary d n) (a, rest)

-- a declarator or an abstract declarator of a parameter
abbrev pub NamedReads : {names : List (List ℕ)} {ts rest : List Token} {a : Declarator} → DeclaratorAt names ts a rest → ℕ → Type 0
NamedReads {names = names} {ts = ts} {rest = rest} {a = a} d n = Answers ((levels names n).either ts) (deep_declarator d n) (either.Named a, rest)

abbrev pub UnnamedReads : {names : List (List ℕ)} {ts rest : List Token} {a : Abstract} → AbstractAt names ts a rest → ℕ → Type 0
UnnamedReads {names = names} {ts = ts} {rest = rest} {a = a} d n = Answers ((levels names n).either ts) (deep_nameless d n) (either.Unnamed a, rest)

-- ---- chains

abbrev pub MoreCommasReads : {names : List (List ℕ)} {ts rest : List Token} {so_far all : List After} → MoreCommas names ts so_far all rest → ℕ → ℕ → Type 0
MoreCommasReads {names = names} {ts = ts} {rest = rest} {so_far = so_far} {all = all} d n fuel = Answers (repeat (next_is (Mark mark.Comma)) (read_comma_item names (levels names n)) fuel so_far ts) (deep_more_commas d n) (all, rest)

abbrev pub MoreExprsReads : {names : List (List ℕ)} {ts rest : List Token} {so_far all : List Expr} → MoreExprs names ts so_far all rest → ℕ → ℕ → Type 0
MoreExprsReads {names = names} {ts = ts} {rest = rest} {so_far = so_far} {all = all} d n fuel = Answers (repeat (next_is (Mark mark.Comma)) (read_expr_item names (levels names n)) fuel so_far ts) (deep_more_exprs d n) (all, rest)

abbrev pub AccessesReads : {names : List (List ℕ)} {ts rest : List Token} {so_far all : List Access} → Accesses names ts so_far all rest → ℕ → ℕ → Type 0
AccessesReads {names = names} {ts = ts} {rest = rest} {so_far = so_far} {all = all} d n fuel = Answers (repeat begins_access (read_access_item names (levels names n)) fuel so_far ts) (deep_accesses d n) (all, rest)

abbrev pub MoreSpecsReads : {names : List (List ℕ)} {ts rest : List Token} {so_far all : List Spec} → MoreSpecs names ts so_far all rest → ℕ → ℕ → Type 0
MoreSpecsReads {names = names} {ts = ts} {rest = rest} {so_far = so_far} {all = all} d n fuel = Answers (repeat (begins_spec names) (read_spec_item names (levels names n)) fuel so_far ts) (deep_more_specs d n) (all, rest)

abbrev pub MoreMembersReads : {names : List (List ℕ)} {ts rest : List Token} {so_far all : List Member} → MoreMembers names ts so_far all rest → ℕ → ℕ → Type 0
MoreMembersReads {names = names} {ts = ts} {rest = rest} {so_far = so_far} {all = all} d n fuel = Answers (repeat (begins_spec names) (read_member_item names (levels names n)) fuel so_far ts) (deep_more_members d n) (all, rest)

abbrev pub MoreDeclaratorsReads : {names : List (List ℕ)} {ts rest : List Token} {so_far all : List Declarator} → MoreDeclarators names ts so_far all rest → ℕ → ℕ → Type 0
MoreDeclaratorsReads {names = names} {ts = ts} {rest = rest} {so_far = so_far} {all = all} d n fuel = Answers (repeat (next_is (Mark mark.Comma)) (read_declarator_item names (levels names n)) fuel so_far ts) (deep_more_declarators d n) (all, rest)

abbrev pub MoreEnumrsReads : {names : List (List ℕ)} {ts rest : List Token} {so_far all : List Enumerator} → MoreEnumrs names ts so_far all rest → ℕ → ℕ → Type 0
MoreEnumrsReads {names = names} {ts = ts} {rest = rest} {so_far = so_far} {all = all} d n fuel = Answers (repeat comma_more (read_enumr_item names (levels names n)) fuel so_far ts) (deep_more_enumrs d n) (all, rest)

abbrev pub SuffixesReads : {names : List (List ℕ)} {ts rest : List Token} {so_far all : List Suffix} → Suffixes names ts so_far all rest → ℕ → ℕ → Type 0
SuffixesReads {names = names} {ts = ts} {rest = rest} {so_far = so_far} {all = all} d n fuel = Answers (repeat begins_suffix (read_suffix_item names (levels names n)) fuel so_far ts) (deep_suffixes d n) (all, rest)

abbrev pub MoreParamsReads : {names : List (List ℕ)} {ts rest : List Token} {so_far all : List Param} → MoreParams names ts so_far all rest → ℕ → ℕ → Type 0
MoreParamsReads {names = names} {ts = ts} {rest = rest} {so_far = so_far} {all = all} d n fuel = Answers (repeat (next_is (Mark mark.Comma)) (read_param_item names (levels names n)) fuel so_far ts) (deep_more_params d n) (all, rest)

abbrev pub MoreOpsReads : {names : List (List ℕ)} {l : ℕ} {ts rest : List Token} {so_far all : List Link} → MoreOps names l ts so_far all rest → ℕ → ℕ → Type 0
MoreOpsReads {names = names} {l = l} {ts = ts} {rest = rest} {so_far = so_far} {all = all} d n fuel = Answers (repeat (has (op_of l)) (read_op_item (read_binary (levels names n) l) l) fuel so_far ts) (deep_more_ops d n) (all, rest)
