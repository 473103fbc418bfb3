-- What is read derives.
use Rattle.std.proofs.Common.{◌≡◌, ℕ, zero, suc, ◌<◌, Bool, true, false, ◌||◌, List, [], ◌∷◌, ◌++◌, length, Some, None, Ok, Err, if◌then◌else◌, refl, arith}
use Rattle.cm_base.specs.declared.place.Place.{Place}
use Rattle.c_lex.specs.declared.token.Keyword.TheVariants as word
use Rattle.c_lex.specs.declared.token.Punct.TheVariants as mark
use Rattle.c_lex.specs.declared.token.Token.{Token}
use Rattle.c_grammar.specs.declared.tokens.Sign.TheVariants.{Word, Mark}
use Rattle.c_ast.specs.declared.expr.One.{One}
use Rattle.c_ast.specs.declared.expr.One.TheVariants as one
use Rattle.c_ast.specs.declared.expr.Attr.{Attr}
use Rattle.c_ast.specs.declared.expr.Star.{Star}
use Rattle.c_ast.specs.declared.expr.Star.TheVariants as star
use Rattle.c_ast.specs.declared.expr.Expr.{Expr}
use Rattle.c_ast.specs.declared.expr.Expr.TheVariants as tree
use Rattle.c_ast.specs.declared.expr.Link.{Link}
use Rattle.c_ast.specs.declared.expr.Next.{Next as After}
use Rattle.c_ast.specs.declared.expr.Access.{Access}
use Rattle.c_ast.specs.declared.expr.Access.TheVariants as access
use Rattle.c_ast.specs.declared.expr.Spec.{Spec}
use Rattle.c_ast.specs.declared.expr.Spec.TheVariants as spec
use Rattle.c_ast.specs.declared.expr.StructSpec.TheVariants as structs
use Rattle.c_ast.specs.declared.expr.Member.{Member}
use Rattle.c_ast.specs.declared.expr.EnumSpec.TheVariants as enums
use Rattle.c_ast.specs.declared.expr.Enumerator.{Enumerator}
use Rattle.c_ast.specs.declared.expr.Declarator.{Declarator}
use Rattle.c_ast.specs.declared.expr.Suffix.{Suffix}
use Rattle.c_ast.specs.declared.expr.Params.TheVariants as params
use Rattle.c_ast.specs.declared.expr.Param.{Param}
use Rattle.c_ast.specs.declared.expr.Abstract.TheVariants as abstracts
use Rattle.c_ast.specs.declared.stmt.Initial.{Initial}
use Rattle.c_ast.specs.declared.stmt.Initial.TheVariants as initial
use Rattle.c_ast.specs.declared.stmt.Init.{Init}
use Rattle.c_ast.specs.declared.stmt.First.TheVariants as first
use Rattle.c_ast.specs.declared.stmt.Label.TheVariants as label
use Rattle.c_ast.specs.declared.stmt.Item.{Item}
use Rattle.c_ast.specs.declared.stmt.Item.TheVariants as item
use Rattle.c_ast.specs.declared.stmt.Part.{Part}
use Rattle.c_ast.specs.declared.stmt.Part.TheVariants as part
use Rattle.c_ast.specs.declared.stmt.Stmt.TheVariants as stmt
use Rattle.c_grammar.specs.Tokens.{◌>>=◌, deep, is, next_is, expect, has, take, next_is_name, name_of, type_of, number_of, char_of, string_of, assign_op_of, un_op_of, step_op_of, spec_word_of, op_of, begins_spec, begins_expr, begins_step, begins_label, type_follows, void_params, opens_group, begins_abstract, begins_either}
use Rattle.c_grammar.specs.Tokens.{group_token}
use Rattle.c_grammar.specs.Grammar.{one_with, one_plain, OneAt, no_one, next_one, MoreOnes, attr_, AttrAt, no_attr, next_attr, Attrs, no_lead, next_lead, LeadAttrs, star_star, star_const, star_volatile, star_attr, StarAt, no_star, next_star, MoreStars, some_stars, no_stars, Stars, a_comma, no_comma, OptComma, exprs, ExprAt, no_commas, next_comma, MoreCommas, no_expr, next_expr, MoreExprs, assigned, only_cond, Assign, chosen, only_binary, Cond, converted, only_unary, Cast, type_name, TypeNameAt, counted_unary, prefixed, only_postfix, Unary, step_before, a_sizeof, Stepped, sizeof_type, sizeof_expr, SizeofAt, postfixed, Postfix, no_access, next_access, Accesses, indexed, called, member_of, member_behind, step_after, AccessAt, some_args, no_args, Args, a_name, a_number, a_char, a_string, grouped, Primary, some_specs, SpecsAt, no_spec, next_spec, MoreSpecs, a_word, a_struct, an_enum, an_attr, a_type, SpecAt, struct_body, struct_tag, struct_plain, StructAt, braced_members, Members, no_member, next_member, MoreMembers, a_member, MemberAt, no_declarator, next_declarator, MoreDeclarators, enum_body, enum_tag, enum_plain, EnumAt, braced_enumrs, Enumrs, no_enumr, next_enumr, MoreEnumrs, enumr_value, enumr_plain, EnumrAt, plain_declarator, group_declarator, DeclaratorAt, no_suffix, next_suffix, Suffixes, array_suffix, params_suffix, SuffixAt, a_cond, no_cond, OptCond, void_only, some_params, no_params, ParamsAt, no_param, next_param, MoreParams, group_abstract, plain_abstract, AbstractAt, Binary, MoreOps, only_cast, binaries, no_op, next_op, ParamAt, named_param, unnamed_param, Next}
use Rattle.c_grammar.specs.Units.{braced_initial, assign_initial, InitialAt, no_initial, next_initial, MoreInitials, init_value, init_plain, InitAt, no_init, next_init, MoreInits, bare_decl, inits_decl, DeclAt, an_expr, without_expr, OptExpr, first_decl, first_expr, FirstAt, case_label, default_label, LabelAt, braces, BlockAt, no_item, next_item, Items, decl_item, stmt_item, ItemAt, block_stmt, empty_stmt, return_stmt, break_stmt, continue_stmt, if_else, if_only, while_stmt, do_stmt, for_stmt, switch_stmt, expr_stmt, StmtAt, no_part, next_part, Parts, label_part, decl_part, stmt_part, PartAt}
use Rattle.c_grammar.specs.Reading.{Readers, grouped_either, levels, no_either, no_nameless, opens_name, param_of, read_access, read_access_item, read_accesses, read_after_stars, read_args, read_array_suffix, read_assign, read_assigned, read_attr, read_attr_item, read_attrs, read_bare_either, read_binary, read_block, read_braced_initial, read_called, read_case_label, read_cast, read_chosen, read_cond, read_converted, read_decl, read_declarator, read_declarator_item, read_do_stmt, read_either, read_enum_named, read_enumr, read_enumr_item, read_enumr_value, read_enumrs, read_enums, read_expr, read_comma_item, read_expr_item, read_first, read_for_stmt, read_group_abstract, read_group_declarator, read_group_either, read_grouped, read_if_else, read_if_stmt, read_indexed, read_init, read_init_end, read_init_item, read_init_value, read_initial, read_initial_item, read_inits_decl, read_item, read_item_item, read_items, read_label, read_lead_attrs, read_lead_item, read_member, read_member_item, read_members, read_more_declarators, read_more_enumrs, read_more_commas, read_more_exprs, read_more_initials, read_more_inits, read_more_members, read_more_ones, read_more_ops, read_more_params, read_more_specs, read_more_stars, read_named_either, read_nameless, read_one, read_one_item, read_one_with, read_op_item, read_opt_comma, read_opt_cond, read_opt_expr, read_param, read_param_item, read_params, read_params_suffix, read_part, read_part_item, read_parts, read_plain_declarator, read_plain_either, read_postfix, read_prefixed, read_primary, read_return_stmt, read_size_of, read_sizeof_expr, read_sizeof_type, read_some_args, read_some_params, read_some_stars, read_spec, read_spec_item, read_specs, read_star, read_star_item, read_stars, read_step_before, read_stepped, read_stmt, read_struct_named, read_structs, read_suffix, read_suffix_item, read_suffixes, read_switch_stmt, read_typename, read_unary, read_while_stmt}
use Rattle.c_grammar.specs.declared.either.Either.{Either}
use Rattle.c_grammar.specs.declared.either.Either.TheVariants as either
use Rattle.c_grammar.proofs.Soundness.{Sound, and_so, done, fails, either, weaker, repeat_sound, repeat_sound_end, expect_sound, take_sound}
use Rattle.c_grammar.proofs.Shrinks.{spec_shrinks}

module _ (names : List (List ℕ)) where
  pub one_sound : (ts : List Token) → Sound (OneAt names ts) (read_one names ts)
  unfolding read_one read_one_with
  one_sound ts = and_so _ (take_sound (name_of names) ts) (λ n r1 d0. either (next_is (Mark mark.ParenOpen) r1) (read_one_with names n r1) (Ok (one.Plain n, r1)) (λ y0. and_so _ (expect_sound (Mark mark.ParenOpen) r1) (λ o r2 d1. and_so _ (take_sound string_of r2) (λ s r3 d2. and_so _ (expect_sound (Mark mark.ParenClose) r3) (λ c r4 d3. done (one_with d0 d1 d2 d3))))) (λ n0. done (one_plain d0)))

  one_item_sound : (so_far : List One) (ts : List Token) → Sound (λ b r. (all : List One) (rest : List Token) → MoreOnes names r b all rest → MoreOnes names ts so_far all rest) (read_one_item names so_far ts)
  unfolding read_one_item
  one_item_sound so_far ts = and_so _ (expect_sound (Mark mark.Comma) ts) (λ k r1 d0. and_so _ (one_sound r1) (λ x r2 d1. done (λ all rest m. next_one d0 d1 m)))

  pub more_ones_sound : (so_far : List One) (ts : List Token) → Sound (MoreOnes names ts so_far) (read_more_ones names so_far ts)
  unfolding read_more_ones
  more_ones_sound so_far ts = repeat_sound (MoreOnes names) _ _ (λ ts a. no_one) one_item_sound (length ts) so_far ts

  pub attr_sound : (ts : List Token) → Sound (AttrAt names ts) (read_attr names ts)
  unfolding read_attr
  attr_sound ts = and_so _ (expect_sound (Word word.Attribute) ts) (λ p r1 d0. and_so _ (expect_sound (Mark mark.ParenOpen) r1) (λ o r2 d1. and_so _ (expect_sound (Mark mark.ParenOpen) r2) (λ o2 r3 d2. and_so _ (one_sound r3) (λ x r4 d3. and_so _ (more_ones_sound (x ∷ []) r4) (λ xs r5 d4. and_so _ (expect_sound (Mark mark.ParenClose) r5) (λ c r6 d5. and_so _ (expect_sound (Mark mark.ParenClose) r6) (λ c2 r7 d6. done (attr_ d0 d1 d2 d3 d4 d5 d6))))))))

  attr_item_sound : (so_far : List Attr) (ts : List Token) → Sound (λ b r. (all : List Attr) (rest : List Token) → Attrs names r b all rest → Attrs names ts so_far all rest) (read_attr_item names so_far ts)
  unfolding read_attr_item
  attr_item_sound so_far ts = and_so _ (attr_sound ts) (λ a r1 d0. done (λ all rest m. next_attr d0 m))

  pub attrs_sound : (so_far : List Attr) (ts : List Token) → Sound (Attrs names ts so_far) (read_attrs names so_far ts)
  unfolding read_attrs
  attrs_sound so_far ts = repeat_sound (Attrs names) _ _ (λ ts a. no_attr) attr_item_sound (length ts) so_far ts

  lead_item_sound : (so_far : List Star) (ts : List Token) → Sound (λ b r. (all : List Star) (rest : List Token) → LeadAttrs names r b all rest → LeadAttrs names ts so_far all rest) (read_lead_item names so_far ts)
  unfolding read_lead_item
  lead_item_sound so_far ts = and_so _ (attr_sound ts) (λ a r1 d0. done (λ all rest m. next_lead d0 m))

  pub lead_attrs_sound : (so_far : List Star) (ts : List Token) → Sound (LeadAttrs names ts so_far) (read_lead_attrs names so_far ts)
  unfolding read_lead_attrs
  lead_attrs_sound so_far ts = repeat_sound (LeadAttrs names) _ _ (λ ts a. no_lead) lead_item_sound (length ts) so_far ts

  pub star_sound : (ts : List Token) → Sound (StarAt names ts) (read_star names ts)
  unfolding read_star
  star_sound ts = either (next_is (Mark mark.Star) ts) (expect (Mark mark.Star) ts >>= (λ p. Ok (star.Star p.0, p.1))) (if next_is (Word word.Const) ts then (expect (Word word.Const) ts >>= (λ p. Ok (star.Const p.0, p.1))) else if next_is (Word word.Volatile) ts then (expect (Word word.Volatile) ts >>= (λ p. Ok (star.Volatile p.0, p.1))) else read_attr names ts >>= (λ a. Ok (star.Attr a.0, a.1))) (λ y0. and_so _ (expect_sound (Mark mark.Star) ts) (λ p r1 d0. done (star_star d0))) (λ n0. either (next_is (Word word.Const) ts) (expect (Word word.Const) ts >>= (λ p. Ok (star.Const p.0, p.1))) (if next_is (Word word.Volatile) ts then (expect (Word word.Volatile) ts >>= (λ p. Ok (star.Volatile p.0, p.1))) else read_attr names ts >>= (λ a. Ok (star.Attr a.0, a.1))) (λ y1. and_so _ (expect_sound (Word word.Const) ts) (λ p r1 d0. done (star_const d0))) (λ n1. either (next_is (Word word.Volatile) ts) (expect (Word word.Volatile) ts >>= (λ p. Ok (star.Volatile p.0, p.1))) (read_attr names ts >>= (λ a. Ok (star.Attr a.0, a.1))) (λ y2. and_so _ (expect_sound (Word word.Volatile) ts) (λ p r1 d0. done (star_volatile d0))) (λ n2. and_so _ (attr_sound ts) (λ a r1 d0. done (star_attr d0)))))

  star_item_sound : (so_far : List Star) (ts : List Token) → Sound (λ b r. (all : List Star) (rest : List Token) → MoreStars names r b all rest → MoreStars names ts so_far all rest) (read_star_item names so_far ts)
  unfolding read_star_item
  star_item_sound so_far ts = and_so _ (star_sound ts) (λ x r1 d0. done (λ all rest m. next_star d0 m))

  pub more_stars_sound : (so_far : List Star) (ts : List Token) → Sound (MoreStars names ts so_far) (read_more_stars names so_far ts)
  unfolding read_more_stars
  more_stars_sound so_far ts = repeat_sound (MoreStars names) _ _ (λ ts a. no_star) star_item_sound (length ts) so_far ts

  pub stars_sound : (ts : List Token) → Sound (Stars names ts) (read_stars names ts)
  unfolding read_stars read_some_stars
  stars_sound ts = and_so _ (lead_attrs_sound [] ts) (λ a r1 d0. either (next_is (Mark mark.Star) r1) (read_some_stars names a r1) (Ok (a, r1)) (λ y0. and_so _ (expect_sound (Mark mark.Star) r1) (λ p r2 d1. weaker (λ xs rest d2. some_stars d0 d1 d2) (more_stars_sound (a ++ star.Star p ∷ []) r2))) (λ n0. done (no_stars d0)))

pub opt_comma_sound : (ts : List Token) → Sound (OptComma ts) (read_opt_comma ts)
unfolding read_opt_comma
opt_comma_sound ts = either (next_is (Mark mark.Comma) ts) (expect (Mark mark.Comma) ts >>= (λ p. Ok (true, p.1))) (Ok (false, ts)) (λ y0. and_so _ (expect_sound (Mark mark.Comma) ts) (λ p r1 d0. done (a_comma d0))) (λ n0. done (no_comma))

-- a declarator, with or without a name
abbrev pub EitherAt : List (List ℕ) → List Token → Either → List Token → Type 0
EitherAt names ts (either.Named d) r = DeclaratorAt names ts d r
EitherAt names ts (either.Unnamed a) r = AbstractAt names ts a r

-- the readers of a level answer what is so
pub record Sounds (names : List (List ℕ)) (below : Readers) : Type 0 where
  pub assign : (ts : List Token) → Sound (Assign names ts) (below.assign ts)
  pub cond : (ts : List Token) → Sound (Cond names ts) (below.cond ts)
  pub cast : (ts : List Token) → Sound (Cast names ts) (below.cast ts)
  pub stepped : (ts : List Token) → Sound (Stepped names ts) (below.stepped ts)
  pub structs : (ts : List Token) → Sound (StructAt names ts) (below.structs ts)
  pub declarator : (ts : List Token) → Sound (DeclaratorAt names ts) (below.declarator ts)
  pub nameless : (ts : List Token) → Sound (AbstractAt names ts) (below.nameless ts)
  pub initials : (ts : List Token) → Sound (InitialAt names ts) (below.initials ts)
  pub stmts : (ts : List Token) → Sound (StmtAt names ts) (below.stmts ts)
  pub either : (ts : List Token) → Sound (EitherAt names ts) (below.either ts)

module _ (names : List (List ℕ)) (below : Readers) (h : Sounds names below) where
  expr_item_sound : (so_far : List Expr) (ts : List Token) → Sound (λ b r. (all : List Expr) (rest : List Token) → MoreExprs names r b all rest → MoreExprs names ts so_far all rest) (read_expr_item names below so_far ts)
  unfolding read_expr_item
  expr_item_sound so_far ts = and_so _ (expect_sound (Mark mark.Comma) ts) (λ k r1 d0. and_so _ (h.assign r1) (λ b r2 d1. done (λ all rest m. next_expr d0 d1 m)))

  comma_item_sound : (so_far : List After) (ts : List Token) → Sound (λ b r. (all : List After) (rest : List Token) → MoreCommas names r b all rest → MoreCommas names ts so_far all rest) (read_comma_item names below so_far ts)
  unfolding read_comma_item
  comma_item_sound so_far ts = and_so _ (expect_sound (Mark mark.Comma) ts) (λ k r1 d0. and_so _ (h.assign r1) (λ b r2 d1. done (λ all rest m. next_comma d0 d1 m)))

  pub more_commas_sound : (so_far : List After) (ts : List Token) → Sound (MoreCommas names ts so_far) (read_more_commas names below so_far ts)
  unfolding read_more_commas
  more_commas_sound so_far ts = repeat_sound (MoreCommas names) _ _ (λ ts a. no_commas) comma_item_sound (length ts) so_far ts

  pub more_exprs_sound : (so_far : List Expr) (ts : List Token) → Sound (MoreExprs names ts so_far) (read_more_exprs names below so_far ts)
  unfolding read_more_exprs
  more_exprs_sound so_far ts = repeat_sound (MoreExprs names) _ _ (λ ts a. no_expr) expr_item_sound (length ts) so_far ts

  pub expr_sound : (ts : List Token) → Sound (ExprAt names ts) (read_expr names below ts)
  unfolding read_expr
  expr_sound ts = and_so _ (h.assign ts) (λ a r1 d0. and_so _ (more_commas_sound [] r1) (λ more r2 d1. done (exprs d0 d1)))

  pub assign_sound : (ts : List Token) → Sound (Assign names ts) (read_assign names below ts)
  unfolding read_assign read_assigned
  assign_sound ts = and_so _ (h.cond ts) (λ a r1 d0. either (has assign_op_of r1) (read_assigned names below a r1) (Ok (a, r1)) (λ y0. and_so _ (take_sound assign_op_of r1) (λ o r2 d1. and_so _ (h.assign r2) (λ b r3 d2. done (assigned d0 d1 d2)))) (λ n0. done (only_cond d0)))

  op_item_sound : (l : ℕ) → ((ts : List Token) → Sound (Binary names l ts) (read_binary below l ts)) → (so_far : List Link) (ts : List Token) →
      Sound (λ b r. (all : List Link) (rest : List Token) → MoreOps names l r b all rest → MoreOps names l ts so_far all rest) (read_op_item (read_binary below l) l so_far ts)
  unfolding read_op_item
  op_item_sound l operand so_far ts = and_so _ (take_sound (op_of l) ts) (λ o r1 d0. and_so _ (operand r1) (λ b r2 d1. done (λ all rest m. next_op d0 d1 m)))

  pub binary_sound : (l : ℕ) (ts : List Token) → Sound (Binary names l ts) (read_binary below l ts)
  unfolding read_binary read_more_ops
  binary_sound zero ts = weaker (λ a rest d. only_cast d) (h.cast ts)
  binary_sound (suc l) ts = and_so _ (binary_sound l ts) (λ a r1 d0. and_so _ (repeat_sound (MoreOps names l) _ _ (λ ts a. no_op) (op_item_sound l (binary_sound l)) (length r1) [] r1) (λ more r2 d1. done (binaries d0 d1)))

  pub cond_sound : (ts : List Token) → Sound (Cond names ts) (read_cond names below ts)
  unfolding read_cond read_chosen
  cond_sound ts = and_so _ (binary_sound 10 ts) (λ a r1 d0. either (next_is (Mark mark.Question) r1) (read_chosen names below a r1) (Ok (a, r1)) (λ y0. and_so _ (expect_sound (Mark mark.Question) r1) (λ k r2 d1. and_so _ (expr_sound r2) (λ b r3 d2. and_so _ (expect_sound (Mark mark.Colon) r3) (λ c r4 d3. and_so _ (h.cond r4) (λ d r5 d4. done (chosen d0 d1 d2 d3 d4)))))) (λ n0. done (only_binary d0)))

  pub enumr_sound : (ts : List Token) → Sound (EnumrAt names ts) (read_enumr names below ts)
  unfolding read_enumr read_enumr_value
  enumr_sound ts = and_so _ (take_sound (name_of names) ts) (λ n r1 d0. either (next_is (Mark mark.Assign) r1) (read_enumr_value names below n r1) (Ok (record { name = n; value = None }, r1)) (λ y0. and_so _ (expect_sound (Mark mark.Assign) r1) (λ k r2 d1. and_so _ (h.cond r2) (λ e r3 d2. done (enumr_value d0 d1 d2)))) (λ n0. done (enumr_plain d0)))

  enumr_item_sound : (so_far : List Enumerator) (ts : List Token) → Sound (λ b r. (all : List Enumerator) (rest : List Token) → MoreEnumrs names r b all rest → MoreEnumrs names ts so_far all rest) (read_enumr_item names below so_far ts)
  unfolding read_enumr_item
  enumr_item_sound so_far ts = and_so _ (expect_sound (Mark mark.Comma) ts) (λ k r1 d0. and_so _ (enumr_sound r1) (λ m r2 d1. done (λ all rest m. next_enumr d0 d1 m)))

  pub more_enumrs_sound : (so_far : List Enumerator) (ts : List Token) → Sound (MoreEnumrs names ts so_far) (read_more_enumrs names below so_far ts)
  unfolding read_more_enumrs
  more_enumrs_sound so_far ts = repeat_sound (MoreEnumrs names) _ _ (λ ts a. no_enumr) enumr_item_sound (length ts) so_far ts

  pub enumrs_sound : (ts : List Token) → Sound (Enumrs names ts) (read_enumrs names below ts)
  unfolding read_enumrs
  enumrs_sound ts = and_so _ (expect_sound (Mark mark.BraceOpen) ts) (λ o r1 d0. and_so _ (enumr_sound r1) (λ m r2 d1. and_so _ (more_enumrs_sound (m ∷ []) r2) (λ xs r3 d2. and_so _ (opt_comma_sound r3) (λ b r4 d3. and_so _ (expect_sound (Mark mark.BraceClose) r4) (λ c r5 d4. done (braced_enumrs d0 d1 d2 d3 d4))))))

  pub enums_sound : (ts : List Token) → Sound (EnumAt names ts) (read_enums names below ts)
  unfolding read_enums read_enum_named
  enums_sound ts = and_so _ (expect_sound (Word word.Enum) ts) (λ p r1 d0. either (next_is_name names r1) (read_enum_named names below p r1) (read_enumrs names below r1 >>= (λ xs. Ok (enums.Body p None xs.0, xs.1))) (λ y0. and_so _ (take_sound (name_of names) r1) (λ n r2 d1. either (next_is (Mark mark.BraceOpen) r2) (read_enumrs names below r2 >>= (λ xs. Ok (enums.Body p (Some n) xs.0, xs.1))) (Ok (enums.Tag p n, r2)) (λ y1. and_so _ (enumrs_sound r2) (λ xs r3 d2. done (enum_body d0 d1 d2))) (λ n1. done (enum_tag d0 d1 n1)))) (λ n0. and_so _ (enumrs_sound r1) (λ xs r2 d1. done (enum_plain d0 d1))))

  pub spec_sound : (ts : List Token) → Sound (SpecAt names ts) (read_spec names below ts)
  unfolding read_spec
  spec_sound ts = either (has spec_word_of ts) (take spec_word_of ts >>= (λ w. Ok (spec.Word w.0.0 w.0.1, w.1))) (if next_is (Word word.Struct) ts then (below.structs ts >>= (λ s. Ok (spec.Struct s.0, s.1))) else if next_is (Word word.Enum) ts then (read_enums names below ts >>= (λ e. Ok (spec.Enum e.0, e.1))) else if next_is (Word word.Attribute) ts then (read_attr names ts >>= (λ a. Ok (spec.Attr a.0, a.1))) else take (type_of names) ts >>= (λ n. Ok (spec.TypeName n.0, n.1))) (λ y0. and_so _ (take_sound spec_word_of ts) (λ w r1 d0. done (a_word d0))) (λ n0. either (next_is (Word word.Struct) ts) (below.structs ts >>= (λ s. Ok (spec.Struct s.0, s.1))) (if next_is (Word word.Enum) ts then (read_enums names below ts >>= (λ e. Ok (spec.Enum e.0, e.1))) else if next_is (Word word.Attribute) ts then (read_attr names ts >>= (λ a. Ok (spec.Attr a.0, a.1))) else take (type_of names) ts >>= (λ n. Ok (spec.TypeName n.0, n.1))) (λ y1. and_so _ (h.structs ts) (λ s r1 d0. done (a_struct d0))) (λ n1. either (next_is (Word word.Enum) ts) (read_enums names below ts >>= (λ e. Ok (spec.Enum e.0, e.1))) (if next_is (Word word.Attribute) ts then (read_attr names ts >>= (λ a. Ok (spec.Attr a.0, a.1))) else take (type_of names) ts >>= (λ n. Ok (spec.TypeName n.0, n.1))) (λ y2. and_so _ (enums_sound ts) (λ e r1 d0. done (an_enum d0))) (λ n2. either (next_is (Word word.Attribute) ts) (read_attr names ts >>= (λ a. Ok (spec.Attr a.0, a.1))) (take (type_of names) ts >>= (λ n. Ok (spec.TypeName n.0, n.1))) (λ y3. and_so _ (attr_sound names ts) (λ a r1 d0. done (an_attr d0))) (λ n3. and_so _ (take_sound (type_of names) ts) (λ n r1 d0. done (a_type d0))))))

  spec_item_sound : (so_far : List Spec) (ts : List Token) → Sound (λ b r. (length r < length ts) × ((all : List Spec) (rest : List Token) → MoreSpecs names r b all rest → MoreSpecs names ts so_far all rest)) (read_spec_item names below so_far ts)
  unfolding read_spec_item
  spec_item_sound so_far ts = and_so _ (spec_sound ts) (λ s r1 d0. done ((spec_shrinks d0, λ all rest m. next_spec d0 m)))

  pub more_specs_sound : (so_far : List Spec) (ts : List Token) → Sound (MoreSpecs names ts so_far) (read_more_specs names below so_far ts)
  unfolding read_more_specs
  more_specs_sound so_far ts = repeat_sound_end (MoreSpecs names) _ _ refl (λ ts a e. no_spec e) spec_item_sound (length ts) so_far ts (omega arith)

  pub specs_sound : (ts : List Token) → Sound (SpecsAt names ts) (read_specs names below ts)
  unfolding read_specs
  specs_sound ts = and_so _ (spec_sound ts) (λ s r1 d0. weaker (λ xs rest d1. some_specs d0 d1) (more_specs_sound (s ∷ []) r1))

  pub typename_sound : (ts : List Token) → Sound (TypeNameAt names ts) (read_typename names below ts)
  unfolding read_typename
  typename_sound ts = and_so _ (specs_sound ts) (λ s r1 d0. and_so _ (h.nameless r1) (λ a r2 d1. done (type_name d0 d1)))

  pub primary_sound : (ts : List Token) → Sound (Primary names ts) (read_primary names below ts)
  unfolding read_primary read_grouped
  primary_sound ts = either (next_is_name names ts) (take (name_of names) ts >>= (λ n. Ok (tree.Name n.0, n.1))) (if has number_of ts then take number_of ts else if has char_of ts then take char_of ts else if has string_of ts then (take string_of ts >>= (λ s. Ok (tree.Str s.0.0 s.0.1, s.1))) else read_grouped names below ts) (λ y0. and_so _ (take_sound (name_of names) ts) (λ n r1 d0. done (a_name d0))) (λ n0. either (has number_of ts) (take number_of ts) (if has char_of ts then take char_of ts else if has string_of ts then (take string_of ts >>= (λ s. Ok (tree.Str s.0.0 s.0.1, s.1))) else read_grouped names below ts) (λ y1. weaker (λ e rest d0. a_number d0) (take_sound number_of ts)) (λ n1. either (has char_of ts) (take char_of ts) (if has string_of ts then (take string_of ts >>= (λ s. Ok (tree.Str s.0.0 s.0.1, s.1))) else read_grouped names below ts) (λ y2. weaker (λ e rest d0. a_char d0) (take_sound char_of ts)) (λ n2. either (has string_of ts) (take string_of ts >>= (λ s. Ok (tree.Str s.0.0 s.0.1, s.1))) (read_grouped names below ts) (λ y3. and_so _ (take_sound string_of ts) (λ s r1 d0. done (a_string d0))) (λ n3. and_so _ (expect_sound (Mark mark.ParenOpen) ts) (λ k r1 d0. and_so _ (expr_sound r1) (λ e r2 d1. and_so _ (expect_sound (Mark mark.ParenClose) r2) (λ c r3 d2. done (grouped d0 d1 d2))))))))

  pub args_sound : (ts : List Token) → Sound (Args names ts) (read_args names below ts)
  unfolding read_args read_some_args
  args_sound ts = either (begins_expr names ts) (read_some_args names below ts) (Ok ([], ts)) (λ y0. and_so _ (h.assign ts) (λ a r1 d0. weaker (λ xs rest d1. some_args d0 d1) (more_exprs_sound (a ∷ []) r1))) (λ n0. done (no_args))

  pub access_sound : (ts : List Token) → Sound (AccessAt names ts) (read_access names below ts)
  unfolding read_access read_indexed read_called
  access_sound ts = either (next_is (Mark mark.BracketOpen) ts) (read_indexed names below ts) (if next_is (Mark mark.ParenOpen) ts then read_called names below ts else if next_is (Mark mark.Dot) ts then (expect (Mark mark.Dot) ts >>= (λ k. take (name_of names) k.1 >>= (λ n. Ok (access.Member k.0 n.0, n.1)))) else if next_is (Mark mark.Arrow) ts then (expect (Mark mark.Arrow) ts >>= (λ k. take (name_of names) k.1 >>= (λ n. Ok (access.Arrow k.0 n.0, n.1)))) else take step_op_of ts >>= (λ o. Ok (access.Step o.0.0 o.0.1, o.1))) (λ y0. and_so _ (expect_sound (Mark mark.BracketOpen) ts) (λ k r1 d0. and_so _ (expr_sound r1) (λ e r2 d1. and_so _ (expect_sound (Mark mark.BracketClose) r2) (λ c r3 d2. done (indexed d0 d1 d2))))) (λ n0. either (next_is (Mark mark.ParenOpen) ts) (read_called names below ts) (if next_is (Mark mark.Dot) ts then (expect (Mark mark.Dot) ts >>= (λ k. take (name_of names) k.1 >>= (λ n. Ok (access.Member k.0 n.0, n.1)))) else if next_is (Mark mark.Arrow) ts then (expect (Mark mark.Arrow) ts >>= (λ k. take (name_of names) k.1 >>= (λ n. Ok (access.Arrow k.0 n.0, n.1)))) else take step_op_of ts >>= (λ o. Ok (access.Step o.0.0 o.0.1, o.1))) (λ y1. and_so _ (expect_sound (Mark mark.ParenOpen) ts) (λ k r1 d0. and_so _ (args_sound r1) (λ xs r2 d1. and_so _ (expect_sound (Mark mark.ParenClose) r2) (λ c r3 d2. done (called d0 d1 d2))))) (λ n1. either (next_is (Mark mark.Dot) ts) (expect (Mark mark.Dot) ts >>= (λ k. take (name_of names) k.1 >>= (λ n. Ok (access.Member k.0 n.0, n.1)))) (if next_is (Mark mark.Arrow) ts then (expect (Mark mark.Arrow) ts >>= (λ k. take (name_of names) k.1 >>= (λ n. Ok (access.Arrow k.0 n.0, n.1)))) else take step_op_of ts >>= (λ o. Ok (access.Step o.0.0 o.0.1, o.1))) (λ y2. and_so _ (expect_sound (Mark mark.Dot) ts) (λ k r1 d0. and_so _ (take_sound (name_of names) r1) (λ n r2 d1. done (member_of d0 d1)))) (λ n2. either (next_is (Mark mark.Arrow) ts) (expect (Mark mark.Arrow) ts >>= (λ k. take (name_of names) k.1 >>= (λ n. Ok (access.Arrow k.0 n.0, n.1)))) (take step_op_of ts >>= (λ o. Ok (access.Step o.0.0 o.0.1, o.1))) (λ y3. and_so _ (expect_sound (Mark mark.Arrow) ts) (λ k r1 d0. and_so _ (take_sound (name_of names) r1) (λ n r2 d1. done (member_behind d0 d1)))) (λ n3. and_so _ (take_sound step_op_of ts) (λ o r1 d0. done (step_after d0))))))

  access_item_sound : (so_far : List Access) (ts : List Token) → Sound (λ b r. (all : List Access) (rest : List Token) → Accesses names r b all rest → Accesses names ts so_far all rest) (read_access_item names below so_far ts)
  unfolding read_access_item
  access_item_sound so_far ts = and_so _ (access_sound ts) (λ x r1 d0. done (λ all rest m. next_access d0 m))

  pub accesses_sound : (so_far : List Access) (ts : List Token) → Sound (Accesses names ts so_far) (read_accesses names below so_far ts)
  unfolding read_accesses
  accesses_sound so_far ts = repeat_sound (Accesses names) _ _ (λ ts a. no_access) access_item_sound (length ts) so_far ts

  pub postfix_sound : (ts : List Token) → Sound (Postfix names ts) (read_postfix names below ts)
  unfolding read_postfix
  postfix_sound ts = and_so _ (primary_sound ts) (λ a r1 d0. and_so _ (accesses_sound [] r1) (λ more r2 d1. done (postfixed d0 d1)))

  pub unary_sound : (ts : List Token) → Sound (Unary names ts) (read_unary names below ts)
  unfolding read_unary read_prefixed
  unary_sound ts = either (begins_step ts) (below.stepped ts) (if has un_op_of ts then read_prefixed names below ts else read_postfix names below ts) (λ y0. weaker (λ e rest d0. counted_unary d0) (h.stepped ts)) (λ n0. either (has un_op_of ts) (read_prefixed names below ts) (read_postfix names below ts) (λ y1. and_so _ (take_sound un_op_of ts) (λ o r1 d0. and_so _ (h.cast r1) (λ e r2 d1. done (prefixed d0 d1)))) (λ n1. weaker (λ e rest d0. only_postfix d0) (postfix_sound ts)))

  pub cast_sound : (ts : List Token) → Sound (Cast names ts) (read_cast names below ts)
  unfolding read_cast read_converted
  cast_sound ts = either (type_follows names ts) (read_converted names below ts) (read_unary names below ts) (λ y0. and_so _ (expect_sound (Mark mark.ParenOpen) ts) (λ k r1 d0. and_so _ (typename_sound r1) (λ t r2 d1. and_so _ (expect_sound (Mark mark.ParenClose) r2) (λ c r3 d2. and_so _ (h.cast r3) (λ e r4 d3. done (converted d0 d1 d2 d3)))))) (λ n0. weaker (λ a rest d0. only_unary d0) (unary_sound ts))

  pub size_of_sound : (ts : List Token) → Sound (SizeofAt names ts) (read_size_of names below ts)
  unfolding read_size_of read_sizeof_type read_sizeof_expr
  size_of_sound ts = and_so _ (expect_sound (Word word.Sizeof) ts) (λ k r1 d0. either (type_follows names r1) (read_sizeof_type names below k r1) (read_sizeof_expr names below k r1) (λ y0. and_so _ (expect_sound (Mark mark.ParenOpen) r1) (λ o r2 d1. and_so _ (typename_sound r2) (λ t r3 d2. and_so _ (expect_sound (Mark mark.ParenClose) r3) (λ c r4 d3. done (sizeof_type d0 d1 d2 d3))))) (λ n0. and_so _ (unary_sound r1) (λ e r2 d1. done (sizeof_expr d0 d1))))

  pub stepped_sound : (ts : List Token) → Sound (Stepped names ts) (read_stepped names below ts)
  unfolding read_stepped read_step_before
  stepped_sound ts = either (has step_op_of ts) (read_step_before names below ts) (read_size_of names below ts) (λ y0. and_so _ (take_sound step_op_of ts) (λ o r1 d0. and_so _ (unary_sound r1) (λ e r2 d1. done (step_before d0 d1)))) (λ n0. weaker (λ e rest d0. a_sizeof d0) (size_of_sound ts))

  declarator_item_sound : (so_far : List Declarator) (ts : List Token) → Sound (λ b r. (all : List Declarator) (rest : List Token) → MoreDeclarators names r b all rest → MoreDeclarators names ts so_far all rest) (read_declarator_item names below so_far ts)
  unfolding read_declarator_item
  declarator_item_sound so_far ts = and_so _ (expect_sound (Mark mark.Comma) ts) (λ k r1 d0. and_so _ (h.declarator r1) (λ d r2 d1. done (λ all rest m. next_declarator d0 d1 m)))

  pub more_declarators_sound : (so_far : List Declarator) (ts : List Token) → Sound (MoreDeclarators names ts so_far) (read_more_declarators names below so_far ts)
  unfolding read_more_declarators
  more_declarators_sound so_far ts = repeat_sound (MoreDeclarators names) _ _ (λ ts a. no_declarator) declarator_item_sound (length ts) so_far ts

  pub member_sound : (ts : List Token) → Sound (MemberAt names ts) (read_member names below ts)
  unfolding read_member
  member_sound ts = and_so _ (specs_sound ts) (λ s r1 d0. and_so _ (h.declarator r1) (λ d r2 d1. and_so _ (more_declarators_sound (d ∷ []) r2) (λ ds r3 d2. and_so _ (expect_sound (Mark mark.Semicolon) r3) (λ c r4 d3. done (a_member d0 d1 d2 d3)))))

  member_item_sound : (so_far : List Member) (ts : List Token) → Sound (λ b r. (all : List Member) (rest : List Token) → MoreMembers names r b all rest → MoreMembers names ts so_far all rest) (read_member_item names below so_far ts)
  unfolding read_member_item
  member_item_sound so_far ts = and_so _ (member_sound ts) (λ m r1 d0. done (λ all rest m. next_member d0 m))

  pub more_members_sound : (so_far : List Member) (ts : List Token) → Sound (MoreMembers names ts so_far) (read_more_members names below so_far ts)
  unfolding read_more_members
  more_members_sound so_far ts = repeat_sound (MoreMembers names) _ _ (λ ts a. no_member) member_item_sound (length ts) so_far ts

  pub members_sound : (ts : List Token) → Sound (Members names ts) (read_members names below ts)
  unfolding read_members
  members_sound ts = and_so _ (expect_sound (Mark mark.BraceOpen) ts) (λ o r1 d0. and_so _ (member_sound r1) (λ m r2 d1. and_so _ (more_members_sound (m ∷ []) r2) (λ xs r3 d2. and_so _ (expect_sound (Mark mark.BraceClose) r3) (λ c r4 d3. done (braced_members d0 d1 d2 d3)))))

  pub structs_sound : (ts : List Token) → Sound (StructAt names ts) (read_structs names below ts)
  unfolding read_structs read_struct_named
  structs_sound ts = and_so _ (expect_sound (Word word.Struct) ts) (λ p r1 d0. either (next_is_name names r1) (read_struct_named names below p r1) (read_members names below r1 >>= (λ xs. Ok (structs.Body p None xs.0, xs.1))) (λ y0. and_so _ (take_sound (name_of names) r1) (λ n r2 d1. either (next_is (Mark mark.BraceOpen) r2) (read_members names below r2 >>= (λ xs. Ok (structs.Body p (Some n) xs.0, xs.1))) (Ok (structs.Tag p n, r2)) (λ y1. and_so _ (members_sound r2) (λ xs r3 d2. done (struct_body d0 d1 d2))) (λ n1. done (struct_tag d0 d1 n1)))) (λ n0. and_so _ (members_sound r1) (λ xs r2 d1. done (struct_plain d0 d1))))

  pub opt_cond_sound : (ts : List Token) → Sound (OptCond names ts) (read_opt_cond names below ts)
  unfolding read_opt_cond
  opt_cond_sound ts = either (begins_expr names ts) (below.cond ts >>= (λ e. Ok (Some e.0, e.1))) (Ok (None, ts)) (λ y0. and_so _ (h.cond ts) (λ e r1 d0. done (a_cond d0))) (λ n0. done (no_cond))

  param_by : (s : List Spec) (x : Either) (ts r1 rest : List Token) → SpecsAt names ts s r1 → EitherAt names r1 x rest → ParamAt names ts (param_of s x) rest
  param_by s (either.Named d) ts r1 rest d0 d1 = named_param d0 d1
  param_by s (either.Unnamed a) ts r1 rest d0 d1 = unnamed_param d0 d1

  pub param_sound : (ts : List Token) → Sound (ParamAt names ts) (read_param names below ts)
  unfolding read_param
  param_sound ts = and_so _ (specs_sound ts) (λ s r1 d0. and_so _ (h.either r1) (λ x rest d1. done (param_by s x ts r1 rest d0 d1)))

  param_item_sound : (so_far : List Param) (ts : List Token) → Sound (λ b r. (all : List Param) (rest : List Token) → MoreParams names r b all rest → MoreParams names ts so_far all rest) (read_param_item names below so_far ts)
  unfolding read_param_item
  param_item_sound so_far ts = and_so _ (expect_sound (Mark mark.Comma) ts) (λ k r1 d0. and_so _ (param_sound r1) (λ x r2 d1. done (λ all rest m. next_param d0 d1 m)))

  pub more_params_sound : (so_far : List Param) (ts : List Token) → Sound (MoreParams names ts so_far) (read_more_params names below so_far ts)
  unfolding read_more_params
  more_params_sound so_far ts = repeat_sound (MoreParams names) _ _ (λ ts a. no_param) param_item_sound (length ts) so_far ts

  pub params_sound : (ts : List Token) → Sound (ParamsAt names ts) (read_params names below ts)
  unfolding read_params read_some_params
  params_sound ts = either (void_params ts) (expect (Word word.Void) ts >>= (λ p. Ok (params.Void p.0, p.1))) (if begins_spec names ts then read_some_params names below ts else Ok (params.Empty, ts)) (λ y0. and_so _ (expect_sound (Word word.Void) ts) (λ p r1 d0. done (void_only d0))) (λ n0. either (begins_spec names ts) (read_some_params names below ts) (Ok (params.Empty, ts)) (λ y1. and_so _ (param_sound ts) (λ x r1 d0. and_so _ (more_params_sound (x ∷ []) r1) (λ xs r2 d1. done (some_params n0 d0 d1)))) (λ n1. done (no_params)))

  pub suffix_sound : (ts : List Token) → Sound (SuffixAt names ts) (read_suffix names below ts)
  unfolding read_suffix read_array_suffix read_params_suffix
  suffix_sound ts = either (next_is (Mark mark.BracketOpen) ts) (read_array_suffix names below ts) (read_params_suffix names below ts) (λ y0. and_so _ (expect_sound (Mark mark.BracketOpen) ts) (λ p r1 d0. and_so _ (opt_cond_sound r1) (λ e r2 d1. and_so _ (expect_sound (Mark mark.BracketClose) r2) (λ c r3 d2. done (array_suffix d0 d1 d2))))) (λ n0. and_so _ (expect_sound (Mark mark.ParenOpen) ts) (λ p r1 d0. and_so _ (params_sound r1) (λ xs r2 d1. and_so _ (expect_sound (Mark mark.ParenClose) r2) (λ c r3 d2. done (params_suffix d0 d1 d2)))))

  suffix_item_sound : (so_far : List Suffix) (ts : List Token) → Sound (λ b r. (all : List Suffix) (rest : List Token) → Suffixes names r b all rest → Suffixes names ts so_far all rest) (read_suffix_item names below so_far ts)
  unfolding read_suffix_item
  suffix_item_sound so_far ts = and_so _ (suffix_sound ts) (λ x r1 d0. done (λ all rest m. next_suffix d0 m))

  pub suffixes_sound : (so_far : List Suffix) (ts : List Token) → Sound (Suffixes names ts so_far) (read_suffixes names below so_far ts)
  unfolding read_suffixes
  suffixes_sound so_far ts = repeat_sound (Suffixes names) _ _ (λ ts a. no_suffix) suffix_item_sound (length ts) so_far ts

  pub declarator_sound : (ts : List Token) → Sound (DeclaratorAt names ts) (read_declarator names below ts)
  unfolding read_declarator read_plain_declarator read_group_declarator
  declarator_sound ts = and_so _ (stars_sound names ts) (λ s r1 d0. either (next_is_name names r1) (read_plain_declarator names below s r1) (read_group_declarator names below s r1) (λ y0. and_so _ (take_sound (name_of names) r1) (λ n r2 d1. and_so _ (suffixes_sound [] r2) (λ xs r3 d2. done (plain_declarator d0 d1 d2)))) (λ n0. and_so _ (expect_sound (Mark mark.ParenOpen) r1) (λ p r2 d1. and_so _ (h.declarator r2) (λ d r3 d2. and_so _ (expect_sound (Mark mark.ParenClose) r3) (λ c r4 d3. and_so _ (suffixes_sound [] r4) (λ xs r5 d4. done (group_declarator d0 d1 d2 d3 d4)))))))

  pub nameless_sound : (ts : List Token) → Sound (AbstractAt names ts) (read_nameless names below ts)
  unfolding read_nameless read_group_abstract
  nameless_sound ts = and_so _ (stars_sound names ts) (λ s r1 d0. either (opens_group r1) (read_group_abstract names below s r1) (read_suffixes names below [] r1 >>= (λ xs. Ok (abstracts.Plain s xs.0, xs.1))) (λ y0. and_so _ (expect_sound (Mark mark.ParenOpen) r1) (λ p r2 d1. and_so _ (h.nameless r2) (λ a r3 d2. and_so _ (expect_sound (Mark mark.ParenClose) r3) (λ c r4 d3. and_so _ (suffixes_sound [] r4) (λ xs r5 d4. done (group_abstract d0 y0 d1 d2 d3 d4)))))) (λ n0. and_so _ (suffixes_sound [] r1) (λ xs r2 d1. done (plain_abstract d0 n0 d1))))

  grouped_by : (s : List Star) (p c : Place) (x : Either) (xs : List Suffix) (ts r1 r2 r3 r4 rest : List Token) → Stars names ts s r1 → opens_group r1 ≡ true → Next (Mark mark.ParenOpen) r1 p r2 → EitherAt names r2 x r3 →
      Next (Mark mark.ParenClose) r3 c r4 → Suffixes names r4 [] xs rest → EitherAt names ts (grouped_either s p x xs) rest
  grouped_by s p c (either.Named d) xs ts r1 r2 r3 r4 rest d0 g d1 d2 d3 d4 = group_declarator d0 d1 d2 d3 d4
  grouped_by s p c (either.Unnamed a) xs ts r1 r2 r3 r4 rest d0 g d1 d2 d3 d4 = group_abstract d0 g d1 d2 d3 d4

  pub either_sound : (ts : List Token) → Sound (EitherAt names ts) (read_either names below ts)
  unfolding read_either read_after_stars read_plain_either read_named_either read_group_either read_bare_either
  either_sound ts = and_so _ (stars_sound names ts) (λ s r1 d0. either (next_is_name names r1) (read_plain_either names below s r1) (if opens_name names r1 then read_named_either names below s r1 else if opens_group r1 then read_group_either names below s r1 else read_bare_either names below s r1)
      (λ _. and_so _ (take_sound (name_of names) r1) (λ n r2 d1. and_so _ (suffixes_sound [] r2) (λ xs rest d2. done (plain_declarator d0 d1 d2))))
      (λ _. either (opens_name names r1) (read_named_either names below s r1) (if opens_group r1 then read_group_either names below s r1 else read_bare_either names below s r1)
      (λ _. and_so _ (expect_sound (Mark mark.ParenOpen) r1) (λ p r2 d1. and_so _ (h.declarator r2) (λ d r3 d2. and_so _ (expect_sound (Mark mark.ParenClose) r3) (λ c r4 d3. and_so _ (suffixes_sound [] r4) (λ xs rest d4. done (group_declarator d0 d1 d2 d3 d4))))))
      (λ _. either (opens_group r1) (read_group_either names below s r1) (read_bare_either names below s r1)
      (λ g. and_so _ (expect_sound (Mark mark.ParenOpen) r1) (λ p r2 d1. and_so _ (h.either r2) (λ x r3 d2. and_so _ (expect_sound (Mark mark.ParenClose) r3) (λ c r4 d3. and_so _ (suffixes_sound [] r4) (λ xs rest d4. done (grouped_by s p c x xs ts r1 r2 r3 r4 rest d0 g d1 d2 d3 d4))))))
      (λ g. and_so _ (suffixes_sound [] r1) (λ xs rest d1. done (plain_abstract d0 g d1))))))

  initial_item_sound : (so_far : List Initial) (ts : List Token) → Sound (λ b r. (all : List Initial) (rest : List Token) → MoreInitials names r b all rest → MoreInitials names ts so_far all rest) (read_initial_item names below so_far ts)
  unfolding read_initial_item
  initial_item_sound so_far ts = and_so _ (expect_sound (Mark mark.Comma) ts) (λ k r1 d0. and_so _ (h.initials r1) (λ x r2 d1. done (λ all rest m. next_initial d0 d1 m)))

  pub more_initials_sound : (so_far : List Initial) (ts : List Token) → Sound (MoreInitials names ts so_far) (read_more_initials names below so_far ts)
  unfolding read_more_initials
  more_initials_sound so_far ts = repeat_sound (MoreInitials names) _ _ (λ ts a. no_initial) initial_item_sound (length ts) so_far ts

  pub initial_sound : (ts : List Token) → Sound (InitialAt names ts) (read_initial names below ts)
  unfolding read_initial read_braced_initial
  initial_sound ts = either (next_is (Mark mark.BraceOpen) ts) (read_braced_initial names below ts) (below.assign ts >>= (λ e. Ok (initial.Assign e.0, e.1))) (λ y0. and_so _ (expect_sound (Mark mark.BraceOpen) ts) (λ p r1 d0. and_so _ (h.initials r1) (λ x r2 d1. and_so _ (more_initials_sound (x ∷ []) r2) (λ xs r3 d2. and_so _ (opt_comma_sound r3) (λ b r4 d3. and_so _ (expect_sound (Mark mark.BraceClose) r4) (λ c r5 d4. done (braced_initial d0 d1 d2 d3 d4))))))) (λ n0. and_so _ (h.assign ts) (λ e r1 d0. done (assign_initial d0)))

  pub init_end_sound : (d : Declarator) (xs : List Attr) (ts r1 r2 : List Token) → DeclaratorAt names ts d r1 → Attrs names r1 [] xs r2 → Sound (InitAt names ts) (read_init_end below d xs r2)
  unfolding read_init_end read_init_value
  init_end_sound d xs ts r1 r2 d0 d1 = either (next_is (Mark mark.Assign) r2) (read_init_value below d xs r2) (Ok (record { declarator = d; attrs = xs; value = None }, r2))
      (λ _. and_so _ (expect_sound (Mark mark.Assign) r2) (λ k r3 d2. and_so _ (h.initials r3) (λ v rest d3. done (init_value d0 d1 d2 d3))))
      (λ _. done (init_plain d0 d1))

  pub init_sound : (ts : List Token) → Sound (InitAt names ts) (read_init names below ts)
  unfolding read_init
  init_sound ts = and_so _ (h.declarator ts) (λ d r1 d0. and_so _ (attrs_sound names [] r1) (λ xs r2 d1. init_end_sound d xs ts r1 r2 d0 d1))

  init_item_sound : (so_far : List Init) (ts : List Token) → Sound (λ b r. (all : List Init) (rest : List Token) → MoreInits names r b all rest → MoreInits names ts so_far all rest) (read_init_item names below so_far ts)
  unfolding read_init_item
  init_item_sound so_far ts = and_so _ (expect_sound (Mark mark.Comma) ts) (λ k r1 d0. and_so _ (init_sound r1) (λ x r2 d1. done (λ all rest m. next_init d0 d1 m)))

  pub more_inits_sound : (so_far : List Init) (ts : List Token) → Sound (MoreInits names ts so_far) (read_more_inits names below so_far ts)
  unfolding read_more_inits
  more_inits_sound so_far ts = repeat_sound (MoreInits names) _ _ (λ ts a. no_init) init_item_sound (length ts) so_far ts

  pub decl_sound : (ts : List Token) → Sound (DeclAt names ts) (read_decl names below ts)
  unfolding read_decl read_inits_decl
  decl_sound ts = and_so _ (specs_sound ts) (λ s r1 d0. either (next_is (Mark mark.Semicolon) r1) (expect (Mark mark.Semicolon) r1 >>= (λ c. Ok (record { specs = s; inits = [] }, c.1))) (read_inits_decl names below s r1) (λ y0. and_so _ (expect_sound (Mark mark.Semicolon) r1) (λ c r2 d1. done (bare_decl d0 d1))) (λ n0. and_so _ (init_sound r1) (λ x r2 d1. and_so _ (more_inits_sound (x ∷ []) r2) (λ xs r3 d2. and_so _ (expect_sound (Mark mark.Semicolon) r3) (λ c r4 d3. done (inits_decl d0 d1 d2 d3))))))

  pub opt_expr_sound : (ts : List Token) → Sound (OptExpr names ts) (read_opt_expr names below ts)
  unfolding read_opt_expr
  opt_expr_sound ts = either (begins_expr names ts) (read_expr names below ts >>= (λ e. Ok (Some e.0, e.1))) (Ok (None, ts)) (λ y0. and_so _ (expr_sound ts) (λ e r1 d0. done (an_expr d0))) (λ n0. done (without_expr))

  pub first_sound : (ts : List Token) → Sound (FirstAt names ts) (read_first names below ts)
  unfolding read_first
  first_sound ts = either (begins_spec names ts) (read_decl names below ts >>= (λ d. Ok (first.Decl d.0, d.1))) (read_opt_expr names below ts >>= (λ e. expect (Mark mark.Semicolon) e.1 >>= (λ c. Ok (first.Expr e.0, c.1)))) (λ y0. and_so _ (decl_sound ts) (λ d r1 d0. done (first_decl d0))) (λ n0. and_so _ (opt_expr_sound ts) (λ e r1 d0. and_so _ (expect_sound (Mark mark.Semicolon) r1) (λ c r2 d1. done (first_expr d0 d1))))

  pub label_sound : (ts : List Token) → Sound (LabelAt names ts) (read_label names below ts)
  unfolding read_label read_case_label
  label_sound ts = either (next_is (Word word.Case) ts) (read_case_label names below ts) (expect (Word word.Default) ts >>= (λ p. expect (Mark mark.Colon) p.1 >>= (λ c. Ok (label.Default p.0, c.1)))) (λ y0. and_so _ (expect_sound (Word word.Case) ts) (λ p r1 d0. and_so _ (h.cond r1) (λ e r2 d1. and_so _ (expect_sound (Mark mark.Colon) r2) (λ c r3 d2. done (case_label d0 d1 d2))))) (λ n0. and_so _ (expect_sound (Word word.Default) ts) (λ p r1 d0. and_so _ (expect_sound (Mark mark.Colon) r1) (λ c r2 d1. done (default_label d0 d1))))

  pub item_sound : (ts : List Token) → Sound (ItemAt names ts) (read_item names below ts)
  unfolding read_item
  item_sound ts = either (begins_spec names ts) (read_decl names below ts >>= (λ d. Ok (item.Decl d.0, d.1))) (below.stmts ts >>= (λ s. Ok (item.Stmt s.0, s.1))) (λ y0. and_so _ (decl_sound ts) (λ d r1 d0. done (decl_item d0))) (λ n0. and_so _ (h.stmts ts) (λ s r1 d0. done (stmt_item d0)))

  item_item_sound : (so_far : List Item) (ts : List Token) → Sound (λ b r. (all : List Item) (rest : List Token) → Items names r b all rest → Items names ts so_far all rest) (read_item_item names below so_far ts)
  unfolding read_item_item
  item_item_sound so_far ts = and_so _ (item_sound ts) (λ x r1 d0. done (λ all rest m. next_item d0 m))

  pub items_sound : (so_far : List Item) (ts : List Token) → Sound (Items names ts so_far) (read_items names below so_far ts)
  unfolding read_items
  items_sound so_far ts = repeat_sound (Items names) _ _ (λ ts a. no_item) item_item_sound (length ts) so_far ts

  pub block_sound : (ts : List Token) → Sound (BlockAt names ts) (read_block names below ts)
  unfolding read_block
  block_sound ts = and_so _ (expect_sound (Mark mark.BraceOpen) ts) (λ p r1 d0. and_so _ (items_sound [] r1) (λ xs r2 d1. and_so _ (expect_sound (Mark mark.BraceClose) r2) (λ c r3 d2. done (braces d0 d1 d2))))

  pub part_sound : (ts : List Token) → Sound (PartAt names ts) (read_part names below ts)
  unfolding read_part
  part_sound ts = either (begins_label ts) (read_label names below ts >>= (λ l. Ok (part.Label l.0, l.1))) (if begins_spec names ts then (read_decl names below ts >>= (λ d. Ok (part.Decl d.0, d.1))) else below.stmts ts >>= (λ s. Ok (part.Stmt s.0, s.1))) (λ y0. and_so _ (label_sound ts) (λ l r1 d0. done (label_part d0))) (λ n0. either (begins_spec names ts) (read_decl names below ts >>= (λ d. Ok (part.Decl d.0, d.1))) (below.stmts ts >>= (λ s. Ok (part.Stmt s.0, s.1))) (λ y1. and_so _ (decl_sound ts) (λ d r1 d0. done (decl_part d0))) (λ n1. and_so _ (h.stmts ts) (λ s r1 d0. done (stmt_part d0))))

  part_item_sound : (so_far : List Part) (ts : List Token) → Sound (λ b r. (all : List Part) (rest : List Token) → Parts names r b all rest → Parts names ts so_far all rest) (read_part_item names below so_far ts)
  unfolding read_part_item
  part_item_sound so_far ts = and_so _ (part_sound ts) (λ x r1 d0. done (λ all rest m. next_part d0 m))

  pub parts_sound : (so_far : List Part) (ts : List Token) → Sound (Parts names ts so_far) (read_parts names below so_far ts)
  unfolding read_parts
  parts_sound so_far ts = repeat_sound (Parts names) _ _ (λ ts a. no_part) part_item_sound (length ts) so_far ts

  pub stmt_sound : (ts : List Token) → Sound (StmtAt names ts) (read_stmt names below ts)
  unfolding read_stmt read_return_stmt read_if_stmt read_if_else read_while_stmt read_do_stmt read_for_stmt read_switch_stmt
  stmt_sound ts = either (next_is (Mark mark.BraceOpen) ts) (read_block names below ts >>= (λ b. Ok (stmt.Block b.0, b.1))) (if next_is (Mark mark.Semicolon) ts then (expect (Mark mark.Semicolon) ts >>= (λ p. Ok (stmt.Empty p.0, p.1))) else if next_is (Word word.Return) ts then read_return_stmt names below ts else if next_is (Word word.Break) ts then (expect (Word word.Break) ts >>= (λ p. expect (Mark mark.Semicolon) p.1 >>= (λ c. Ok (stmt.Break p.0, c.1)))) else if next_is (Word word.Continue) ts then (expect (Word word.Continue) ts >>= (λ p. expect (Mark mark.Semicolon) p.1 >>= (λ c. Ok (stmt.Continue p.0, c.1)))) else if next_is (Word word.If) ts then read_if_stmt names below ts else if next_is (Word word.While) ts then read_while_stmt names below ts else if next_is (Word word.Do) ts then read_do_stmt names below ts else if next_is (Word word.For) ts then read_for_stmt names below ts else if next_is (Word word.Switch) ts then read_switch_stmt names below ts else read_expr names below ts >>= (λ e. expect (Mark mark.Semicolon) e.1 >>= (λ c. Ok (stmt.Expr e.0, c.1)))) (λ y0. and_so _ (block_sound ts) (λ b r1 d0. done (block_stmt d0))) (λ n0. either (next_is (Mark mark.Semicolon) ts) (expect (Mark mark.Semicolon) ts >>= (λ p. Ok (stmt.Empty p.0, p.1))) (if next_is (Word word.Return) ts then read_return_stmt names below ts else if next_is (Word word.Break) ts then (expect (Word word.Break) ts >>= (λ p. expect (Mark mark.Semicolon) p.1 >>= (λ c. Ok (stmt.Break p.0, c.1)))) else if next_is (Word word.Continue) ts then (expect (Word word.Continue) ts >>= (λ p. expect (Mark mark.Semicolon) p.1 >>= (λ c. Ok (stmt.Continue p.0, c.1)))) else if next_is (Word word.If) ts then read_if_stmt names below ts else if next_is (Word word.While) ts then read_while_stmt names below ts else if next_is (Word word.Do) ts then read_do_stmt names below ts else if next_is (Word word.For) ts then read_for_stmt names below ts else if next_is (Word word.Switch) ts then read_switch_stmt names below ts else read_expr names below ts >>= (λ e. expect (Mark mark.Semicolon) e.1 >>= (λ c. Ok (stmt.Expr e.0, c.1)))) (λ y1. and_so _ (expect_sound (Mark mark.Semicolon) ts) (λ p r1 d0. done (empty_stmt d0))) (λ n1. either (next_is (Word word.Return) ts) (read_return_stmt names below ts) (if next_is (Word word.Break) ts then (expect (Word word.Break) ts >>= (λ p. expect (Mark mark.Semicolon) p.1 >>= (λ c. Ok (stmt.Break p.0, c.1)))) else if next_is (Word word.Continue) ts then (expect (Word word.Continue) ts >>= (λ p. expect (Mark mark.Semicolon) p.1 >>= (λ c. Ok (stmt.Continue p.0, c.1)))) else if next_is (Word word.If) ts then read_if_stmt names below ts else if next_is (Word word.While) ts then read_while_stmt names below ts else if next_is (Word word.Do) ts then read_do_stmt names below ts else if next_is (Word word.For) ts then read_for_stmt names below ts else if next_is (Word word.Switch) ts then read_switch_stmt names below ts else read_expr names below ts >>= (λ e. expect (Mark mark.Semicolon) e.1 >>= (λ c. Ok (stmt.Expr e.0, c.1)))) (λ y2. and_so _ (expect_sound (Word word.Return) ts) (λ p r1 d0. and_so _ (opt_expr_sound r1) (λ e r2 d1. and_so _ (expect_sound (Mark mark.Semicolon) r2) (λ c r3 d2. done (return_stmt d0 d1 d2))))) (λ n2. either (next_is (Word word.Break) ts) (expect (Word word.Break) ts >>= (λ p. expect (Mark mark.Semicolon) p.1 >>= (λ c. Ok (stmt.Break p.0, c.1)))) (if next_is (Word word.Continue) ts then (expect (Word word.Continue) ts >>= (λ p. expect (Mark mark.Semicolon) p.1 >>= (λ c. Ok (stmt.Continue p.0, c.1)))) else if next_is (Word word.If) ts then read_if_stmt names below ts else if next_is (Word word.While) ts then read_while_stmt names below ts else if next_is (Word word.Do) ts then read_do_stmt names below ts else if next_is (Word word.For) ts then read_for_stmt names below ts else if next_is (Word word.Switch) ts then read_switch_stmt names below ts else read_expr names below ts >>= (λ e. expect (Mark mark.Semicolon) e.1 >>= (λ c. Ok (stmt.Expr e.0, c.1)))) (λ y3. and_so _ (expect_sound (Word word.Break) ts) (λ p r1 d0. and_so _ (expect_sound (Mark mark.Semicolon) r1) (λ c r2 d1. done (break_stmt d0 d1)))) (λ n3. either (next_is (Word word.Continue) ts) (expect (Word word.Continue) ts >>= (λ p. expect (Mark mark.Semicolon) p.1 >>= (λ c. Ok (stmt.Continue p.0, c.1)))) (if next_is (Word word.If) ts then read_if_stmt names below ts else if next_is (Word word.While) ts then read_while_stmt names below ts else if next_is (Word word.Do) ts then read_do_stmt names below ts else if next_is (Word word.For) ts then read_for_stmt names below ts else if next_is (Word word.Switch) ts then read_switch_stmt names below ts else read_expr names below ts >>= (λ e. expect (Mark mark.Semicolon) e.1 >>= (λ c. Ok (stmt.Expr e.0, c.1)))) (λ y4. and_so _ (expect_sound (Word word.Continue) ts) (λ p r1 d0. and_so _ (expect_sound (Mark mark.Semicolon) r1) (λ c r2 d1. done (continue_stmt d0 d1)))) (λ n4. either (next_is (Word word.If) ts) (read_if_stmt names below ts) (if next_is (Word word.While) ts then read_while_stmt names below ts else if next_is (Word word.Do) ts then read_do_stmt names below ts else if next_is (Word word.For) ts then read_for_stmt names below ts else if next_is (Word word.Switch) ts then read_switch_stmt names below ts else read_expr names below ts >>= (λ e. expect (Mark mark.Semicolon) e.1 >>= (λ c. Ok (stmt.Expr e.0, c.1)))) (λ y5. and_so _ (expect_sound (Word word.If) ts) (λ p r1 d0. and_so _ (expect_sound (Mark mark.ParenOpen) r1) (λ o r2 d1. and_so _ (expr_sound r2) (λ e r3 d2. and_so _ (expect_sound (Mark mark.ParenClose) r3) (λ c r4 d3. and_so _ (h.stmts r4) (λ a r5 d4. either (next_is (Word word.Else) r5) (read_if_else names below p e a r5) (Ok (stmt.If p e a None, r5)) (λ y6. and_so _ (expect_sound (Word word.Else) r5) (λ l r6 d5. and_so _ (h.stmts r6) (λ b r7 d6. done (if_else d0 d1 d2 d3 d4 d5 d6)))) (λ n6. done (if_only d0 d1 d2 d3 d4 n6)))))))) (λ n5. either (next_is (Word word.While) ts) (read_while_stmt names below ts) (if next_is (Word word.Do) ts then read_do_stmt names below ts else if next_is (Word word.For) ts then read_for_stmt names below ts else if next_is (Word word.Switch) ts then read_switch_stmt names below ts else read_expr names below ts >>= (λ e. expect (Mark mark.Semicolon) e.1 >>= (λ c. Ok (stmt.Expr e.0, c.1)))) (λ y6. and_so _ (expect_sound (Word word.While) ts) (λ p r1 d0. and_so _ (expect_sound (Mark mark.ParenOpen) r1) (λ o r2 d1. and_so _ (expr_sound r2) (λ e r3 d2. and_so _ (expect_sound (Mark mark.ParenClose) r3) (λ c r4 d3. and_so _ (h.stmts r4) (λ a r5 d4. done (while_stmt d0 d1 d2 d3 d4))))))) (λ n6. either (next_is (Word word.Do) ts) (read_do_stmt names below ts) (if next_is (Word word.For) ts then read_for_stmt names below ts else if next_is (Word word.Switch) ts then read_switch_stmt names below ts else read_expr names below ts >>= (λ e. expect (Mark mark.Semicolon) e.1 >>= (λ c. Ok (stmt.Expr e.0, c.1)))) (λ y7. and_so _ (expect_sound (Word word.Do) ts) (λ p r1 d0. and_so _ (h.stmts r1) (λ a r2 d1. and_so _ (expect_sound (Word word.While) r2) (λ w r3 d2. and_so _ (expect_sound (Mark mark.ParenOpen) r3) (λ o r4 d3. and_so _ (expr_sound r4) (λ e r5 d4. and_so _ (expect_sound (Mark mark.ParenClose) r5) (λ c r6 d5. and_so _ (expect_sound (Mark mark.Semicolon) r6) (λ c2 r7 d6. done (do_stmt d0 d1 d2 d3 d4 d5 d6))))))))) (λ n7. either (next_is (Word word.For) ts) (read_for_stmt names below ts) (if next_is (Word word.Switch) ts then read_switch_stmt names below ts else read_expr names below ts >>= (λ e. expect (Mark mark.Semicolon) e.1 >>= (λ c. Ok (stmt.Expr e.0, c.1)))) (λ y8. and_so _ (expect_sound (Word word.For) ts) (λ p r1 d0. and_so _ (expect_sound (Mark mark.ParenOpen) r1) (λ o r2 d1. and_so _ (first_sound r2) (λ f r3 d2. and_so _ (opt_expr_sound r3) (λ t r4 d3. and_so _ (expect_sound (Mark mark.Semicolon) r4) (λ c r5 d4. and_so _ (opt_expr_sound r5) (λ x r6 d5. and_so _ (expect_sound (Mark mark.ParenClose) r6) (λ c2 r7 d6. and_so _ (h.stmts r7) (λ a r8 d7. done (for_stmt d0 d1 d2 d3 d4 d5 d6 d7)))))))))) (λ n8. either (next_is (Word word.Switch) ts) (read_switch_stmt names below ts) (read_expr names below ts >>= (λ e. expect (Mark mark.Semicolon) e.1 >>= (λ c. Ok (stmt.Expr e.0, c.1)))) (λ y9. and_so _ (expect_sound (Word word.Switch) ts) (λ p r1 d0. and_so _ (expect_sound (Mark mark.ParenOpen) r1) (λ o r2 d1. and_so _ (expr_sound r2) (λ e r3 d2. and_so _ (expect_sound (Mark mark.ParenClose) r3) (λ c r4 d3. and_so _ (expect_sound (Mark mark.BraceOpen) r4) (λ o2 r5 d4. and_so _ (parts_sound [] r5) (λ xs r6 d5. and_so _ (expect_sound (Mark mark.BraceClose) r6) (λ c2 r7 d6. done (switch_stmt d0 d1 d2 d3 d4 d5 d6))))))))) (λ n9. and_so _ (expr_sound ts) (λ e r1 d0. and_so _ (expect_sound (Mark mark.Semicolon) r1) (λ c r2 d1. done (expr_stmt d0 d1)))))))))))))

or_second : (a b c d : Bool) → (a || b || c || d) ≡ false → b ≡ false
or_second true b c d e = absurd cc
or_second false true c d e = absurd cc
or_second false false c d e = refl

no_open : (ts : List Token) → begins_abstract ts ≡ false → opens_group ts ≡ false
no_open [] e = refl
no_open (k ∷ r) e = let f : is k.kind (Mark mark.ParenOpen) ≡ false = or_second (is k.kind (Mark mark.Star)) (is k.kind (Mark mark.ParenOpen)) (is k.kind (Mark mark.BracketOpen)) (is k.kind (Word word.Attribute)) e in rw f refl

no_nameless_sound : (names : List (List ℕ)) (ts : List Token) → Sound (AbstractAt names ts) (no_nameless ts)
no_nameless_sound names ts = either (begins_abstract ts) (Err (deep ts)) (Ok (abstracts.Plain [] [], ts)) (λ _. fails) (λ e. done (plain_abstract (no_stars no_lead) (no_open ts e) no_suffix))

or_left : (a b : Bool) → (a || b) ≡ false → a ≡ false
or_left true b e = absurd cc
or_left false b e = refl

no_group : (names : List (List ℕ)) (ts : List Token) → begins_either names ts ≡ false → begins_abstract ts ≡ false
no_group names [] e = refl
no_group names (k ∷ r) e = or_left (group_token k) _ e

no_either_sound : (names : List (List ℕ)) (ts : List Token) → Sound (EitherAt names ts) (no_either names ts)
no_either_sound names ts = either (begins_either names ts) (Err (deep ts)) (Ok (either.Unnamed (abstracts.Plain [] []), ts)) (λ _. fails) (λ e. done (plain_abstract (no_stars no_lead) (no_open ts (no_group names ts e)) no_suffix))

pub levels_sound : (names : List (List ℕ)) (n : ℕ) → Sounds names (levels names n)
unfolding levels
levels_sound names zero = record {
  assign = λ ts. fails;
  cond = λ ts. fails;
  cast = λ ts. fails;
  stepped = λ ts. fails;
  structs = λ ts. fails;
  declarator = λ ts. fails;
  nameless = no_nameless_sound names;
  initials = λ ts. fails;
  stmts = λ ts. fails;
  either = no_either_sound names;
}
levels_sound names (suc n) =
    let below = levels_sound names n in
    record {
      assign = assign_sound names (levels names n) below;
      cond = cond_sound names (levels names n) below;
      cast = cast_sound names (levels names n) below;
      stepped = stepped_sound names (levels names n) below;
      structs = structs_sound names (levels names n) below;
      declarator = declarator_sound names (levels names n) below;
      nameless = nameless_sound names (levels names n) below;
      initials = initial_sound names (levels names n) below;
      stmts = stmt_sound names (levels names n) below;
      either = either_sound names (levels names n) below;
    }
