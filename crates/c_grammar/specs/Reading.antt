-- Reading from left to right, with one token ahead, and two after a "(", a "," or "void".
use Rattle.c_grammar.specs.declared.tokens.Fault.{Fault}
use Rattle.std.specs.Prelude.{ℕ, zero, suc, Bool, true, false, not, List, [], ◌∷◌, ◌++◌, length, Option, Some, None, Ok, Err, if◌then◌else◌}
use Rattle.cm_base.specs.declared.place.Place.{Place}
use Rattle.c_lex.specs.declared.token.Keyword.TheVariants as word
use Rattle.c_lex.specs.declared.token.Punct.TheVariants as mark
use Rattle.c_lex.specs.declared.token.Token.{Token}
use Rattle.c_grammar.specs.declared.tokens.Sign.TheVariants.{Word, Mark}
use Rattle.c_ast.specs.declared.expr.Name.{Name}
use Rattle.c_ast.specs.declared.expr.One.{One}
use Rattle.c_ast.specs.declared.expr.One.TheVariants as one
use Rattle.c_ast.specs.declared.expr.Attr.{Attr}
use Rattle.c_ast.specs.declared.expr.Star.{Star}
use Rattle.c_ast.specs.declared.expr.Star.TheVariants as star
use Rattle.c_ast.specs.declared.expr.Expr.{Expr}
use Rattle.c_ast.specs.declared.expr.Expr.TheVariants as tree
use Rattle.c_ast.specs.declared.expr.Link.{Link}
use Rattle.c_ast.specs.declared.expr.Next.{Next as After}
use Rattle.c_ast.specs.declared.expr.Access.{Access}
use Rattle.c_ast.specs.declared.expr.Access.TheVariants as access
use Rattle.c_ast.specs.declared.expr.TypeName.{TypeName}
use Rattle.c_ast.specs.declared.expr.Spec.{Spec}
use Rattle.c_ast.specs.declared.expr.Spec.TheVariants as spec
use Rattle.c_ast.specs.declared.expr.StructSpec.{StructSpec}
use Rattle.c_ast.specs.declared.expr.StructSpec.TheVariants as structs
use Rattle.c_ast.specs.declared.expr.Member.{Member}
use Rattle.c_ast.specs.declared.expr.Member.TheVariants as member
use Rattle.c_ast.specs.declared.expr.EnumSpec.{EnumSpec}
use Rattle.c_ast.specs.declared.expr.EnumSpec.TheVariants as enums
use Rattle.c_ast.specs.declared.expr.Enumerator.{Enumerator}
use Rattle.c_ast.specs.declared.expr.Declarator.{Declarator}
use Rattle.c_ast.specs.declared.expr.Suffix.{Suffix}
use Rattle.c_ast.specs.declared.expr.Suffix.TheVariants as suffix
use Rattle.c_ast.specs.declared.expr.Params.{Params}
use Rattle.c_ast.specs.declared.expr.Params.TheVariants as params
use Rattle.c_ast.specs.declared.expr.Param.{Param}
use Rattle.c_ast.specs.declared.expr.Param.TheVariants as param
use Rattle.c_ast.specs.declared.expr.Abstract.{Abstract}
use Rattle.c_ast.specs.declared.expr.Abstract.TheVariants as abstracts
use Rattle.c_ast.specs.declared.stmt.Initial.{Initial}
use Rattle.c_ast.specs.declared.stmt.Initial.TheVariants as initial
use Rattle.c_ast.specs.declared.stmt.Init.{Init}
use Rattle.c_ast.specs.declared.stmt.Decl.{Decl}
use Rattle.c_ast.specs.declared.stmt.First.{First}
use Rattle.c_ast.specs.declared.stmt.First.TheVariants as first
use Rattle.c_ast.specs.declared.stmt.Label.{Label}
use Rattle.c_ast.specs.declared.stmt.Label.TheVariants as label
use Rattle.c_ast.specs.declared.stmt.Block.{Block}
use Rattle.c_ast.specs.declared.stmt.Item.{Item}
use Rattle.c_ast.specs.declared.stmt.Item.TheVariants as item
use Rattle.c_ast.specs.declared.stmt.Part.{Part}
use Rattle.c_ast.specs.declared.stmt.Part.TheVariants as part
use Rattle.c_ast.specs.declared.stmt.Stmt.{Stmt}
use Rattle.c_ast.specs.declared.stmt.Stmt.TheVariants as stmt
use Rattle.c_ast.specs.declared.stmt.External.{External}
use Rattle.c_ast.specs.declared.stmt.External.TheVariants as external
use Rattle.c_grammar.specs.Tokens.{◌>>=◌, Read, fault, deep, is, after, next_is, expect, has, take, with_names, next_is_name, name_of, type_of, number_of, char_of, string_of, include_of, assign_op_of, un_op_of, step_op_of, spec_word_of, op_of, begins_spec, begins_expr, begins_step, begins_access, begins_suffix, begins_star, begins_label, type_follows, comma_more, void_params, opens_group, begins_declarator, begins_abstract, begins_either, begins_initial, begins_stmt}
use Rattle.c_grammar.specs.Grammar.{after_comma, commas, accessed, joined, link}
use Rattle.c_grammar.specs.Units.{declared, header_names}
use Rattle.c_grammar.specs.declared.either.Either.{Either}
use Rattle.c_grammar.specs.declared.either.Either.TheVariants as either
use Rattle.std.specs.Prelude.{◌&&◌}

-- what reads a nonterminal that counts for the nesting
pub record Readers : Type 0 where
  pub assign : List Token → Read Expr
  pub cond : List Token → Read Expr
  pub cast : List Token → Read Expr
  pub stepped : List Token → Read Expr
  pub structs : List Token → Read StructSpec
  pub declarator : List Token → Read Declarator
  pub nameless : List Token → Read Abstract
  pub initials : List Token → Read Initial
  pub stmts : List Token → Read Stmt
  pub either : List Token → Read Either

-- As long as the test holds of the tokens, one step; at most as many as fuel says.
unfoldable pub repeat : {A : Type 0} → (List Token → Bool) → (A → List Token → Read A) → ℕ → A → List Token → Read A
repeat test one zero a ts = Ok (a, ts)
repeat test one (suc fuel) a ts = if test ts then one a ts >>= (λ b. repeat test one fuel b.0 b.1) else Ok (a, ts)

unfoldable pub read_one_with : List (List ℕ) → Name → List Token → Read One
read_one_with names n ts = do
  o ← expect (Mark mark.ParenOpen) ts
  s ← take string_of o.1
  c ← expect (Mark mark.ParenClose) s.1
  Ok (one.With n s.0.1, c.1)

unfoldable pub read_one : List (List ℕ) → List Token → Read One
read_one names ts = do
  n ← take (name_of names) ts
  if next_is (Mark mark.ParenOpen) n.1 then read_one_with names n.0 n.1 else Ok (one.Plain n.0, n.1)

unfoldable pub read_one_item : List (List ℕ) → List One → List Token → Read (List One)
read_one_item names so_far ts = do
  k ← expect (Mark mark.Comma) ts
  x ← read_one names k.1
  Ok (so_far ++ x.0 ∷ [], x.1)

unfoldable pub read_more_ones : List (List ℕ) → List One → List Token → Read (List One)
read_more_ones names so_far ts = repeat (next_is (Mark mark.Comma)) (read_one_item names) (length ts) so_far ts

unfoldable pub read_attr : List (List ℕ) → List Token → Read Attr
read_attr names ts = do
  p ← expect (Word word.Attribute) ts
  o ← expect (Mark mark.ParenOpen) p.1
  o2 ← expect (Mark mark.ParenOpen) o.1
  x ← read_one names o2.1
  xs ← read_more_ones names (x.0 ∷ []) x.1
  c ← expect (Mark mark.ParenClose) xs.1
  c2 ← expect (Mark mark.ParenClose) c.1
  Ok (record { place = p.0; list = xs.0 }, c2.1)

unfoldable pub read_attr_item : List (List ℕ) → List Attr → List Token → Read (List Attr)
read_attr_item names so_far ts = do
  a ← read_attr names ts
  Ok (so_far ++ a.0 ∷ [], a.1)

unfoldable pub read_attrs : List (List ℕ) → List Attr → List Token → Read (List Attr)
read_attrs names so_far ts = repeat (next_is (Word word.Attribute)) (read_attr_item names) (length ts) so_far ts

unfoldable pub read_lead_item : List (List ℕ) → List Star → List Token → Read (List Star)
read_lead_item names so_far ts = do
  a ← read_attr names ts
  Ok (so_far ++ star.Attr a.0 ∷ [], a.1)

unfoldable pub read_lead_attrs : List (List ℕ) → List Star → List Token → Read (List Star)
read_lead_attrs names so_far ts = repeat (next_is (Word word.Attribute)) (read_lead_item names) (length ts) so_far ts

unfoldable pub read_star : List (List ℕ) → List Token → Read Star
read_star names ts =
    if next_is (Mark mark.Star) ts then (expect (Mark mark.Star) ts >>= (λ p. Ok (star.Star p.0, p.1)))
    else if next_is (Word word.Const) ts then (expect (Word word.Const) ts >>= (λ p. Ok (star.Const p.0, p.1)))
    else if next_is (Word word.Volatile) ts then (expect (Word word.Volatile) ts >>= (λ p. Ok (star.Volatile p.0, p.1)))
    else read_attr names ts >>= (λ a. Ok (star.Attr a.0, a.1))

unfoldable pub read_star_item : List (List ℕ) → List Star → List Token → Read (List Star)
read_star_item names so_far ts = do
  x ← read_star names ts
  Ok (so_far ++ x.0 ∷ [], x.1)

unfoldable pub read_more_stars : List (List ℕ) → List Star → List Token → Read (List Star)
read_more_stars names so_far ts = repeat (begins_star) (read_star_item names) (length ts) so_far ts

unfoldable pub read_some_stars : List (List ℕ) → (List Star) → List Token → Read (List Star)
read_some_stars names a ts = do
  p ← expect (Mark mark.Star) ts
  read_more_stars names (a ++ star.Star p.0 ∷ []) p.1

unfoldable pub read_stars : List (List ℕ) → List Token → Read (List Star)
read_stars names ts = do
  a ← read_lead_attrs names [] ts
  if next_is (Mark mark.Star) a.1 then read_some_stars names a.0 a.1 else Ok (a.0, a.1)

unfoldable pub read_opt_comma : List Token → Read Bool
read_opt_comma ts =
    if next_is (Mark mark.Comma) ts then (expect (Mark mark.Comma) ts >>= (λ p. Ok (true, p.1)))
    else Ok (false, ts)

unfoldable pub read_expr_item : List (List ℕ) → Readers → List Expr → List Token → Read (List Expr)
read_expr_item names below so_far ts = do
  k ← expect (Mark mark.Comma) ts
  b ← below.assign k.1
  Ok (so_far ++ b.0 ∷ [], b.1)

unfoldable pub read_more_exprs : List (List ℕ) → Readers → List Expr → List Token → Read (List Expr)
read_more_exprs names below so_far ts = repeat (next_is (Mark mark.Comma)) (read_expr_item names below) (length ts) so_far ts

unfoldable pub read_comma_item : List (List ℕ) → Readers → List After → List Token → Read (List After)
read_comma_item names below so_far ts = do
  k ← expect (Mark mark.Comma) ts
  b ← below.assign k.1
  Ok (so_far ++ after_comma k.0 b.0 ∷ [], b.1)

unfoldable pub read_more_commas : List (List ℕ) → Readers → List After → List Token → Read (List After)
read_more_commas names below so_far ts = repeat (next_is (Mark mark.Comma)) (read_comma_item names below) (length ts) so_far ts

unfoldable pub read_expr : List (List ℕ) → Readers → List Token → Read Expr
read_expr names below ts = do
  a ← below.assign ts
  more ← read_more_commas names below [] a.1
  Ok (commas a.0 more.0, more.1)

unfoldable pub read_assigned : List (List ℕ) → Readers → Expr → List Token → Read Expr
read_assigned names below a ts = do
  o ← take assign_op_of ts
  b ← below.assign o.1
  Ok (tree.Assign o.0.0 o.0.1 a b.0, b.1)

unfoldable pub read_assign : List (List ℕ) → Readers → List Token → Read Expr
read_assign names below ts = do
  a ← below.cond ts
  if has assign_op_of a.1 then read_assigned names below a.0 a.1 else Ok (a.0, a.1)

unfoldable pub read_chosen : List (List ℕ) → Readers → Expr → List Token → Read Expr
read_chosen names below a ts = do
  k ← expect (Mark mark.Question) ts
  b ← read_expr names below k.1
  c ← expect (Mark mark.Colon) b.1
  d ← below.cond c.1
  Ok (tree.Choice k.0 a b.0 d.0, d.1)

-- operand reads a binary of this level
unfoldable pub read_op_item : (List Token → Read Expr) → ℕ → List Link → List Token → Read (List Link)
read_op_item operand level so_far ts = do
  o ← take (op_of level) ts
  b ← operand o.1
  Ok (so_far ++ link o.0 b.0 ∷ [], b.1)

unfoldable pub read_more_ops : (List Token → Read Expr) → ℕ → List Link → List Token → Read (List Link)
read_more_ops operand level so_far ts = repeat (has (op_of level)) (read_op_item operand level) (length ts) so_far ts

unfoldable pub read_binary : Readers → ℕ → List Token → Read Expr
read_binary below zero ts = below.cast ts
read_binary below (suc level) ts = do
  a ← read_binary below level ts
  more ← read_more_ops (read_binary below level) level [] a.1
  Ok (joined a.0 more.0, more.1)

unfoldable pub read_cond : List (List ℕ) → Readers → List Token → Read Expr
read_cond names below ts = do
  a ← read_binary below 10 ts
  if next_is (Mark mark.Question) a.1 then read_chosen names below a.0 a.1 else Ok (a.0, a.1)

unfoldable pub read_enumr_value : List (List ℕ) → Readers → Name → List Token → Read Enumerator
read_enumr_value names below n ts = do
  k ← expect (Mark mark.Assign) ts
  e ← below.cond k.1
  Ok (record { name = n; value = Some e.0 }, e.1)

unfoldable pub read_enumr : List (List ℕ) → Readers → List Token → Read Enumerator
read_enumr names below ts = do
  n ← take (name_of names) ts
  if next_is (Mark mark.Assign) n.1 then read_enumr_value names below n.0 n.1 else Ok (record { name = n.0; value = None }, n.1)

unfoldable pub read_enumr_item : List (List ℕ) → Readers → List Enumerator → List Token → Read (List Enumerator)
read_enumr_item names below so_far ts = do
  k ← expect (Mark mark.Comma) ts
  m ← read_enumr names below k.1
  Ok (so_far ++ m.0 ∷ [], m.1)

unfoldable pub read_more_enumrs : List (List ℕ) → Readers → List Enumerator → List Token → Read (List Enumerator)
read_more_enumrs names below so_far ts = repeat (comma_more) (read_enumr_item names below) (length ts) so_far ts

unfoldable pub read_enumrs : List (List ℕ) → Readers → List Token → Read (List Enumerator)
read_enumrs names below ts = do
  o ← expect (Mark mark.BraceOpen) ts
  m ← read_enumr names below o.1
  xs ← read_more_enumrs names below (m.0 ∷ []) m.1
  b ← read_opt_comma xs.1
  c ← expect (Mark mark.BraceClose) b.1
  Ok (xs.0, c.1)

unfoldable pub read_enum_named : List (List ℕ) → Readers → Place → List Token → Read EnumSpec
read_enum_named names below p ts = do
  n ← take (name_of names) ts
  if next_is (Mark mark.BraceOpen) n.1 then (read_enumrs names below n.1 >>= (λ xs. Ok (enums.Body p (Some n.0) xs.0, xs.1))) else Ok (enums.Tag p n.0, n.1)

unfoldable pub read_enums : List (List ℕ) → Readers → List Token → Read EnumSpec
read_enums names below ts = do
  p ← expect (Word word.Enum) ts
  if next_is_name names p.1 then read_enum_named names below p.0 p.1 else read_enumrs names below p.1 >>= (λ xs. Ok (enums.Body p.0 None xs.0, xs.1))

unfoldable pub read_spec : List (List ℕ) → Readers → List Token → Read Spec
read_spec names below ts =
    if has spec_word_of ts then (take spec_word_of ts >>= (λ w. Ok (spec.Word w.0.0 w.0.1, w.1)))
    else if next_is (Word word.Struct) ts then (below.structs ts >>= (λ s. Ok (spec.Struct s.0, s.1)))
    else if next_is (Word word.Enum) ts then (read_enums names below ts >>= (λ e. Ok (spec.Enum e.0, e.1)))
    else if next_is (Word word.Attribute) ts then (read_attr names ts >>= (λ a. Ok (spec.Attr a.0, a.1)))
    else take (type_of names) ts >>= (λ n. Ok (spec.TypeName n.0, n.1))

unfoldable pub read_spec_item : List (List ℕ) → Readers → List Spec → List Token → Read (List Spec)
read_spec_item names below so_far ts = do
  s ← read_spec names below ts
  Ok (so_far ++ s.0 ∷ [], s.1)

unfoldable pub read_more_specs : List (List ℕ) → Readers → List Spec → List Token → Read (List Spec)
read_more_specs names below so_far ts = repeat (begins_spec names) (read_spec_item names below) (length ts) so_far ts

unfoldable pub read_specs : List (List ℕ) → Readers → List Token → Read (List Spec)
read_specs names below ts = do
  s ← read_spec names below ts
  read_more_specs names below (s.0 ∷ []) s.1

unfoldable pub read_typename : List (List ℕ) → Readers → List Token → Read TypeName
read_typename names below ts = do
  s ← read_specs names below ts
  a ← below.nameless s.1
  Ok (record { specs = s.0; declarator = a.0 }, a.1)

unfoldable pub read_converted : List (List ℕ) → Readers → List Token → Read Expr
read_converted names below ts = do
  k ← expect (Mark mark.ParenOpen) ts
  t ← read_typename names below k.1
  c ← expect (Mark mark.ParenClose) t.1
  e ← below.cast c.1
  Ok (tree.Cast k.0 t.0 e.0, e.1)

unfoldable pub read_prefixed : List (List ℕ) → Readers → List Token → Read Expr
read_prefixed names below ts = do
  o ← take un_op_of ts
  e ← below.cast o.1
  Ok (tree.Unary o.0.0 o.0.1 e.0, e.1)

unfoldable pub read_grouped : List (List ℕ) → Readers → List Token → Read Expr
read_grouped names below ts = do
  k ← expect (Mark mark.ParenOpen) ts
  e ← read_expr names below k.1
  c ← expect (Mark mark.ParenClose) e.1
  Ok (tree.Group k.0 e.0, c.1)

unfoldable pub read_primary : List (List ℕ) → Readers → List Token → Read Expr
read_primary names below ts =
    if next_is_name names ts then (take (name_of names) ts >>= (λ n. Ok (tree.Name n.0, n.1)))
    else if has number_of ts then take number_of ts
    else if has char_of ts then take char_of ts
    else if has string_of ts then (take string_of ts >>= (λ s. Ok (tree.Str s.0.0 s.0.1, s.1)))
    else read_grouped names below ts

unfoldable pub read_indexed : List (List ℕ) → Readers → List Token → Read Access
read_indexed names below ts = do
  k ← expect (Mark mark.BracketOpen) ts
  e ← read_expr names below k.1
  c ← expect (Mark mark.BracketClose) e.1
  Ok (access.Index k.0 e.0, c.1)

unfoldable pub read_some_args : List (List ℕ) → Readers → List Token → Read (List Expr)
read_some_args names below ts = do
  a ← below.assign ts
  read_more_exprs names below (a.0 ∷ []) a.1

unfoldable pub read_args : List (List ℕ) → Readers → List Token → Read (List Expr)
read_args names below ts =
    if begins_expr names ts then read_some_args names below ts
    else Ok ([], ts)

unfoldable pub read_called : List (List ℕ) → Readers → List Token → Read Access
read_called names below ts = do
  k ← expect (Mark mark.ParenOpen) ts
  xs ← read_args names below k.1
  c ← expect (Mark mark.ParenClose) xs.1
  Ok (access.Call k.0 xs.0, c.1)

unfoldable pub read_access : List (List ℕ) → Readers → List Token → Read Access
read_access names below ts =
    if next_is (Mark mark.BracketOpen) ts then read_indexed names below ts
    else if next_is (Mark mark.ParenOpen) ts then read_called names below ts
    else if next_is (Mark mark.Dot) ts then (expect (Mark mark.Dot) ts >>= (λ k. take (name_of names) k.1 >>= (λ n. Ok (access.Member k.0 n.0, n.1))))
    else if next_is (Mark mark.Arrow) ts then (expect (Mark mark.Arrow) ts >>= (λ k. take (name_of names) k.1 >>= (λ n. Ok (access.Arrow k.0 n.0, n.1))))
    else take step_op_of ts >>= (λ o. Ok (access.Step o.0.0 o.0.1, o.1))

unfoldable pub read_access_item : List (List ℕ) → Readers → List Access → List Token → Read (List Access)
read_access_item names below so_far ts = do
  x ← read_access names below ts
  Ok (so_far ++ x.0 ∷ [], x.1)

unfoldable pub read_accesses : List (List ℕ) → Readers → List Access → List Token → Read (List Access)
read_accesses names below so_far ts = repeat (begins_access) (read_access_item names below) (length ts) so_far ts

unfoldable pub read_postfix : List (List ℕ) → Readers → List Token → Read Expr
read_postfix names below ts = do
  a ← read_primary names below ts
  more ← read_accesses names below [] a.1
  Ok (accessed a.0 more.0, more.1)

unfoldable pub read_unary : List (List ℕ) → Readers → List Token → Read Expr
read_unary names below ts =
    if begins_step ts then below.stepped ts
    else if has un_op_of ts then read_prefixed names below ts
    else read_postfix names below ts

unfoldable pub read_cast : List (List ℕ) → Readers → List Token → Read Expr
read_cast names below ts =
    if type_follows names ts then read_converted names below ts
    else read_unary names below ts

unfoldable pub read_step_before : List (List ℕ) → Readers → List Token → Read Expr
read_step_before names below ts = do
  o ← take step_op_of ts
  e ← read_unary names below o.1
  Ok (tree.Step o.0.0 o.0.1 e.0, e.1)

unfoldable pub read_sizeof_type : List (List ℕ) → Readers → Place → List Token → Read Expr
read_sizeof_type names below k ts = do
  o ← expect (Mark mark.ParenOpen) ts
  t ← read_typename names below o.1
  c ← expect (Mark mark.ParenClose) t.1
  Ok (tree.SizeofType k t.0, c.1)

unfoldable pub read_sizeof_expr : List (List ℕ) → Readers → Place → List Token → Read Expr
read_sizeof_expr names below k ts = do
  e ← read_unary names below ts
  Ok (tree.SizeofExpr k e.0, e.1)

unfoldable pub read_size_of : List (List ℕ) → Readers → List Token → Read Expr
read_size_of names below ts = do
  k ← expect (Word word.Sizeof) ts
  if type_follows names k.1 then read_sizeof_type names below k.0 k.1 else read_sizeof_expr names below k.0 k.1

unfoldable pub read_stepped : List (List ℕ) → Readers → List Token → Read Expr
read_stepped names below ts =
    if has step_op_of ts then read_step_before names below ts
    else read_size_of names below ts

unfoldable pub read_declarator_item : List (List ℕ) → Readers → List Declarator → List Token → Read (List Declarator)
read_declarator_item names below so_far ts = do
  k ← expect (Mark mark.Comma) ts
  d ← below.declarator k.1
  Ok (so_far ++ d.0 ∷ [], d.1)

unfoldable pub read_more_declarators : List (List ℕ) → Readers → List Declarator → List Token → Read (List Declarator)
read_more_declarators names below so_far ts = repeat (next_is (Mark mark.Comma)) (read_declarator_item names below) (length ts) so_far ts

unfoldable pub read_member : List (List ℕ) → Readers → List Token → Read Member
read_member names below ts = do
  s ← read_specs names below ts
  d ← below.declarator s.1
  ds ← read_more_declarators names below (d.0 ∷ []) d.1
  c ← expect (Mark mark.Semicolon) ds.1
  Ok (member.Declares s.0 ds.0, c.1)

unfoldable pub read_member_item : List (List ℕ) → Readers → List Member → List Token → Read (List Member)
read_member_item names below so_far ts = do
  m ← read_member names below ts
  Ok (so_far ++ m.0 ∷ [], m.1)

unfoldable pub read_more_members : List (List ℕ) → Readers → List Member → List Token → Read (List Member)
read_more_members names below so_far ts = repeat (begins_spec names) (read_member_item names below) (length ts) so_far ts

unfoldable pub read_members : List (List ℕ) → Readers → List Token → Read (List Member)
read_members names below ts = do
  o ← expect (Mark mark.BraceOpen) ts
  m ← read_member names below o.1
  xs ← read_more_members names below (m.0 ∷ []) m.1
  c ← expect (Mark mark.BraceClose) xs.1
  Ok (xs.0, c.1)

unfoldable pub read_struct_named : List (List ℕ) → Readers → Place → List Token → Read StructSpec
read_struct_named names below p ts = do
  n ← take (name_of names) ts
  if next_is (Mark mark.BraceOpen) n.1 then (read_members names below n.1 >>= (λ xs. Ok (structs.Body p (Some n.0) xs.0, xs.1))) else Ok (structs.Tag p n.0, n.1)

unfoldable pub read_structs : List (List ℕ) → Readers → List Token → Read StructSpec
read_structs names below ts = do
  p ← expect (Word word.Struct) ts
  if next_is_name names p.1 then read_struct_named names below p.0 p.1 else read_members names below p.1 >>= (λ xs. Ok (structs.Body p.0 None xs.0, xs.1))

unfoldable pub read_opt_cond : List (List ℕ) → Readers → List Token → Read (Option Expr)
read_opt_cond names below ts =
    if begins_expr names ts then (below.cond ts >>= (λ e. Ok (Some e.0, e.1)))
    else Ok (None, ts)

unfoldable pub read_array_suffix : List (List ℕ) → Readers → List Token → Read Suffix
read_array_suffix names below ts = do
  p ← expect (Mark mark.BracketOpen) ts
  e ← read_opt_cond names below p.1
  c ← expect (Mark mark.BracketClose) e.1
  Ok (suffix.Array p.0 e.0, c.1)

abbrev pub param_of : List Spec → Either → Param
param_of s (either.Named d) = param.Named s d
param_of s (either.Unnamed a) = param.Unnamed s a

unfoldable pub read_param : List (List ℕ) → Readers → List Token → Read Param
read_param names below ts = do
  s ← read_specs names below ts
  x ← below.either s.1
  Ok (param_of s.0 x.0, x.1)

unfoldable pub read_param_item : List (List ℕ) → Readers → List Param → List Token → Read (List Param)
read_param_item names below so_far ts = do
  k ← expect (Mark mark.Comma) ts
  x ← read_param names below k.1
  Ok (so_far ++ x.0 ∷ [], x.1)

unfoldable pub read_more_params : List (List ℕ) → Readers → List Param → List Token → Read (List Param)
read_more_params names below so_far ts = repeat (next_is (Mark mark.Comma)) (read_param_item names below) (length ts) so_far ts

unfoldable pub read_some_params : List (List ℕ) → Readers → List Token → Read Params
read_some_params names below ts = do
  x ← read_param names below ts
  xs ← read_more_params names below (x.0 ∷ []) x.1
  Ok (params.List xs.0, xs.1)

unfoldable pub read_params : List (List ℕ) → Readers → List Token → Read Params
read_params names below ts =
    if void_params ts then (expect (Word word.Void) ts >>= (λ p. Ok (params.Void p.0, p.1)))
    else if begins_spec names ts then read_some_params names below ts
    else Ok (params.Empty, ts)

unfoldable pub read_params_suffix : List (List ℕ) → Readers → List Token → Read Suffix
read_params_suffix names below ts = do
  p ← expect (Mark mark.ParenOpen) ts
  xs ← read_params names below p.1
  c ← expect (Mark mark.ParenClose) xs.1
  Ok (suffix.Params p.0 xs.0, c.1)

unfoldable pub read_suffix : List (List ℕ) → Readers → List Token → Read Suffix
read_suffix names below ts =
    if next_is (Mark mark.BracketOpen) ts then read_array_suffix names below ts
    else read_params_suffix names below ts

unfoldable pub read_suffix_item : List (List ℕ) → Readers → List Suffix → List Token → Read (List Suffix)
read_suffix_item names below so_far ts = do
  x ← read_suffix names below ts
  Ok (so_far ++ x.0 ∷ [], x.1)

unfoldable pub read_suffixes : List (List ℕ) → Readers → List Suffix → List Token → Read (List Suffix)
read_suffixes names below so_far ts = repeat (begins_suffix) (read_suffix_item names below) (length ts) so_far ts

unfoldable pub read_plain_declarator : List (List ℕ) → Readers → (List Star) → List Token → Read Declarator
read_plain_declarator names below s ts = do
  n ← take (name_of names) ts
  xs ← read_suffixes names below [] n.1
  Ok (record { name = n.0; form = abstracts.Plain s xs.0 }, xs.1)

unfoldable pub read_group_declarator : List (List ℕ) → Readers → (List Star) → List Token → Read Declarator
read_group_declarator names below s ts = do
  p ← expect (Mark mark.ParenOpen) ts
  d ← below.declarator p.1
  c ← expect (Mark mark.ParenClose) d.1
  xs ← read_suffixes names below [] c.1
  Ok (record { name = d.0.name; form = abstracts.Group s p.0 d.0.form xs.0 }, xs.1)

unfoldable pub read_declarator : List (List ℕ) → Readers → List Token → Read Declarator
read_declarator names below ts = do
  s ← read_stars names ts
  if next_is_name names s.1 then read_plain_declarator names below s.0 s.1 else read_group_declarator names below s.0 s.1

unfoldable pub read_group_abstract : List (List ℕ) → Readers → (List Star) → List Token → Read Abstract
read_group_abstract names below s ts = do
  p ← expect (Mark mark.ParenOpen) ts
  a ← below.nameless p.1
  c ← expect (Mark mark.ParenClose) a.1
  xs ← read_suffixes names below [] c.1
  Ok (abstracts.Group s p.0 a.0 xs.0, xs.1)

unfoldable pub read_nameless : List (List ℕ) → Readers → List Token → Read Abstract
read_nameless names below ts = do
  s ← read_stars names ts
  if opens_group s.1 then read_group_abstract names below s.0 s.1 else read_suffixes names below [] s.1 >>= (λ xs. Ok (abstracts.Plain s.0 xs.0, xs.1))

abbrev pub grouped_either : List Star → Place → Either → List Suffix → Either
grouped_either s p (either.Named d) xs = either.Named (record { name = d.name; form = abstracts.Group s p d.form xs })
grouped_either s p (either.Unnamed a) xs = either.Unnamed (abstracts.Group s p a xs)

-- "(" NAME: the group of a declarator
abbrev pub opens_name : List (List ℕ) → List Token → Bool
opens_name names ts = next_is (Mark mark.ParenOpen) ts && after (next_is_name names) ts

unfoldable pub read_plain_either : List (List ℕ) → Readers → List Star → List Token → Read Either
read_plain_either names below s ts = do
  n ← take (name_of names) ts
  xs ← read_suffixes names below [] n.1
  Ok (either.Named (record { name = n.0; form = abstracts.Plain s xs.0 }), xs.1)

unfoldable pub read_group_either : List (List ℕ) → Readers → List Star → List Token → Read Either
read_group_either names below s ts = do
  p ← expect (Mark mark.ParenOpen) ts
  x ← below.either p.1
  c ← expect (Mark mark.ParenClose) x.1
  xs ← read_suffixes names below [] c.1
  Ok (grouped_either s p.0 x.0 xs.0, xs.1)

unfoldable pub read_named_either : List (List ℕ) → Readers → List Star → List Token → Read Either
read_named_either names below s ts = do
  p ← expect (Mark mark.ParenOpen) ts
  d ← below.declarator p.1
  c ← expect (Mark mark.ParenClose) d.1
  xs ← read_suffixes names below [] c.1
  Ok (either.Named (record { name = d.0.name; form = abstracts.Group s p.0 d.0.form xs.0 }), xs.1)

unfoldable pub read_bare_either : List (List ℕ) → Readers → List Star → List Token → Read Either
read_bare_either names below s ts = do
  xs ← read_suffixes names below [] ts
  Ok (either.Unnamed (abstracts.Plain s xs.0), xs.1)

unfoldable pub read_after_stars : List (List ℕ) → Readers → List Star → List Token → Read Either
read_after_stars names below s ts =
    if next_is_name names ts then read_plain_either names below s ts
    else if opens_name names ts then read_named_either names below s ts
    else if opens_group ts then read_group_either names below s ts
    else read_bare_either names below s ts

-- a declarator or an abstract declarator
unfoldable pub read_either : List (List ℕ) → Readers → List Token → Read Either
read_either names below ts = do
  s ← read_stars names ts
  read_after_stars names below s.0 s.1

-- no "}" stands next
abbrev pub in_braces : List Token → Bool
in_braces ts = not (next_is (Mark mark.BraceClose) ts)

unfoldable pub read_initial_item : List (List ℕ) → Readers → List Initial → List Token → Read (List Initial)
read_initial_item names below so_far ts = do
  k ← expect (Mark mark.Comma) ts
  x ← below.initials k.1
  Ok (so_far ++ x.0 ∷ [], x.1)

unfoldable pub read_more_initials : List (List ℕ) → Readers → List Initial → List Token → Read (List Initial)
read_more_initials names below so_far ts = repeat (comma_more) (read_initial_item names below) (length ts) so_far ts

unfoldable pub read_braced_initial : List (List ℕ) → Readers → List Token → Read Initial
read_braced_initial names below ts = do
  p ← expect (Mark mark.BraceOpen) ts
  x ← below.initials p.1
  xs ← read_more_initials names below (x.0 ∷ []) x.1
  b ← read_opt_comma xs.1
  c ← expect (Mark mark.BraceClose) b.1
  Ok (initial.Braces p.0 xs.0, c.1)

unfoldable pub read_initial : List (List ℕ) → Readers → List Token → Read Initial
read_initial names below ts =
    if next_is (Mark mark.BraceOpen) ts then read_braced_initial names below ts
    else below.assign ts >>= (λ e. Ok (initial.Assign e.0, e.1))

unfoldable pub read_init_value : Readers → Declarator → List Attr → List Token → Read Init
read_init_value below d xs ts = do
  k ← expect (Mark mark.Assign) ts
  v ← below.initials k.1
  Ok (record { declarator = d; attrs = xs; value = Some v.0 }, v.1)

-- what stands after a declarator and its attributes
unfoldable pub read_init_end : Readers → Declarator → List Attr → List Token → Read Init
read_init_end below d xs ts =
    if next_is (Mark mark.Assign) ts then read_init_value below d xs ts
    else Ok (record { declarator = d; attrs = xs; value = None }, ts)

unfoldable pub read_init : List (List ℕ) → Readers → List Token → Read Init
read_init names below ts = do
  d ← below.declarator ts
  xs ← read_attrs names [] d.1
  read_init_end below d.0 xs.0 xs.1

unfoldable pub read_init_item : List (List ℕ) → Readers → List Init → List Token → Read (List Init)
read_init_item names below so_far ts = do
  k ← expect (Mark mark.Comma) ts
  x ← read_init names below k.1
  Ok (so_far ++ x.0 ∷ [], x.1)

unfoldable pub read_more_inits : List (List ℕ) → Readers → List Init → List Token → Read (List Init)
read_more_inits names below so_far ts = repeat (next_is (Mark mark.Comma)) (read_init_item names below) (length ts) so_far ts

unfoldable pub read_inits_decl : List (List ℕ) → Readers → (List Spec) → List Token → Read Decl
read_inits_decl names below s ts = do
  x ← read_init names below ts
  xs ← read_more_inits names below (x.0 ∷ []) x.1
  c ← expect (Mark mark.Semicolon) xs.1
  Ok (record { specs = s; inits = xs.0 }, c.1)

unfoldable pub read_decl : List (List ℕ) → Readers → List Token → Read Decl
read_decl names below ts = do
  s ← read_specs names below ts
  if next_is (Mark mark.Semicolon) s.1 then (expect (Mark mark.Semicolon) s.1 >>= (λ c. Ok (record { specs = s.0; inits = [] }, c.1))) else read_inits_decl names below s.0 s.1

unfoldable pub read_opt_expr : List (List ℕ) → Readers → List Token → Read (Option Expr)
read_opt_expr names below ts =
    if begins_expr names ts then (read_expr names below ts >>= (λ e. Ok (Some e.0, e.1)))
    else Ok (None, ts)

unfoldable pub read_first : List (List ℕ) → Readers → List Token → Read First
read_first names below ts =
    if begins_spec names ts then (read_decl names below ts >>= (λ d. Ok (first.Decl d.0, d.1)))
    else read_opt_expr names below ts >>= (λ e. expect (Mark mark.Semicolon) e.1 >>= (λ c. Ok (first.Expr e.0, c.1)))

unfoldable pub read_case_label : List (List ℕ) → Readers → List Token → Read Label
read_case_label names below ts = do
  p ← expect (Word word.Case) ts
  e ← below.cond p.1
  c ← expect (Mark mark.Colon) e.1
  Ok (label.Case p.0 e.0, c.1)

unfoldable pub read_label : List (List ℕ) → Readers → List Token → Read Label
read_label names below ts =
    if next_is (Word word.Case) ts then read_case_label names below ts
    else expect (Word word.Default) ts >>= (λ p. expect (Mark mark.Colon) p.1 >>= (λ c. Ok (label.Default p.0, c.1)))

unfoldable pub read_item : List (List ℕ) → Readers → List Token → Read Item
read_item names below ts =
    if begins_spec names ts then (read_decl names below ts >>= (λ d. Ok (item.Decl d.0, d.1)))
    else below.stmts ts >>= (λ s. Ok (item.Stmt s.0, s.1))

unfoldable pub read_item_item : List (List ℕ) → Readers → List Item → List Token → Read (List Item)
read_item_item names below so_far ts = do
  x ← read_item names below ts
  Ok (so_far ++ x.0 ∷ [], x.1)

unfoldable pub read_items : List (List ℕ) → Readers → List Item → List Token → Read (List Item)
read_items names below so_far ts = repeat (in_braces) (read_item_item names below) (length ts) so_far ts

unfoldable pub read_block : List (List ℕ) → Readers → List Token → Read Block
read_block names below ts = do
  p ← expect (Mark mark.BraceOpen) ts
  xs ← read_items names below [] p.1
  c ← expect (Mark mark.BraceClose) xs.1
  Ok (record { place = p.0; items = xs.0 }, c.1)

unfoldable pub read_return_stmt : List (List ℕ) → Readers → List Token → Read Stmt
read_return_stmt names below ts = do
  p ← expect (Word word.Return) ts
  e ← read_opt_expr names below p.1
  c ← expect (Mark mark.Semicolon) e.1
  Ok (stmt.Return p.0 e.0, c.1)

unfoldable pub read_if_else : List (List ℕ) → Readers → Place → Expr → Stmt → List Token → Read Stmt
read_if_else names below p e a ts = do
  l ← expect (Word word.Else) ts
  b ← below.stmts l.1
  Ok (stmt.If p e a (Some b.0), b.1)

unfoldable pub read_if_stmt : List (List ℕ) → Readers → List Token → Read Stmt
read_if_stmt names below ts = do
  p ← expect (Word word.If) ts
  o ← expect (Mark mark.ParenOpen) p.1
  e ← read_expr names below o.1
  c ← expect (Mark mark.ParenClose) e.1
  a ← below.stmts c.1
  if next_is (Word word.Else) a.1 then read_if_else names below p.0 e.0 a.0 a.1 else Ok (stmt.If p.0 e.0 a.0 None, a.1)

unfoldable pub read_while_stmt : List (List ℕ) → Readers → List Token → Read Stmt
read_while_stmt names below ts = do
  p ← expect (Word word.While) ts
  o ← expect (Mark mark.ParenOpen) p.1
  e ← read_expr names below o.1
  c ← expect (Mark mark.ParenClose) e.1
  a ← below.stmts c.1
  Ok (stmt.While p.0 e.0 a.0, a.1)

unfoldable pub read_do_stmt : List (List ℕ) → Readers → List Token → Read Stmt
read_do_stmt names below ts = do
  p ← expect (Word word.Do) ts
  a ← below.stmts p.1
  w ← expect (Word word.While) a.1
  o ← expect (Mark mark.ParenOpen) w.1
  e ← read_expr names below o.1
  c ← expect (Mark mark.ParenClose) e.1
  c2 ← expect (Mark mark.Semicolon) c.1
  Ok (stmt.DoWhile p.0 a.0 e.0, c2.1)

unfoldable pub read_for_stmt : List (List ℕ) → Readers → List Token → Read Stmt
read_for_stmt names below ts = do
  p ← expect (Word word.For) ts
  o ← expect (Mark mark.ParenOpen) p.1
  f ← read_first names below o.1
  t ← read_opt_expr names below f.1
  c ← expect (Mark mark.Semicolon) t.1
  x ← read_opt_expr names below c.1
  c2 ← expect (Mark mark.ParenClose) x.1
  a ← below.stmts c2.1
  Ok (stmt.For p.0 (record { first = f.0; test = t.0; step = x.0 }) a.0, a.1)

unfoldable pub read_part : List (List ℕ) → Readers → List Token → Read Part
read_part names below ts =
    if begins_label ts then (read_label names below ts >>= (λ l. Ok (part.Label l.0, l.1)))
    else if begins_spec names ts then (read_decl names below ts >>= (λ d. Ok (part.Decl d.0, d.1)))
    else below.stmts ts >>= (λ s. Ok (part.Stmt s.0, s.1))

unfoldable pub read_part_item : List (List ℕ) → Readers → List Part → List Token → Read (List Part)
read_part_item names below so_far ts = do
  x ← read_part names below ts
  Ok (so_far ++ x.0 ∷ [], x.1)

unfoldable pub read_parts : List (List ℕ) → Readers → List Part → List Token → Read (List Part)
read_parts names below so_far ts = repeat (in_braces) (read_part_item names below) (length ts) so_far ts

unfoldable pub read_switch_stmt : List (List ℕ) → Readers → List Token → Read Stmt
read_switch_stmt names below ts = do
  p ← expect (Word word.Switch) ts
  o ← expect (Mark mark.ParenOpen) p.1
  e ← read_expr names below o.1
  c ← expect (Mark mark.ParenClose) e.1
  o2 ← expect (Mark mark.BraceOpen) c.1
  xs ← read_parts names below [] o2.1
  c2 ← expect (Mark mark.BraceClose) xs.1
  Ok (stmt.Switch p.0 e.0 xs.0, c2.1)

unfoldable pub read_stmt : List (List ℕ) → Readers → List Token → Read Stmt
read_stmt names below ts =
    if next_is (Mark mark.BraceOpen) ts then (read_block names below ts >>= (λ b. Ok (stmt.Block b.0, b.1)))
    else if next_is (Mark mark.Semicolon) ts then (expect (Mark mark.Semicolon) ts >>= (λ p. Ok (stmt.Empty p.0, p.1)))
    else if next_is (Word word.Return) ts then read_return_stmt names below ts
    else if next_is (Word word.Break) ts then (expect (Word word.Break) ts >>= (λ p. expect (Mark mark.Semicolon) p.1 >>= (λ c. Ok (stmt.Break p.0, c.1))))
    else if next_is (Word word.Continue) ts then (expect (Word word.Continue) ts >>= (λ p. expect (Mark mark.Semicolon) p.1 >>= (λ c. Ok (stmt.Continue p.0, c.1))))
    else if next_is (Word word.If) ts then read_if_stmt names below ts
    else if next_is (Word word.While) ts then read_while_stmt names below ts
    else if next_is (Word word.Do) ts then read_do_stmt names below ts
    else if next_is (Word word.For) ts then read_for_stmt names below ts
    else if next_is (Word word.Switch) ts then read_switch_stmt names below ts
    else read_expr names below ts >>= (λ e. expect (Mark mark.Semicolon) e.1 >>= (λ c. Ok (stmt.Expr e.0, c.1)))

-- where no level is left: a token that could begin the part is too deep, and any other can't stand here
abbrev pub deep_if : Bool → List Token → Fault
deep_if begins ts = if begins then deep ts else fault ts

abbrev pub no_nameless : List Token → Read Abstract
no_nameless ts = if begins_abstract ts then Err (deep ts) else Ok (abstracts.Plain [] [], ts)

abbrev pub no_either : List (List ℕ) → List Token → Read Either
no_either names ts = if begins_either names ts then Err (deep ts) else Ok (either.Unnamed (abstracts.Plain [] []), ts)

-- the readers where n levels are left
unfoldable pub levels : List (List ℕ) → ℕ → Readers
levels names zero = record {
  assign = λ ts. Err (deep_if (begins_expr names ts) ts);
  cond = λ ts. Err (deep_if (begins_expr names ts) ts);
  cast = λ ts. Err (deep_if (begins_expr names ts) ts);
  stepped = λ ts. Err (deep_if (begins_step ts) ts);
  structs = λ ts. Err (deep_if (next_is (Word word.Struct) ts) ts);
  declarator = λ ts. Err (deep_if (begins_declarator names ts) ts);
  nameless = no_nameless;
  initials = λ ts. Err (deep_if (begins_initial names ts) ts);
  stmts = λ ts. Err (deep_if (begins_stmt names ts) ts);
  either = no_either names;
}
levels names (suc n) =
    let below : Readers = levels names n in
    record {
      assign = read_assign names below;
      cond = read_cond names below;
      cast = read_cast names below;
      stepped = read_stepped names below;
      structs = read_structs names below;
      declarator = read_declarator names below;
      nameless = read_nameless names below;
      initials = read_initial names below;
      stmts = read_stmt names below;
      either = read_either names below;
    }

-- the typedef names, and the parts so far
abbrev pub Unit_so_far : Type 0
Unit_so_far = List (List ℕ) × List External

unfoldable pub read_function_body : List (List ℕ) → Readers → List Spec → Declarator → List Attr → List Token → Read External
read_function_body names below s d xs ts = do
  b ← read_block names below ts
  Ok (external.Function (record { specs = s; declarator = d; attrs = xs; body = b.0 }), b.1)

unfoldable pub read_other_inits : List (List ℕ) → Readers → List Spec → Declarator → List Attr → List Token → Read External
read_other_inits names below s d xs ts = do
  i ← read_init_end below d xs ts
  is ← read_more_inits names below (i.0 ∷ []) i.1
  c ← expect (Mark mark.Semicolon) is.1
  Ok (external.Decl (record { specs = s; inits = is.0 }), c.1)

-- what stands after the specifiers, a declarator and its attributes
unfoldable pub read_after_attrs : List (List ℕ) → Readers → List Spec → Declarator → List Attr → List Token → Read External
read_after_attrs names below s d xs ts =
    if next_is (Mark mark.BraceOpen) ts then read_function_body names below s d xs ts
    else read_other_inits names below s d xs ts

unfoldable pub read_declared : List (List ℕ) → Readers → List Spec → List Token → Read External
read_declared names below s ts = do
  d ← below.declarator ts
  xs ← read_attrs names [] d.1
  read_after_attrs names below s d.0 xs.0 xs.1

unfoldable pub read_bare : List Spec → List Token → Read External
read_bare s ts = do
  c ← expect (Mark mark.Semicolon) ts
  Ok (external.Decl (record { specs = s; inits = [] }), c.1)

unfoldable pub read_after_specs : List (List ℕ) → Readers → List Spec → List Token → Read External
read_after_specs names below s ts =
    if next_is (Mark mark.Semicolon) ts then read_bare s ts
    else read_declared names below s ts

-- a declaration or a function
unfoldable pub read_external : List (List ℕ) → Readers → List Token → Read External
read_external names below ts = do
  s ← read_specs names below ts
  read_after_specs names below s.0 s.1

unfoldable pub read_include : Unit_so_far → List Token → Read Unit_so_far
read_include u ts = do
  h ← take include_of ts
  Ok ((with_names u.0 (header_names h.0.1), u.1 ++ external.Include h.0.0 h.0.1 ∷ []), h.1)

-- the names that a part of file scope adds
abbrev pub added : External → List (List ℕ)
added (external.Decl d) = declared d
added _ = []

unfoldable pub read_no_include : ℕ → Unit_so_far → List Token → Read Unit_so_far
read_no_include n u ts = do
  x ← read_external u.0 (levels u.0 n) ts
  Ok ((with_names u.0 (added x.0), u.1 ++ x.0 ∷ []), x.1)

unfoldable pub read_part_of_unit : ℕ → Unit_so_far → List Token → Read Unit_so_far
read_part_of_unit n u ts = if has include_of ts then read_include u ts else read_no_include n u ts

abbrev pub is_some_token : List Token → Bool
is_some_token [] = false
is_some_token (_ ∷ _) = true

unfoldable pub read_unit : ℕ → List Token → Read Unit_so_far
read_unit n ts = repeat is_some_token (read_part_of_unit n) (length ts) ([], []) ts
