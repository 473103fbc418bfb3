-- What a reader of expressions answers, from what the readers that it calls answer: one law for each alternative.
use Rattle.std.proofs.Common.{Bool, List, [], arith, false, length, refl, suc, true, ℕ, ◌≡◌, ◌<◌, ◌≤◌, ◌∷◌, ◌++◌, ◌+◌}
use Rattle.std.specs.Option.{is_some}
use Rattle.cm_base.specs.declared.place.Place.{Place}
use Rattle.c_lex.specs.declared.token.Token.{Token}
use Rattle.c_grammar.specs.declared.tokens.Sign.TheVariants.{Mark, Word}
use Rattle.c_ast.specs.declared.expr.Name.{Name}
use Rattle.c_ast.specs.declared.expr.BinOp.{BinOp}
use Rattle.c_ast.specs.declared.expr.AssignOp.{AssignOp}
use Rattle.c_ast.specs.declared.expr.UnOp.{UnOp}
use Rattle.c_ast.specs.declared.expr.StepOp.{StepOp}
use Rattle.c_ast.specs.declared.expr.Expr.{Expr}
use Rattle.c_ast.specs.declared.expr.Link.{Link}
use Rattle.c_ast.specs.declared.expr.Next.{Next as After}
use Rattle.c_ast.specs.declared.expr.Access.{Access}
use Rattle.c_ast.specs.declared.expr.TypeName.{TypeName}
use Rattle.c_ast.specs.declared.expr.Spec.{Spec}
use Rattle.c_ast.specs.declared.expr.Abstract.{Abstract}
use Rattle.c_grammar.specs.Tokens.{access_token, assign_op_of, begins_access, begins_expr, char_of, has, is_sign, name_of, next_is, number_of, op_of, step_op, step_op_of, step_token, string_of, type_follows, un_op, un_op_of}
use Rattle.c_grammar.specs.Grammar.{AbstractAt, AccessAt, Accesses, Args, Assign, Binary, Cast, Cond, ExprAt, MoreCommas, MoreExprs, MoreOps, Next, Postfix, Primary, SizeofAt, SpecsAt, Stepped, Takes, TypeNameAt, Unary, a_char, a_name, a_number, a_sizeof, a_string, after_comma, assigned, binaries, called, chosen, converted, counted_unary, exprs, grouped, indexed, link, member_behind, member_of, next_access, next_comma, next_expr, next_op, no_access, no_args, no_commas, no_expr, no_op, only_binary, only_cast, only_cond, only_postfix, only_unary, postfixed, prefixed, sizeof_expr, sizeof_type, some_args, step_after, step_before, type_name}
use Rattle.c_grammar.specs.Reading.{levels, read_access, read_access_item, read_accesses, read_args, read_assign, read_assigned, read_binary, read_called, read_cast, read_chosen, read_comma_item, read_cond, read_converted, read_expr, read_expr_item, read_grouped, read_indexed, read_more_commas, read_more_exprs, read_more_ops, read_op_item, read_postfix, read_prefixed, read_primary, read_size_of, read_sizeof_expr, read_sizeof_type, read_some_args, read_step_before, read_stepped, read_typename, read_unary}
use Rattle.c_grammar.specs.Nesting.{deep_expr}
use Rattle.c_grammar.proofs.Shrinks.{access_shrinks, assign_shrinks, binary_shrinks, next_shrinks, takes_shrinks}
use Rattle.grammar_laws.specs.Follow.{follow}
use Rattle.grammar_laws.proofs.First.{char_at, is_new, mark_at, name_at, not_access, not_op, number_at, step_mark, string_at, un_mark}
use Rattle.grammar_laws.proofs.Answered.{AbstractReads, AccessReads, AccessesReads, ArgsReads, AssignReads, BinaryReads, CastReads, CondReads, ExprReads, MoreCommasReads, MoreExprsReads, MoreOpsReads, PostfixReads, PrimaryReads, SizeofReads, SpecsReads, SteppedReads, TypeNameReads, UnaryReads}
use Rattle.grammar_laws.proofs.Steps.{and_last, and_so, done, ends, if_not, if_so, next_expect, next_test, not_next, other, read_by, sign_at, step, takes_take, takes_test, too_deep, turns}
use Rattle.grammar_laws.proofs.ExprBegins.{assign_begins, cast_begins, cond_begins, postfix_no_step, postfix_no_un, sizeof_no_step, stepped_step, unary_no_type}
use Rattle.c_lex.specs.declared.token.Keyword.TheVariants as word
use Rattle.c_lex.specs.declared.token.Punct.TheVariants as mark

-- ---- expr, assign, cond

pub expr_by : {names : List (List ℕ)} {ts r1 rest : List Token} {a : Expr} {more : List After} (d0 : Assign names ts a r1) (d1 : MoreCommas names r1 [] more rest) (n : ℕ) →
    AssignReads d0 n → MoreCommasReads d1 n (length r1) → ExprReads (exprs d0 d1) n
unfolding read_expr read_more_commas deep_expr
expr_by d0 d1 n p q = and_so _ p (and_last _ q done)

pub more_commas_turn : {names : List (List ℕ)} {ts r1 r2 rest : List Token} {k : Place} {b : Expr} (so_far : List After) {all : List After}
    (d0 : Next (Mark mark.Comma) ts k r1) (d1 : Assign names r1 b r2) (m : MoreCommas names r2 (so_far ++ after_comma k b ∷ []) all rest) (n fuel : ℕ) →
    AssignReads d1 n → length ts ≤ fuel → ((f : ℕ) → length r2 ≤ f → MoreCommasReads m n f) → MoreCommasReads (next_comma d0 d1 m) n fuel
unfolding read_comma_item deep_expr
more_commas_turn so_far d0 d1 m n fuel p fits rec = turns _ _ fuel (next_test d0) (step _ (next_expect d0) (and_last _ p done)) (omega (arith, next_shrinks d0, assign_shrinks d1)) fits rec

pub more_commas_end : (names : List (List ℕ)) (ts : List Token) (so_far : List After) (n fuel : ℕ) → follow ts < 1 → MoreCommasReads {names = names} {ts = ts} {rest = ts} {so_far = so_far} {all = so_far} no_commas n fuel
unfolding deep_expr
more_commas_end names ts so_far n fuel stop = ends _ _ fuel so_far ts (not_next (Mark mark.Comma) ts stop)

pub more_exprs_turn : {names : List (List ℕ)} {ts r1 r2 rest : List Token} {k : Place} {b : Expr} (so_far : List Expr) {all : List Expr}
    (d0 : Next (Mark mark.Comma) ts k r1) (d1 : Assign names r1 b r2) (m : MoreExprs names r2 (so_far ++ b ∷ []) all rest) (n fuel : ℕ) →
    AssignReads d1 n → length ts ≤ fuel → ((f : ℕ) → length r2 ≤ f → MoreExprsReads m n f) → MoreExprsReads (next_expr d0 d1 m) n fuel
unfolding read_expr_item deep_expr
more_exprs_turn so_far d0 d1 m n fuel p fits rec = turns _ _ fuel (next_test d0) (step _ (next_expect d0) (and_last _ p done)) (omega (arith, next_shrinks d0, assign_shrinks d1)) fits rec

pub more_exprs_end : (names : List (List ℕ)) (ts : List Token) (so_far : List Expr) (n fuel : ℕ) → follow ts < 1 → MoreExprsReads {names = names} {ts = ts} {rest = ts} {so_far = so_far} {all = so_far} no_expr n fuel
unfolding deep_expr
more_exprs_end names ts so_far n fuel stop = ends _ _ fuel so_far ts (not_next (Mark mark.Comma) ts stop)

pub assign_deep : {names : List (List ℕ)} {ts rest : List Token} {a : Expr} (d : Assign names ts a rest) → AssignReads d 0
unfolding levels deep_expr
assign_deep d = too_deep _ (assign_begins d)

pub assigned_by : {names : List (List ℕ)} {ts r1 r2 rest : List Token} {a b : Expr} {o : Place × AssignOp} (d0 : Cond names ts a r1) (d1 : Takes assign_op_of r1 o r2) (d2 : Assign names r2 b rest) (n : ℕ) →
    CondReads d0 n → AssignReads d2 n → AssignReads (assigned d0 d1 d2) (suc n)
unfolding levels read_assign read_assigned deep_expr
assigned_by d0 d1 d2 n p q = and_so _ p (if_so _ (takes_test d1) (step _ (takes_take d1) (and_last _ q done)))

pub only_cond_by : {names : List (List ℕ)} {ts rest : List Token} {a : Expr} (d0 : Cond names ts a rest) (n : ℕ) → has assign_op_of rest ≡ false → CondReads d0 n → AssignReads (only_cond d0) (suc n)
unfolding levels read_assign deep_expr
only_cond_by d0 n h p = and_last _ p (if_not _ h done)

pub cond_deep : {names : List (List ℕ)} {ts rest : List Token} {a : Expr} (d : Cond names ts a rest) → CondReads d 0
unfolding levels deep_expr
cond_deep d = too_deep _ (cond_begins d)

pub chosen_by : {names : List (List ℕ)} {ts r1 r2 r3 r4 rest : List Token} {a b e : Expr} {k c : Place}
    (d0 : Binary names 10 ts a r1) (d1 : Next (Mark mark.Question) r1 k r2) (d2 : ExprAt names r2 b r3) (d3 : Next (Mark mark.Colon) r3 c r4) (d4 : Cond names r4 e rest) (n : ℕ) →
    BinaryReads d0 n → ExprReads d2 n → CondReads d4 n → CondReads (chosen d0 d1 d2 d3 d4) (suc n)
unfolding levels read_cond read_chosen deep_expr
chosen_by d0 d1 d2 d3 d4 n p q s = and_so _ p (if_so _ (next_test d1) (step _ (next_expect d1) (and_so _ q (step _ (next_expect d3) (and_last _ s done)))))

pub only_binary_by : {names : List (List ℕ)} {ts rest : List Token} {a : Expr} (d0 : Binary names 10 ts a rest) (n : ℕ) → next_is (Mark mark.Question) rest ≡ false → BinaryReads d0 n → CondReads (only_binary d0) (suc n)
unfolding levels read_cond deep_expr
only_binary_by d0 n h p = and_last _ p (if_not _ h done)

-- ---- binary

pub only_cast_by : {names : List (List ℕ)} {ts rest : List Token} {a : Expr} (d0 : Cast names ts a rest) (n : ℕ) → CastReads d0 n → BinaryReads (only_cast d0) n
unfolding read_binary deep_expr
only_cast_by d0 n p = p

pub binaries_by : {names : List (List ℕ)} {l : ℕ} {ts r1 rest : List Token} {a : Expr} {more : List Link} (d0 : Binary names l ts a r1) (d1 : MoreOps names l r1 [] more rest) (n : ℕ) →
    BinaryReads d0 n → MoreOpsReads d1 n (length r1) → BinaryReads (binaries d0 d1) n
unfolding read_binary read_more_ops deep_expr
binaries_by d0 d1 n p q = and_so _ p (and_last _ q done)

pub more_ops_turn : {names : List (List ℕ)} {l : ℕ} {ts r1 r2 rest : List Token} {o : Place × BinOp} {b : Expr} (so_far : List Link) {all : List Link}
    (d0 : Takes (op_of l) ts o r1) (d1 : Binary names l r1 b r2) (m : MoreOps names l r2 (so_far ++ link o b ∷ []) all rest) (n fuel : ℕ) →
    BinaryReads d1 n → length ts ≤ fuel → ((f : ℕ) → length r2 ≤ f → MoreOpsReads m n f) → MoreOpsReads (next_op d0 d1 m) n fuel
unfolding read_op_item deep_expr
more_ops_turn so_far d0 d1 m n fuel p fits rec = turns _ _ fuel (takes_test d0) (step _ (takes_take d0) (and_last _ p done)) (omega (arith, takes_shrinks d0, binary_shrinks d1)) fits rec

pub more_ops_end : (names : List (List ℕ)) (l : ℕ) (ts : List Token) (so_far : List Link) (n fuel : ℕ) → follow ts + suc l < 14 → MoreOpsReads {names = names} {l = l} {ts = ts} {rest = ts} {so_far = so_far} {all = so_far} no_op n fuel
unfolding deep_expr
more_ops_end names l ts so_far n fuel stop = ends _ _ fuel so_far ts (not_op l ts (omega arith))

-- ---- cast, typename, unary

pub cast_deep : {names : List (List ℕ)} {ts rest : List Token} {a : Expr} (d : Cast names ts a rest) → CastReads d 0
unfolding levels deep_expr
cast_deep d = too_deep _ (cast_begins d)

pub converted_by : {names : List (List ℕ)} {ts r1 r2 r3 rest : List Token} {k c : Place} {t : TypeName} {e : Expr}
    (d0 : Next (Mark mark.ParenOpen) ts k r1) (d1 : TypeNameAt names r1 t r2) (d2 : Next (Mark mark.ParenClose) r2 c r3) (d3 : Cast names r3 e rest) (n : ℕ) →
    type_follows names ts ≡ true → TypeNameReads d1 n → CastReads d3 n → CastReads (converted d0 d1 d2 d3) (suc n)
unfolding levels read_cast read_converted deep_expr
converted_by d0 d1 d2 d3 n h p q = if_so _ h (step _ (next_expect d0) (and_so _ p (step _ (next_expect d2) (and_last _ q done))))

pub only_unary_by : {names : List (List ℕ)} {ts rest : List Token} {a : Expr} (d0 : Unary names ts a rest) (n : ℕ) → UnaryReads d0 n → CastReads (only_unary d0) (suc n)
unfolding levels read_cast deep_expr
only_unary_by d0 n p = if_not _ (unary_no_type d0) p

pub typename_by : {names : List (List ℕ)} {ts r1 rest : List Token} {s : List Spec} {a : Abstract} (d0 : SpecsAt names ts s r1) (d1 : AbstractAt names r1 a rest) (n : ℕ) →
    SpecsReads d0 n → AbstractReads d1 n → TypeNameReads (type_name d0 d1) n
unfolding read_typename deep_expr
typename_by d0 d1 n p q = and_so _ p (and_last _ q done)

pub counted_by : {names : List (List ℕ)} {ts rest : List Token} {a : Expr} (d0 : Stepped names ts a rest) (n : ℕ) → SteppedReads d0 n → UnaryReads (counted_unary d0) n
unfolding read_unary deep_expr
counted_by d0 n p = if_so _ (stepped_step d0) p

pub prefixed_by : {names : List (List ℕ)} {ts r1 rest : List Token} {o : Place × UnOp} {e : Expr} (d0 : Takes un_op_of ts o r1) (d1 : Cast names r1 e rest) (n : ℕ) →
    CastReads d1 n → UnaryReads (prefixed d0 d1) n
unfolding read_unary read_prefixed deep_expr
prefixed_by {names = names} d0 d1 n p = if_not _ (mark_at un_op step_token false (λ q m e. (un_mark names q m e).1) d0) (if_so _ (takes_test d0) (step _ (takes_take d0) (and_last _ p done)))

pub only_postfix_by : {names : List (List ℕ)} {ts rest : List Token} {a : Expr} (d0 : Postfix names ts a rest) (n : ℕ) → PostfixReads d0 n → UnaryReads (only_postfix d0) n
unfolding read_unary deep_expr
only_postfix_by d0 n p = if_not _ (postfix_no_step d0) (if_not _ (postfix_no_un d0) p)

pub stepped_deep : {names : List (List ℕ)} {ts rest : List Token} {a : Expr} (d : Stepped names ts a rest) → SteppedReads d 0
unfolding levels deep_expr
stepped_deep d = too_deep _ (stepped_step d)

pub step_before_by : {names : List (List ℕ)} {ts r1 rest : List Token} {o : Place × StepOp} {e : Expr} (d0 : Takes step_op_of ts o r1) (d1 : Unary names r1 e rest) (n : ℕ) →
    UnaryReads d1 n → SteppedReads (step_before d0 d1) (suc n)
unfolding levels read_stepped read_step_before deep_expr
step_before_by d0 d1 n p = if_so _ (takes_test d0) (step _ (takes_take d0) (and_last _ p done))

pub a_sizeof_by : {names : List (List ℕ)} {ts rest : List Token} {a : Expr} (d0 : SizeofAt names ts a rest) (n : ℕ) → SizeofReads d0 n → SteppedReads (a_sizeof d0) (suc n)
unfolding levels read_stepped deep_expr
a_sizeof_by d0 n p = if_not _ (sizeof_no_step d0) p

pub sizeof_type_by : {names : List (List ℕ)} {ts r1 r2 r3 rest : List Token} {k o c : Place} {t : TypeName}
    (d0 : Next (Word word.Sizeof) ts k r1) (d1 : Next (Mark mark.ParenOpen) r1 o r2) (d2 : TypeNameAt names r2 t r3) (d3 : Next (Mark mark.ParenClose) r3 c rest) (n : ℕ) →
    type_follows names r1 ≡ true → TypeNameReads d2 n → SizeofReads (sizeof_type d0 d1 d2 d3) n
unfolding read_size_of read_sizeof_type deep_expr
sizeof_type_by d0 d1 d2 d3 n h p = step _ (next_expect d0) (if_so _ h (step _ (next_expect d1) (and_last _ p (step _ (next_expect d3) done))))

pub sizeof_expr_by : {names : List (List ℕ)} {ts r1 rest : List Token} {k : Place} {e : Expr} (d0 : Next (Word word.Sizeof) ts k r1) (d1 : Unary names r1 e rest) (n : ℕ) →
    UnaryReads d1 n → SizeofReads (sizeof_expr d0 d1) n
unfolding read_size_of read_sizeof_expr deep_expr
sizeof_expr_by d0 d1 n p = step _ (next_expect d0) (if_not _ (unary_no_type d1) (and_last _ p done))

-- ---- postfix

pub postfixed_by : {names : List (List ℕ)} {ts r1 rest : List Token} {a : Expr} {more : List Access} (d0 : Primary names ts a r1) (d1 : Accesses names r1 [] more rest) (n : ℕ) →
    PrimaryReads d0 n → AccessesReads d1 n (length r1) → PostfixReads (postfixed d0 d1) n
unfolding read_postfix read_accesses deep_expr
postfixed_by d0 d1 n p q = and_so _ p (and_last _ q done)

access_begins : {names : List (List ℕ)} {ts rest : List Token} {x : Access} → AccessAt names ts x rest → begins_access ts ≡ true
access_begins (indexed d0 d1 d2) = sign_at access_token true (λ q. refl) d0
access_begins (called d0 d1 d2) = sign_at access_token true (λ q. refl) d0
access_begins (member_of d0 d1) = sign_at access_token true (λ q. refl) d0
access_begins (member_behind d0 d1) = sign_at access_token true (λ q. refl) d0
access_begins {names = names} (step_after d0) = mark_at step_op access_token true (λ q m e. (step_mark names q m e).access) d0

pub accesses_turn : {names : List (List ℕ)} {ts r1 rest : List Token} {x : Access} (so_far : List Access) {all : List Access} (d0 : AccessAt names ts x r1) (m : Accesses names r1 (so_far ++ x ∷ []) all rest) (n fuel : ℕ) →
    AccessReads d0 n → length ts ≤ fuel → ((f : ℕ) → length r1 ≤ f → AccessesReads m n f) → AccessesReads (next_access d0 m) n fuel
unfolding read_access_item deep_expr
accesses_turn so_far d0 m n fuel p fits rec = turns _ _ fuel (access_begins d0) (and_last _ p done) (access_shrinks d0) fits rec

pub accesses_end : (names : List (List ℕ)) (ts : List Token) (so_far : List Access) (n fuel : ℕ) → follow ts < 14 → AccessesReads {names = names} {ts = ts} {rest = ts} {so_far = so_far} {all = so_far} no_access n fuel
unfolding deep_expr
accesses_end names ts so_far n fuel stop = ends _ _ fuel so_far ts (not_access ts stop)

pub indexed_by : {names : List (List ℕ)} {ts r1 r2 rest : List Token} {k c : Place} {e : Expr}
    (d0 : Next (Mark mark.BracketOpen) ts k r1) (d1 : ExprAt names r1 e r2) (d2 : Next (Mark mark.BracketClose) r2 c rest) (n : ℕ) → ExprReads d1 n → AccessReads (indexed d0 d1 d2) n
unfolding read_access read_indexed deep_expr
indexed_by d0 d1 d2 n p = if_so _ (next_test d0) (step _ (next_expect d0) (and_last _ p (step _ (next_expect d2) done)))

pub called_by : {names : List (List ℕ)} {ts r1 r2 rest : List Token} {k c : Place} {xs : List Expr}
    (d0 : Next (Mark mark.ParenOpen) ts k r1) (d1 : Args names r1 xs r2) (d2 : Next (Mark mark.ParenClose) r2 c rest) (n : ℕ) → ArgsReads d1 n → AccessReads (called d0 d1 d2) n
unfolding read_access read_called deep_expr
called_by d0 d1 d2 n p = if_not _ (other (Mark mark.BracketOpen) d0 refl) (if_so _ (next_test d0) (step _ (next_expect d0) (and_last _ p (step _ (next_expect d2) done))))

pub member_of_by : (names : List (List ℕ)) {ts r1 rest : List Token} {k : Place} {x : Name} (d0 : Next (Mark mark.Dot) ts k r1) (d1 : Takes (name_of names) r1 x rest) (n : ℕ) → AccessReads (member_of d0 d1) n
unfolding read_access deep_expr
member_of_by names d0 d1 n = if_not _ (other (Mark mark.BracketOpen) d0 refl) (if_not _ (other (Mark mark.ParenOpen) d0 refl) (if_so _ (next_test d0) (step _ (next_expect d0) (step _ (takes_take d1) done))))

pub member_behind_by : (names : List (List ℕ)) {ts r1 rest : List Token} {k : Place} {x : Name} (d0 : Next (Mark mark.Arrow) ts k r1) (d1 : Takes (name_of names) r1 x rest) (n : ℕ) → AccessReads (member_behind d0 d1) n
unfolding read_access deep_expr
member_behind_by names d0 d1 n =
    if_not _ (other (Mark mark.BracketOpen) d0 refl) (if_not _ (other (Mark mark.ParenOpen) d0 refl) (if_not _ (other (Mark mark.Dot) d0 refl) (if_so _ (next_test d0) (step _ (next_expect d0) (step _ (takes_take d1) done)))))

pub step_after_by : (names : List (List ℕ)) {ts rest : List Token} {o : Place × StepOp} (d0 : Takes step_op_of ts o rest) (n : ℕ) → AccessReads {names = names} (step_after d0) n
unfolding read_access deep_expr
step_after_by names d0 n =
    if_not _ (mark_at step_op (is_sign (Mark mark.BracketOpen)) false (λ q m e. (step_mark names q m e).no_bracket) d0)
    (if_not _ (mark_at step_op (is_sign (Mark mark.ParenOpen)) false (λ q m e. (step_mark names q m e).no_paren) d0)
    (if_not _ (mark_at step_op (is_sign (Mark mark.Dot)) false (λ q m e. (step_mark names q m e).no_dot) d0)
    (if_not _ (mark_at step_op (is_sign (Mark mark.Arrow)) false (λ q m e. (step_mark names q m e).no_arrow) d0) (step _ (takes_take d0) done))))

pub some_args_by : {names : List (List ℕ)} {ts r1 rest : List Token} {a : Expr} {xs : List Expr} (d0 : Assign names ts a r1) (d1 : MoreExprs names r1 (a ∷ []) xs rest) (n : ℕ) →
    AssignReads d0 n → MoreExprsReads d1 n (length r1) → ArgsReads (some_args d0 d1) n
unfolding read_args read_some_args read_more_exprs deep_expr
some_args_by d0 d1 n p q = if_so _ (assign_begins d0) (and_so _ p q)

pub no_args_by : (names : List (List ℕ)) (ts : List Token) (n : ℕ) → begins_expr names ts ≡ false → ArgsReads {names = names} {ts = ts} {rest = ts} no_args n
unfolding read_args deep_expr
no_args_by names ts n h = if_not _ h done

-- ---- primary

abbrev is_number : Token → Bool
is_number k = is_some (number_of k)

abbrev is_char : Token → Bool
is_char k = is_some (char_of k)

abbrev is_string : Token → Bool
is_string k = is_some (string_of k)

pub a_name_by : (names : List (List ℕ)) {ts rest : List Token} {x : Name} (d0 : Takes (name_of names) ts x rest) (n : ℕ) → PrimaryReads (a_name d0) n
unfolding read_primary deep_expr
a_name_by names d0 n = if_so _ (name_at names (is_new names) true (λ q x h. rw h refl) d0) (step _ (takes_take d0) done)

pub a_number_by : (names : List (List ℕ)) {ts rest : List Token} {e : Expr} (d0 : Takes number_of ts e rest) (n : ℕ) → PrimaryReads {names = names} (a_number d0) n
unfolding read_primary deep_expr
a_number_by names d0 n = if_not _ (number_at (is_new names) false (λ q v u l. refl) d0) (if_so _ (takes_test d0) (read_by (takes_take d0)))

pub a_char_by : (names : List (List ℕ)) {ts rest : List Token} {e : Expr} (d0 : Takes char_of ts e rest) (n : ℕ) → PrimaryReads {names = names} (a_char d0) n
unfolding read_primary deep_expr
a_char_by names d0 n = if_not _ (char_at (is_new names) false (λ q v. refl) d0) (if_not _ (char_at is_number false (λ q v. refl) d0) (if_so _ (takes_test d0) (read_by (takes_take d0))))

pub a_string_by : (names : List (List ℕ)) {ts rest : List Token} {s : Place × List ℕ} (d0 : Takes string_of ts s rest) (n : ℕ) → PrimaryReads {names = names} (a_string d0) n
unfolding read_primary deep_expr
a_string_by names d0 n =
    if_not _ (string_at (is_new names) false (λ q v. refl) d0) (if_not _ (string_at is_number false (λ q v. refl) d0) (if_not _ (string_at is_char false (λ q v. refl) d0) (if_so _ (takes_test d0) (step _ (takes_take d0) done))))

pub grouped_by : {names : List (List ℕ)} {ts r1 r2 rest : List Token} {k c : Place} {e : Expr}
    (d0 : Next (Mark mark.ParenOpen) ts k r1) (d1 : ExprAt names r1 e r2) (d2 : Next (Mark mark.ParenClose) r2 c rest) (n : ℕ) → ExprReads d1 n → PrimaryReads (grouped d0 d1 d2) n
unfolding read_primary read_grouped deep_expr
grouped_by {names = names} d0 d1 d2 n p =
    if_not _ (sign_at (is_new names) false (λ q. refl) d0) (if_not _ (sign_at is_number false (λ q. refl) d0) (if_not _ (sign_at is_char false (λ q. refl) d0) (if_not _ (sign_at is_string false (λ q. refl) d0)
    (step _ (next_expect d0) (and_last _ p (step _ (next_expect d2) done))))))
