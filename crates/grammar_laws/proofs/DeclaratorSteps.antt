-- What a reader of declarators answers, from what the readers that it calls answer: one law for each alternative.
use Rattle.std.proofs.Common.{Bool, List, None, Ok, Option, Some, [], ap, arith, false, length, refl, subst, suc, sym, true, ℕ, ◌≡◌, ◌<◌, ◌≤◌, ◌∷◌, ◌++◌, ◌&&◌, if◌then◌else◌}
use Rattle.cm_base.specs.declared.place.Place.{Place}
use Rattle.c_lex.specs.declared.token.Token.{Token}
use Rattle.c_grammar.specs.declared.tokens.Sign.TheVariants.{Mark, Word}
use Rattle.c_ast.specs.declared.expr.Name.{Name}
use Rattle.c_ast.specs.declared.expr.Star.{Star}
use Rattle.c_ast.specs.declared.expr.Expr.{Expr}
use Rattle.c_ast.specs.declared.expr.Spec.{Spec}
use Rattle.c_ast.specs.declared.expr.Declarator.{Declarator}
use Rattle.c_ast.specs.declared.expr.Suffix.{Suffix}
use Rattle.c_ast.specs.declared.expr.Params.{Params}
use Rattle.c_ast.specs.declared.expr.Param.{Param}
use Rattle.c_ast.specs.declared.expr.Abstract.{Abstract}
use Rattle.c_grammar.specs.Tokens.{at, begins_abstract, begins_expr, begins_star, group_token, is, is_sign, name_of, next_is, next_is_name, opens_group, spec_token, star_token, void_params}
use Rattle.c_grammar.specs.Grammar.{AbstractAt, Cond, DeclaratorAt, MoreParams, Next, OptCond, ParamAt, ParamsAt, SpecsAt, Stars, SuffixAt, Suffixes, Takes, a_cond, array_suffix, group_abstract, group_declarator, named_param, next_param, next_suffix, no_cond, no_param, no_params, no_suffix, params_suffix, plain_abstract, plain_declarator, some_params, token, unnamed_param, void_only}
use Rattle.c_grammar.specs.Reading.{levels, no_either, no_nameless, opens_name, read_after_stars, read_array_suffix, read_bare_either, read_declarator, read_either, read_group_abstract, read_group_declarator, read_group_either, read_more_params, read_named_either, read_nameless, read_opt_cond, read_param, read_param_item, read_params, read_params_suffix, read_plain_declarator, read_plain_either, read_some_params, read_suffix, read_suffix_item, read_suffixes}
use Rattle.c_grammar.specs.Nesting.{deep_expr}
use Rattle.c_grammar.proofs.Shrinks.{next_shrinks, param_shrinks, suffix_shrinks}
use Rattle.grammar_laws.specs.Follow.{follow}
use Rattle.grammar_laws.proofs.First.{after_sign, is_new, name_at}
use Rattle.grammar_laws.proofs.Answered.{AbstractReads, CondReads, DeclaratorReads, MoreParamsReads, NamedReads, OptCondReads, ParamReads, ParamsReads, SpecsReads, SuffixReads, SuffixesReads, UnnamedReads}
use Rattle.grammar_laws.proofs.TypeBegins.{Ended, abstract_none, declarator_begins, declarator_either, either_by_group, ended_at, group_begins, group_no_name, no_either_by, no_suffix_next, param_begins, params_no_name, suffix_begins, suffixes_at}
use Rattle.grammar_laws.proofs.Steps.{Answers, and_last, and_so, done, ends, if_not, if_so, next_expect, next_test, other, sign_at, step, takes_take, too_deep, turns}
use Rattle.grammar_laws.proofs.ExprBegins.{cond_begins}
use Rattle.grammar_laws.proofs.Attributes.{stars_read}
use Rattle.c_lex.specs.declared.token.Keyword.TheVariants as word
use Rattle.c_lex.specs.declared.token.Punct.TheVariants as mark
use Rattle.c_grammar.specs.declared.either.Either.TheVariants as either

-- ---- declarators

pub declarator_deep : {names : List (List ℕ)} {ts rest : List Token} {a : Declarator} (d : DeclaratorAt names ts a rest) → DeclaratorReads d 0
unfolding levels deep_expr
declarator_deep d = too_deep _ (declarator_begins d)

pub plain_declarator_by : {names : List (List ℕ)} {ts r1 r2 rest : List Token} {s : List Star} {x : Name} {xs : List Suffix}
    (d0 : Stars names ts s r1) (d1 : Takes (name_of names) r1 x r2) (d2 : Suffixes names r2 [] xs rest) (n : ℕ) → SuffixesReads d2 n (length r2) → DeclaratorReads (plain_declarator d0 d1 d2) (suc n)
unfolding levels read_declarator read_plain_declarator read_suffixes deep_expr
plain_declarator_by {names = names} d0 d1 d2 n p =
    step _ (stars_read d0 (name_at names star_token false (λ q x h. refl) d1)) (if_so _ (name_at names (is_new names) true (λ q x h. rw h refl) d1) (step _ (takes_take d1) (and_last _ p done)))

pub group_declarator_by : {names : List (List ℕ)} {ts r1 r2 r3 r4 rest : List Token} {s : List Star} {p c : Place} {x : Declarator} {xs : List Suffix}
    (d0 : Stars names ts s r1) (d1 : Next (Mark mark.ParenOpen) r1 p r2) (d2 : DeclaratorAt names r2 x r3) (d3 : Next (Mark mark.ParenClose) r3 c r4) (d4 : Suffixes names r4 [] xs rest) (n : ℕ) →
    DeclaratorReads d2 n → SuffixesReads d4 n (length r4) → DeclaratorReads (group_declarator d0 d1 d2 d3 d4) (suc n)
unfolding levels read_declarator read_group_declarator read_suffixes deep_expr
group_declarator_by {names = names} d0 d1 d2 d3 d4 n p q =
    step _ (stars_read d0 (sign_at star_token false (λ q. refl) d1)) (if_not _ (sign_at (is_new names) false (λ q. refl) d1) (step _ (next_expect d1) (and_so _ p (step _ (next_expect d3) (and_last _ q done)))))

-- ---- suffixes

pub suffixes_turn : {names : List (List ℕ)} {ts r1 rest : List Token} {x : Suffix} (so_far : List Suffix) {all : List Suffix} (d0 : SuffixAt names ts x r1) (m : Suffixes names r1 (so_far ++ x ∷ []) all rest) (n fuel : ℕ) →
    SuffixReads d0 n → length ts ≤ fuel → ((f : ℕ) → length r1 ≤ f → SuffixesReads m n f) → SuffixesReads (next_suffix d0 m) n fuel
unfolding read_suffix_item deep_expr
suffixes_turn so_far d0 m n fuel p fits rec = turns _ _ fuel (suffix_begins d0) (and_last _ p done) (suffix_shrinks d0) fits rec

pub suffixes_end : (names : List (List ℕ)) (ts : List Token) (so_far : List Suffix) (n fuel : ℕ) → follow ts < 14 → SuffixesReads {names = names} {ts = ts} {rest = ts} {so_far = so_far} {all = so_far} no_suffix n fuel
unfolding deep_expr
suffixes_end names ts so_far n fuel stop = ends _ _ fuel so_far ts (no_suffix_next ts stop)

pub array_suffix_by : {names : List (List ℕ)} {ts r1 r2 rest : List Token} {p c : Place} {e : Option Expr}
    (d0 : Next (Mark mark.BracketOpen) ts p r1) (d1 : OptCond names r1 e r2) (d2 : Next (Mark mark.BracketClose) r2 c rest) (n : ℕ) → OptCondReads d1 n → SuffixReads (array_suffix d0 d1 d2) n
unfolding read_suffix read_array_suffix deep_expr
array_suffix_by d0 d1 d2 n p = if_so _ (next_test d0) (step _ (next_expect d0) (and_last _ p (step _ (next_expect d2) done)))

pub params_suffix_by : {names : List (List ℕ)} {ts r1 r2 rest : List Token} {p c : Place} {xs : Params}
    (d0 : Next (Mark mark.ParenOpen) ts p r1) (d1 : ParamsAt names r1 xs r2) (d2 : Next (Mark mark.ParenClose) r2 c rest) (n : ℕ) → ParamsReads d1 n → SuffixReads (params_suffix d0 d1 d2) n
unfolding read_suffix read_params_suffix deep_expr
params_suffix_by d0 d1 d2 n p = if_not _ (other (Mark mark.BracketOpen) d0 refl) (step _ (next_expect d0) (and_last _ p (step _ (next_expect d2) done)))

pub a_cond_by : {names : List (List ℕ)} {ts rest : List Token} {e : Expr} (d0 : Cond names ts e rest) (n : ℕ) → CondReads d0 n → OptCondReads (a_cond d0) n
unfolding read_opt_cond deep_expr
a_cond_by d0 n p = if_so _ (cond_begins d0) (and_last _ p done)

pub no_cond_by : (names : List (List ℕ)) (ts : List Token) (n : ℕ) → begins_expr names ts ≡ false → OptCondReads {names = names} {ts = ts} {rest = ts} no_cond n
unfolding read_opt_cond deep_expr
no_cond_by names ts n h = if_not _ h done

-- ---- parameters

void_here : {ts r1 r : List Token} {p c : Place} → Next (Word word.Void) ts p r1 → Next (Mark mark.ParenClose) r1 c r → void_params ts ≡ true
void_here d c = rw (next_test d, after_sign (next_is (Mark mark.ParenClose)) true d (next_test c)) refl

void_not : {ts r : List Token} {c : Place} → Next (Mark mark.ParenClose) ts c r → void_params ts ≡ false
void_not c = rw (other (Word word.Void) c refl) refl

pub void_only_by : (names : List (List ℕ)) {ts rest r : List Token} {p c : Place} (d0 : Next (Word word.Void) ts p rest) (n : ℕ) → Next (Mark mark.ParenClose) rest c r → ParamsReads {names = names} (void_only d0) n
unfolding read_params deep_expr
void_only_by names d0 n c = if_so _ (void_here d0 c) (step _ (next_expect d0) done)

pub some_params_by : {names : List (List ℕ)} {ts r1 rest : List Token} {x : Param} {xs : List Param} (h : void_params ts ≡ false) (d0 : ParamAt names ts x r1) (d1 : MoreParams names r1 (x ∷ []) xs rest) (n : ℕ) →
    ParamReads d0 n → MoreParamsReads d1 n (length r1) → ParamsReads (some_params h d0 d1) n
unfolding read_params read_some_params read_more_params deep_expr
some_params_by h d0 d1 n p q = if_not _ h (if_so _ (param_begins d0) (and_so _ p (and_last _ q done)))

pub no_params_by : (names : List (List ℕ)) {ts r : List Token} {c : Place} (n : ℕ) → Next (Mark mark.ParenClose) ts c r → ParamsReads {names = names} {ts = ts} {rest = ts} no_params n
unfolding read_params deep_expr
no_params_by names n c = if_not _ (void_not c) (if_not _ (sign_at (spec_token names) false (λ q. refl) c) done)

pub more_params_turn : {names : List (List ℕ)} {ts r1 r2 rest : List Token} {k : Place} {x : Param} (so_far : List Param) {all : List Param}
    (d0 : Next (Mark mark.Comma) ts k r1) (d1 : ParamAt names r1 x r2) (m : MoreParams names r2 (so_far ++ x ∷ []) all rest) (n fuel : ℕ) →
    ParamReads d1 n → length ts ≤ fuel → ((f : ℕ) → length r2 ≤ f → MoreParamsReads m n f) → MoreParamsReads (next_param d0 d1 m) n fuel
unfolding read_param_item deep_expr
more_params_turn so_far d0 d1 m n fuel p fits rec = turns _ _ fuel (next_test d0) (step _ (next_expect d0) (and_last _ p done)) (omega (arith, next_shrinks d0, param_shrinks d1)) fits rec

pub more_params_end : (names : List (List ℕ)) (ts : List Token) (so_far : List Param) (n fuel : ℕ) → next_is (Mark mark.Comma) ts ≡ false →
    MoreParamsReads {names = names} {ts = ts} {rest = ts} {so_far = so_far} {all = so_far} no_param n fuel
unfolding deep_expr
more_params_end names ts so_far n fuel h = ends _ _ fuel so_far ts h

pub named_param_by : {names : List (List ℕ)} {ts r1 rest : List Token} {s : List Spec} {x : Declarator} (d0 : SpecsAt names ts s r1) (d1 : DeclaratorAt names r1 x rest) (n : ℕ) →
    SpecsReads d0 n → NamedReads d1 n → ParamReads (named_param d0 d1) n
unfolding read_param deep_expr
named_param_by d0 d1 n p q = and_so _ p (and_last _ q done)

pub unnamed_param_by : {names : List (List ℕ)} {ts r1 rest : List Token} {s : List Spec} {x : Abstract} (d0 : SpecsAt names ts s r1) (d1 : AbstractAt names r1 x rest) (n : ℕ) →
    SpecsReads d0 n → UnnamedReads d1 n → ParamReads (unnamed_param d0 d1) n
unfolding read_param deep_expr
unnamed_param_by d0 d1 n p q = and_so _ p (and_last _ q done)

-- ---- abstract declarators

pub abstract_deep : {names : List (List ℕ)} {ts rest : List Token} {a : Abstract} (d : AbstractAt names ts a rest) → AbstractReads d 0
unfolding levels deep_expr
abstract_deep {ts = ts} {rest = rest} {a = a} d = go (begins_abstract ts) refl
  where
    go : (b : Bool) → begins_abstract ts ≡ b → Answers (no_nameless ts) (if begins_abstract ts then Some (length ts) else None) (a, rest)
    go true h = record { holds = rw h refl }
    go false h = record { holds = rw h (ap (λ y. Ok y) (sym (abstract_none d h))) }

pub group_abstract_by : {names : List (List ℕ)} {ts r1 r2 r3 r4 rest : List Token} {s : List Star} {p c : Place} {x : Abstract} {xs : List Suffix}
    (d0 : Stars names ts s r1) (h : opens_group r1 ≡ true) (d1 : Next (Mark mark.ParenOpen) r1 p r2) (d2 : AbstractAt names r2 x r3) (d3 : Next (Mark mark.ParenClose) r3 c r4) (d4 : Suffixes names r4 [] xs rest) (n : ℕ) →
    AbstractReads d2 n → SuffixesReads d4 n (length r4) → AbstractReads (group_abstract d0 h d1 d2 d3 d4) (suc n)
unfolding levels read_nameless read_group_abstract read_suffixes deep_expr
group_abstract_by d0 h d1 d2 d3 d4 n p q =
    step _ (stars_read d0 (sign_at star_token false (λ q. refl) d1)) (if_so _ h (step _ (next_expect d1) (and_so _ p (step _ (next_expect d3) (and_last _ q done)))))

-- what follows the stars of an abstract declarator goes on none of them
pub no_star_after : {names : List (List ℕ)} {ts rest : List Token} {xs : List Suffix} → Suffixes names ts [] xs rest → Ended rest → begins_star ts ≡ false
no_star_after d e = suffixes_at star_token false (λ q. refl) (λ q. refl) d (ended_at star_token false (λ q. refl) (λ q. refl) e)

pub plain_abstract_by : {names : List (List ℕ)} {ts r1 rest : List Token} {s : List Star} {xs : List Suffix} (d0 : Stars names ts s r1) (h : opens_group r1 ≡ false) (d1 : Suffixes names r1 [] xs rest) (n : ℕ) → Ended rest →
    SuffixesReads d1 n (length r1) → AbstractReads (plain_abstract d0 h d1) (suc n)
unfolding levels read_nameless read_suffixes deep_expr
plain_abstract_by d0 h d1 n e p = step _ (stars_read d0 (no_star_after d1 e)) (if_not _ h (and_last _ p done))

-- ---- a parameter's declarator, with its name or without one

pub named_deep : {names : List (List ℕ)} {ts rest : List Token} {a : Declarator} (d : DeclaratorAt names ts a rest) → NamedReads d 0
unfolding levels deep_expr
named_deep d = record { holds = rw (declarator_either d) refl }

pub plain_named_by : {names : List (List ℕ)} {ts r1 r2 rest : List Token} {s : List Star} {x : Name} {xs : List Suffix}
    (d0 : Stars names ts s r1) (d1 : Takes (name_of names) r1 x r2) (d2 : Suffixes names r2 [] xs rest) (n : ℕ) → SuffixesReads d2 n (length r2) → NamedReads (plain_declarator d0 d1 d2) (suc n)
unfolding levels read_either read_after_stars read_plain_either read_suffixes deep_expr
plain_named_by {names = names} d0 d1 d2 n p =
    step _ (stars_read d0 (name_at names star_token false (λ q x h. refl) d1)) (if_so _ (name_at names (is_new names) true (λ q x h. rw h refl) d1) (step _ (takes_take d1) (and_last _ p done)))

name_opens : (names : List (List ℕ)) (b : Bool) {ts r : List Token} {p : Place} → Next (Mark mark.ParenOpen) ts p r → next_is_name names r ≡ b → opens_name names ts ≡ b
name_opens names b d h = rw (next_test d, after_sign (next_is_name names) b d h) refl

group_opens : {ts r : List Token} {p : Place} → Next (Mark mark.ParenOpen) ts p r → at group_token r ≡ true → opens_group ts ≡ true
group_opens d h = rw (next_test d, after_sign (at group_token) true d h) refl

and_right : (a b : Bool) → (a && b) ≡ true → b ≡ true
and_right true b h = h
and_right false b h = absurd cc

group_inside : {ts r : List Token} {p : Place} → Next (Mark mark.ParenOpen) ts p r → opens_group ts ≡ true → at group_token r ≡ true
group_inside (token {k = k} e) h = and_right (is k.kind (Mark mark.ParenOpen)) _ h

pub group_named_by : {names : List (List ℕ)} {ts r1 r2 r3 r4 rest : List Token} {s : List Star} {p c : Place} {x : Declarator} {xs : List Suffix}
    (d0 : Stars names ts s r1) (d1 : Next (Mark mark.ParenOpen) r1 p r2) (d2 : DeclaratorAt names r2 x r3) (d3 : Next (Mark mark.ParenClose) r3 c r4) (d4 : Suffixes names r4 [] xs rest) (n : ℕ) →
    DeclaratorReads d2 n → NamedReads d2 n → SuffixesReads d4 n (length r4) → (b : Bool) → next_is_name names r2 ≡ b → NamedReads (group_declarator d0 d1 d2 d3 d4) (suc n)
unfolding levels read_either read_after_stars read_named_either read_group_either read_suffixes deep_expr
group_named_by {names = names} d0 d1 d2 d3 d4 n p p2 q true h =
    step _ (stars_read d0 (sign_at star_token false (λ q. refl) d1)) (if_not _ (sign_at (is_new names) false (λ q. refl) d1)
    (if_so _ (name_opens names true d1 h) (step _ (next_expect d1) (and_so _ p (step _ (next_expect d3) (and_last _ q done))))))
group_named_by {names = names} {r2 = r2} d0 d1 d2 d3 d4 n p p2 q false h =
    step _ (stars_read d0 (sign_at star_token false (λ q. refl) d1)) (if_not _ (sign_at (is_new names) false (λ q. refl) d1)
    (if_not _ (name_opens names false d1 h) (if_so _ (group_opens d1 (group_begins names r2 (declarator_either d2) h)) (step _ (next_expect d1) (and_so _ p2 (step _ (next_expect d3) (and_last _ q done)))))))

pub unnamed_deep : {names : List (List ℕ)} {ts rest : List Token} {a : Abstract} (d : AbstractAt names ts a rest) → Ended rest → UnnamedReads d 0
unfolding levels deep_expr
unnamed_deep {names = names} {ts = ts} {rest = rest} {a = a} d e = go (begins_abstract ts) refl
  where
    go : (b : Bool) → begins_abstract ts ≡ b → Answers (no_either names ts) (if begins_abstract ts then Some (length ts) else None) (either.Unnamed a, rest)
    go true h = record { holds = rw (either_by_group names ts h, h) refl }
    go false h =
        let same = abstract_none d h in
        let fresh : next_is_name names ts ≡ false = subst (λ r. next_is_name names r ≡ false) (ap (λ y. y.1) same) (ended_at (is_new names) false (λ q. refl) (λ q. refl) e) in
        record { holds = rw (no_either_by names ts h fresh, h) (ap (λ y. Ok (either.Unnamed y.0, y.1)) (sym same)) }

pub group_unnamed_by : {names : List (List ℕ)} {ts r1 r2 r3 r4 rest : List Token} {s : List Star} {p c : Place} {x : Abstract} {xs : List Suffix}
    (d0 : Stars names ts s r1) (h : opens_group r1 ≡ true) (d1 : Next (Mark mark.ParenOpen) r1 p r2) (d2 : AbstractAt names r2 x r3) (d3 : Next (Mark mark.ParenClose) r3 c r4) (d4 : Suffixes names r4 [] xs rest) (n : ℕ) →
    UnnamedReads d2 n → SuffixesReads d4 n (length r4) → UnnamedReads (group_abstract d0 h d1 d2 d3 d4) (suc n)
unfolding levels read_either read_after_stars read_group_either read_suffixes deep_expr
group_unnamed_by {names = names} {r2 = r2} d0 h d1 d2 d3 d4 n p q =
    step _ (stars_read d0 (sign_at star_token false (λ q. refl) d1)) (if_not _ (sign_at (is_new names) false (λ q. refl) d1)
    (if_not _ (name_opens names false d1 (group_no_name names r2 (group_inside d1 h))) (if_so _ h (step _ (next_expect d1) (and_so _ p (step _ (next_expect d3) (and_last _ q done)))))))

-- a "(" that begins a suffix is followed by no name
no_name_after : {names : List (List ℕ)} {ts rest : List Token} {xs : List Suffix} → Suffixes names ts [] xs rest → Ended rest → opens_name names ts ≡ false
no_name_after {names = names} no_suffix e = rw (ended_at (is_sign (Mark mark.ParenOpen)) false (λ q. refl) (λ q. refl) e) refl
no_name_after {names = names} (next_suffix (array_suffix d0 d1 d2) m) e = rw (other (Mark mark.ParenOpen) d0 refl) refl
no_name_after {names = names} (next_suffix (params_suffix d0 d1 d2) m) e = name_opens names false d0 (params_no_name d1 d2)

pub plain_unnamed_by : {names : List (List ℕ)} {ts r1 rest : List Token} {s : List Star} {xs : List Suffix} (d0 : Stars names ts s r1) (h : opens_group r1 ≡ false) (d1 : Suffixes names r1 [] xs rest) (n : ℕ) → Ended rest →
    SuffixesReads d1 n (length r1) → UnnamedReads (plain_abstract d0 h d1) (suc n)
unfolding levels read_either read_after_stars read_bare_either read_suffixes deep_expr
plain_unnamed_by {names = names} d0 h d1 n e p =
    step _ (stars_read d0 (no_star_after d1 e)) (if_not _ (suffixes_at (is_new names) false (λ q. refl) (λ q. refl) d1 (ended_at (is_new names) false (λ q. refl) (λ q. refl) e)) (if_not _ (no_name_after d1 e) (if_not _ h (and_last _ p done))))
