-- The unit that the tokens derive is read.
use Rattle.std.proofs.Common.{List, None, Option, Some, [], arith, false, length, refl, true, ℕ, ◌≡◌, ◌<◌, ◌≤◌, ◌∷◌, ◌++◌}
use Rattle.cm_base.specs.declared.place.Place.{Place}
use Rattle.c_lex.specs.declared.token.Header.{Header}
use Rattle.c_lex.specs.declared.token.Token.{Token}
use Rattle.c_grammar.specs.declared.tokens.Sign.TheVariants.{Mark, Word}
use Rattle.c_ast.specs.declared.expr.Attr.{Attr}
use Rattle.c_ast.specs.declared.expr.Spec.{Spec}
use Rattle.c_ast.specs.declared.expr.Declarator.{Declarator}
use Rattle.c_ast.specs.declared.stmt.Initial.{Initial}
use Rattle.c_ast.specs.declared.stmt.Init.{Init}
use Rattle.c_ast.specs.declared.stmt.Decl.{Decl}
use Rattle.c_ast.specs.declared.stmt.Block.{Block}
use Rattle.c_ast.specs.declared.stmt.Function.{Function}
use Rattle.c_ast.specs.declared.stmt.External.{External}
use Rattle.c_grammar.specs.Tokens.{begins_spec, include_of, is_sign, with_names}
use Rattle.c_grammar.specs.Grammar.{Attrs, DeclaratorAt, Next, SpecsAt, Takes}
use Rattle.c_grammar.specs.Units.{BlockAt, DeclAt, Derives, FunctionAt, InitialAt, MoreInits, UnitAt, a_function, bare_decl, braces, declared, header_names, init_plain, init_value, inits_decl, unit_decl, unit_end, unit_function, unit_include}
use Rattle.c_grammar.specs.Reading.{is_some_token, levels, read_after_attrs, read_after_specs, read_attrs, read_bare, read_declared, read_external, read_function_body, read_include, read_init_end, read_init_value, read_more_inits, read_no_include, read_other_inits, read_part_of_unit, read_unit, repeat}
use Rattle.c_grammar.specs.Nesting.{deep_decl, deep_declarator, deep_function, deep_init, deep_initial, deep_more_inits, deep_specs, deep_unit, earlier}
use Rattle.c_grammar.proofs.Shrinks.{takes_shrinks}
use Rattle.c_grammar.proofs.UnitShrinks.{decl_shrinks, function_shrinks}
use Rattle.grammar_laws.specs.Follow.{follow}
use Rattle.grammar_laws.proofs.StmtComplete.{block_read, initial_read, more_inits_at, more_inits_follow, more_inits_no_attr, more_inits_read}
use Rattle.grammar_laws.proofs.Complete.{declarator_read, specs_read}
use Rattle.grammar_laws.proofs.Answered.{DeclaratorReads, SpecsReads}
use Rattle.grammar_laws.proofs.TypeBegins.{specs_begins}
use Rattle.grammar_laws.proofs.StmtBegins.{block_at, decl_begins, declarator_no_semicolon, spec_no_include}
use Rattle.grammar_laws.proofs.UnitAnswered.{BlockReads, InitialReads, MoreInitsReads}
use Rattle.grammar_laws.proofs.Steps.{Answers, and_last, and_so, done, ends, if_not, if_so, next_expect, next_follow, next_test, other, step, takes_take, takes_test, turns}
use Rattle.grammar_laws.proofs.Attributes.{attrs_follow, attrs_read}
use Rattle.c_lex.specs.declared.token.Keyword.TheVariants as word
use Rattle.c_lex.specs.declared.token.Punct.TheVariants as mark
use Rattle.c_ast.specs.declared.stmt.External.TheVariants as external

earlier_on : (a b c : Option ℕ) → earlier (earlier a b) c ≡ earlier a (earlier b c)
earlier_on None b c = refl
earlier_on (Some x) b c = refl

-- ---- a declaration or a function of file scope

abbrev DeclExternal : {names : List (List ℕ)} {ts rest : List Token} {a : Decl} → DeclAt names ts a rest → ℕ → Type 0
DeclExternal {names = names} {ts = ts} {rest = rest} {a = a} d n = Answers (read_external names (levels names n) ts) (deep_decl d n) (external.Decl a, rest)

abbrev FunctionExternal : {names : List (List ℕ)} {ts rest : List Token} {a : Function} → FunctionAt names ts a rest → ℕ → Type 0
FunctionExternal {names = names} {ts = ts} {rest = rest} {a = a} d n = Answers (read_external names (levels names n) ts) (deep_function d n) (external.Function a, rest)

bare_external : {names : List (List ℕ)} {ts r1 rest : List Token} {s : List Spec} {c : Place} (d0 : SpecsAt names ts s r1) (d1 : Next (Mark mark.Semicolon) r1 c rest) (n : ℕ) → SpecsReads d0 n → DeclExternal (bare_decl d0 d1) n
unfolding read_external read_after_specs read_bare deep_decl
bare_external d0 d1 n p = and_last _ p (if_so _ (next_test d1) (step _ (next_expect d1) done))

value_external : {names : List (List ℕ)} {ts r1 r2 r3 r4 r5 r6 rest : List Token} {s : List Spec} {x : Declarator} {xs : List Attr} {k c : Place} {v : Initial} {all : List Init}
    (d0 : SpecsAt names ts s r1) (e0 : DeclaratorAt names r1 x r2) (e1 : Attrs names r2 [] xs r3) (e2 : Next (Mark mark.Assign) r3 k r4) (e3 : InitialAt names r4 v r5)
    (d2 : MoreInits names r5 (record { declarator = x; attrs = xs; value = Some v } ∷ []) all r6) (d3 : Next (Mark mark.Semicolon) r6 c rest) (n : ℕ) →
    SpecsReads d0 n → DeclaratorReads e0 n → InitialReads e3 n → MoreInitsReads d2 n (length r5) →
    Answers (read_external names (levels names n) ts) (earlier (deep_specs d0 n) (earlier (deep_declarator e0 n) (earlier (deep_initial e3 n) (deep_more_inits d2 n)))) (external.Decl (record { specs = s; inits = all }), rest)
unfolding read_external read_after_specs read_declared read_after_attrs read_other_inits read_init_end read_init_value read_attrs read_more_inits
value_external d0 e0 e1 e2 e3 d2 d3 n p q r s =
    and_so _ p (if_not _ (declarator_no_semicolon e0) (and_so _ q (step _ (attrs_read e1 (other (Word word.Attribute) e2 refl) _ (omega arith)).holds (if_not _ (other (Mark mark.BraceOpen) e2 refl)
    (and_so _ (if_so _ (next_test e2) (step _ (next_expect e2) (and_last _ r done))) (and_last _ s (step _ (next_expect d3) done)))))))

plain_external : {names : List (List ℕ)} {ts r1 r2 r3 r4 rest : List Token} {s : List Spec} {x : Declarator} {xs : List Attr} {c : Place} {all : List Init}
    (d0 : SpecsAt names ts s r1) (e0 : DeclaratorAt names r1 x r2) (e1 : Attrs names r2 [] xs r3)
    (d2 : MoreInits names r3 (record { declarator = x; attrs = xs; value = None } ∷ []) all r4) (d3 : Next (Mark mark.Semicolon) r4 c rest) (n : ℕ) →
    SpecsReads d0 n → DeclaratorReads e0 n → MoreInitsReads d2 n (length r3) → DeclExternal (inits_decl d0 (init_plain e0 e1) d2 d3) n
unfolding read_external read_after_specs read_declared read_after_attrs read_other_inits read_init_end read_attrs read_more_inits deep_decl deep_init
plain_external d0 e0 e1 d2 d3 n p q r =
    and_so _ p (if_not _ (declarator_no_semicolon e0) (and_so _ q (step _ (attrs_read e1 (more_inits_no_attr d2 d3) _ (omega arith)).holds (if_not _ (more_inits_at (is_sign (Mark mark.BraceOpen)) false (λ q. refl) (λ q. refl) d2 d3)
    (and_so {o1 = None} _ (if_not _ (more_inits_at (is_sign (Mark mark.Assign)) false (λ q. refl) (λ q. refl) d2 d3) done) (and_last _ r (step _ (next_expect d3) done)))))))

function_external : {names : List (List ℕ)} {ts r1 r2 r3 rest : List Token} {s : List Spec} {x : Declarator} {xs : List Attr} {b : Block}
    (d0 : SpecsAt names ts s r1) (d1 : DeclaratorAt names r1 x r2) (d2 : Attrs names r2 [] xs r3) (d3 : BlockAt names r3 b rest) (n : ℕ) →
    SpecsReads d0 n → DeclaratorReads d1 n → BlockReads d3 n → FunctionExternal (a_function d0 d1 d2 d3) n
unfolding read_external read_after_specs read_declared read_after_attrs read_function_body read_attrs deep_function
function_external d0 d1 d2 d3 n p q r =
    and_so _ p (if_not _ (declarator_no_semicolon d1) (and_so _ q (step _ (attrs_read d2 (block_at (is_sign (Word word.Attribute)) false (λ q. refl) d3) _ (omega arith)).holds
    (if_so _ (block_at (is_sign (Mark mark.BraceOpen)) true (λ q. refl) d3) (and_last _ r done)))))

decl_external : {names : List (List ℕ)} {ts rest : List Token} {a : Decl} (d : DeclAt names ts a rest) (n : ℕ) → DeclExternal d n
unfolding deep_decl deep_init
decl_external (bare_decl d0 d1) n = bare_external d0 d1 n (specs_read d0 n)
decl_external (inits_decl d0 (init_value e0 e1 e2 e3) d2 d3) n =
    rw (earlier_on (deep_declarator e0 n) (deep_initial e3 n) (deep_more_inits d2 n))
    (value_external d0 e0 e1 e2 e3 d2 d3 n (specs_read d0 n) (declarator_read e0 n (attrs_follow e1 (omega (arith, next_follow e2)))) (initial_read e3 n (more_inits_follow d2 d3)) (more_inits_read d2 n d3 _ (omega arith)))
decl_external (inits_decl d0 (init_plain e0 e1) d2 d3) n =
    plain_external d0 e0 e1 d2 d3 n (specs_read d0 n) (declarator_read e0 n (attrs_follow e1 (omega (arith, more_inits_follow d2 d3)))) (more_inits_read d2 n d3 _ (omega arith))

block_follow : {names : List (List ℕ)} {ts rest : List Token} {a : Block} → BlockAt names ts a rest → follow ts < 14
block_follow (braces d0 d1 d2) = omega (arith, next_follow d0)

pub function_read : {names : List (List ℕ)} {ts rest : List Token} {a : Function} (d : FunctionAt names ts a rest) (n : ℕ) → FunctionExternal d n
function_read (a_function d0 d1 d2 d3) n = function_external d0 d1 d2 d3 n (specs_read d0 n) (declarator_read d1 n (attrs_follow d2 (block_follow d3))) (block_read d3 n)

-- ---- units

-- what a unit answers, whatever typedef names stand at its end
pub record UnitReads {names : List (List ℕ)} {ts : List Token} {so_far all : List External} (d : UnitAt names ts so_far all) (n : ℕ) : Type 0 where
  pub last : List (List ℕ)
  pub reads : (fuel : ℕ) → length ts ≤ fuel → Answers (repeat is_some_token (read_part_of_unit n) fuel (names, so_far) ts) (deep_unit d n) ((last, all), [])

-- a part takes a token
some_token : (ts r : List Token) → length r < length ts → is_some_token ts ≡ true
some_token [] r lt = absurd (omega arith)
some_token (k ∷ ts) r lt = refl

include_part : {ts rest : List Token} {h : Place × Header} (d0 : Takes include_of ts h rest) (n : ℕ) (names : List (List ℕ)) (so_far : List External) →
    Answers (read_part_of_unit n (names, so_far) ts) None ((with_names names (header_names h.1), so_far ++ external.Include h.0 h.1 ∷ []), rest)
unfolding read_part_of_unit read_include
include_part d0 n names so_far = if_so _ (takes_test d0) (step _ (takes_take d0) done)

decl_part_of : {names : List (List ℕ)} {ts rest : List Token} {a : Decl} (d : DeclAt names ts a rest) (n : ℕ) (so_far : List External) →
    Answers (read_part_of_unit n (names, so_far) ts) (deep_decl d n) ((with_names names (declared a), so_far ++ external.Decl a ∷ []), rest)
unfolding read_part_of_unit read_no_include
decl_part_of {names = names} {ts = ts} d n so_far = if_not _ (spec_no_include names ts (decl_begins d)) (and_last _ (decl_external d n) done)

function_begins : {names : List (List ℕ)} {ts rest : List Token} {a : Function} → FunctionAt names ts a rest → begins_spec names ts ≡ true
function_begins (a_function d0 d1 d2 d3) = specs_begins d0

function_part : {names : List (List ℕ)} {ts rest : List Token} {a : Function} (d : FunctionAt names ts a rest) (n : ℕ) (so_far : List External) →
    Answers (read_part_of_unit n (names, so_far) ts) (deep_function d n) ((names, so_far ++ external.Function a ∷ []), rest)
unfolding read_part_of_unit read_no_include
function_part {names = names} {ts = ts} d n so_far = if_not _ (spec_no_include names ts (function_begins d)) (and_last _ (function_read d n) done)

pub unit_reads : {names : List (List ℕ)} {ts : List Token} {so_far all : List External} (d : UnitAt names ts so_far all) (n : ℕ) → UnitReads d n
unfolding deep_unit
unit_reads {names = names} {so_far = so_far} unit_end n = record { last = names; reads = λ fuel fits. ends _ _ fuel (names, so_far) [] refl }
unit_reads {names = names} {ts = ts} {so_far = so_far} (unit_include {rest = rest} d m) n =
    let h = unit_reads m n in
    record { last = h.last; reads = λ fuel fits. turns {o1 = None} {o2 = deep_unit m n} _ _ fuel (some_token ts rest (omega (arith, takes_shrinks d))) (include_part d n names so_far) (omega (arith, takes_shrinks d)) fits (λ f k. h.reads f k) }
unit_reads {ts = ts} {so_far = so_far} (unit_decl {rest = rest} d m) n =
    let h = unit_reads m n in
    record { last = h.last; reads = λ fuel fits. turns {o2 = deep_unit m n} _ _ fuel (some_token ts rest (decl_shrinks d)) (decl_part_of d n so_far) (decl_shrinks d) fits (λ f k. h.reads f k) }
unit_reads {ts = ts} {so_far = so_far} (unit_function {rest = rest} d m) n =
    let h = unit_reads m n in
    record { last = h.last; reads = λ fuel fits. turns {o2 = deep_unit m n} _ _ fuel (some_token ts rest (function_shrinks d)) (function_part d n so_far) (function_shrinks d) fits (λ f k. h.reads f k) }

-- what the tokens derive is read, or refused at its first token that is nested too deeply
pub unit_read : (n : ℕ) (ts : List Token) (all : List External) (d : Derives ts all) → (last : List (List ℕ)) × Answers (read_unit n ts) (deep_unit d n) ((last, all), [])
unfolding read_unit
unit_read n ts all d = let h = unit_reads d n in (h.last, h.reads (length ts) (omega arith))
