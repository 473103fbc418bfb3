-- What a reader of specifiers answers, from what the readers that it calls answer: one law for each alternative.
use Rattle.std.proofs.Common.{Bool, List, [], arith, false, length, refl, suc, true, ℕ, ◌≡◌, ◌<◌, ◌≤◌, ◌∷◌, ◌++◌}
use Rattle.std.specs.Option.{is_some}
use Rattle.cm_base.specs.declared.place.Place.{Place}
use Rattle.c_lex.specs.declared.token.Token.{Token}
use Rattle.c_grammar.specs.declared.tokens.Sign.TheVariants.{Mark, Word}
use Rattle.c_ast.specs.declared.expr.Name.{Name}
use Rattle.c_ast.specs.declared.expr.SpecWord.{SpecWord}
use Rattle.c_ast.specs.declared.expr.Attr.{Attr}
use Rattle.c_ast.specs.declared.expr.Expr.{Expr}
use Rattle.c_ast.specs.declared.expr.Spec.{Spec}
use Rattle.c_ast.specs.declared.expr.StructSpec.{StructSpec}
use Rattle.c_ast.specs.declared.expr.Member.{Member}
use Rattle.c_ast.specs.declared.expr.EnumSpec.{EnumSpec}
use Rattle.c_ast.specs.declared.expr.Enumerator.{Enumerator}
use Rattle.c_ast.specs.declared.expr.Declarator.{Declarator}
use Rattle.c_grammar.specs.Tokens.{begins_spec, comma_more, is_sign, name_of, next_is, spec_word_of, type_of}
use Rattle.c_grammar.specs.Grammar.{AttrAt, Cond, DeclaratorAt, EnumAt, EnumrAt, Enumrs, MemberAt, Members, MoreDeclarators, MoreEnumrs, MoreMembers, MoreSpecs, Next, OptComma, SpecAt, SpecsAt, StructAt, Takes, a_member, a_struct, a_type, a_word, an_attr, an_enum, braced_enumrs, braced_members, enum_body, enum_plain, enum_tag, enumr_plain, enumr_value, next_declarator, next_enumr, next_member, next_spec, no_declarator, no_enumr, no_member, no_spec, some_specs, struct_body, struct_plain, struct_tag}
use Rattle.c_grammar.specs.Reading.{levels, read_declarator_item, read_enum_named, read_enumr, read_enumr_item, read_enumr_value, read_enumrs, read_enums, read_member, read_member_item, read_members, read_more_declarators, read_more_enumrs, read_more_members, read_more_specs, read_spec, read_spec_item, read_specs, read_struct_named, read_structs}
use Rattle.c_grammar.specs.Nesting.{deep_expr}
use Rattle.c_grammar.proofs.Shrinks.{declarator_shrinks, enumr_shrinks, member_shrinks, next_shrinks, spec_shrinks}
use Rattle.grammar_laws.specs.Follow.{follow}
use Rattle.grammar_laws.proofs.First.{is_new, name_at, type_at}
use Rattle.grammar_laws.proofs.Answered.{CondReads, DeclaratorReads, EnumReads, EnumrReads, EnumrsReads, MemberReads, MembersReads, MoreDeclaratorsReads, MoreEnumrsReads, MoreMembersReads, MoreSpecsReads, SpecReads, SpecsReads, StructReads}
use Rattle.grammar_laws.proofs.TypeBegins.{enum_at, enumr_no_close, enumrs_at, member_begins, members_at, spec_begins, struct_at}
use Rattle.grammar_laws.proofs.Steps.{and_last, and_so, done, ends, if_not, if_so, next_expect, next_test, not_next, other, step, takes_take, takes_test, too_deep, turns}
use Rattle.grammar_laws.proofs.Attributes.{attr_at, attr_read, one_more, opt_comma_read}
use Rattle.c_lex.specs.declared.token.Keyword.TheVariants as word
use Rattle.c_lex.specs.declared.token.Punct.TheVariants as mark

-- ---- specifiers

pub specs_by : {names : List (List ℕ)} {ts r1 rest : List Token} {s : Spec} {xs : List Spec} (d0 : SpecAt names ts s r1) (d1 : MoreSpecs names r1 (s ∷ []) xs rest) (n : ℕ) →
    SpecReads d0 n → MoreSpecsReads d1 n (length r1) → SpecsReads (some_specs d0 d1) n
unfolding read_specs read_more_specs deep_expr
specs_by d0 d1 n p q = and_so _ p q

pub more_specs_turn : {names : List (List ℕ)} {ts r1 rest : List Token} {s : Spec} (so_far : List Spec) {all : List Spec} (d0 : SpecAt names ts s r1) (m : MoreSpecs names r1 (so_far ++ s ∷ []) all rest) (n fuel : ℕ) →
    SpecReads d0 n → length ts ≤ fuel → ((f : ℕ) → length r1 ≤ f → MoreSpecsReads m n f) → MoreSpecsReads (next_spec d0 m) n fuel
unfolding read_spec_item deep_expr
more_specs_turn so_far d0 m n fuel p fits rec = turns _ _ fuel (spec_begins d0) (and_last _ p done) (spec_shrinks d0) fits rec

pub more_specs_end : (names : List (List ℕ)) (ts : List Token) (so_far : List Spec) (h : begins_spec names ts ≡ false) (n fuel : ℕ) →
    MoreSpecsReads {names = names} {ts = ts} {rest = ts} {so_far = so_far} {all = so_far} (no_spec h) n fuel
unfolding deep_expr
more_specs_end names ts so_far h n fuel = ends _ _ fuel so_far ts h

abbrev pub is_spec_word : Token → Bool
is_spec_word k = is_some (spec_word_of k)

pub a_word_by : (names : List (List ℕ)) {ts rest : List Token} {w : Place × SpecWord} (d0 : Takes spec_word_of ts w rest) (n : ℕ) → SpecReads {names = names} (a_word d0) n
unfolding read_spec deep_expr
a_word_by names d0 n = if_so _ (takes_test d0) (step _ (takes_take d0) done)

pub a_struct_by : {names : List (List ℕ)} {ts rest : List Token} {s : StructSpec} (d0 : StructAt names ts s rest) (n : ℕ) → StructReads d0 n → SpecReads (a_struct d0) n
unfolding read_spec deep_expr
a_struct_by d0 n p = if_not _ (struct_at is_spec_word false (λ q. refl) d0) (if_so _ (struct_at (is_sign (Word word.Struct)) true (λ q. refl) d0) (and_last _ p done))

pub an_enum_by : {names : List (List ℕ)} {ts rest : List Token} {e : EnumSpec} (d0 : EnumAt names ts e rest) (n : ℕ) → EnumReads d0 n → SpecReads (an_enum d0) n
unfolding read_spec deep_expr
an_enum_by d0 n p =
    if_not _ (enum_at is_spec_word false (λ q. refl) d0) (if_not _ (enum_at (is_sign (Word word.Struct)) false (λ q. refl) d0) (if_so _ (enum_at (is_sign (Word word.Enum)) true (λ q. refl) d0) (and_last _ p done)))

pub an_attr_by : {names : List (List ℕ)} {ts rest : List Token} {a : Attr} (d0 : AttrAt names ts a rest) (n : ℕ) → SpecReads (an_attr d0) n
unfolding read_spec deep_expr
an_attr_by d0 n =
    if_not _ (attr_at is_spec_word false (λ q. refl) d0) (if_not _ (attr_at (is_sign (Word word.Struct)) false (λ q. refl) d0) (if_not _ (attr_at (is_sign (Word word.Enum)) false (λ q. refl) d0)
    (if_so _ (attr_at (is_sign (Word word.Attribute)) true (λ q. refl) d0) (and_last _ (attr_read d0) done))))

pub a_type_by : (names : List (List ℕ)) {ts rest : List Token} {x : Name} (d0 : Takes (type_of names) ts x rest) (n : ℕ) → SpecReads {names = names} (a_type d0) n
unfolding read_spec deep_expr
a_type_by names d0 n =
    if_not _ (type_at names is_spec_word false (λ q x h. refl) d0) (if_not _ (type_at names (is_sign (Word word.Struct)) false (λ q x h. refl) d0) (if_not _ (type_at names (is_sign (Word word.Enum)) false (λ q x h. refl) d0)
    (if_not _ (type_at names (is_sign (Word word.Attribute)) false (λ q x h. refl) d0) (step _ (takes_take d0) done))))

-- ---- structs

pub struct_deep : {names : List (List ℕ)} {ts rest : List Token} {a : StructSpec} (d : StructAt names ts a rest) → StructReads d 0
unfolding levels deep_expr
struct_deep d = too_deep _ (struct_at (is_sign (Word word.Struct)) true (λ q. refl) d)

pub struct_body_by : {names : List (List ℕ)} {ts r1 r2 rest : List Token} {p : Place} {x : Name} {xs : List Member}
    (d0 : Next (Word word.Struct) ts p r1) (d1 : Takes (name_of names) r1 x r2) (d2 : Members names r2 xs rest) (n : ℕ) → MembersReads d2 n → StructReads (struct_body d0 d1 d2) (suc n)
unfolding levels read_structs read_struct_named deep_expr
struct_body_by {names = names} d0 d1 d2 n p =
    step _ (next_expect d0) (if_so _ (name_at names (is_new names) true (λ q x h. rw h refl) d1) (step _ (takes_take d1) (if_so _ (members_at (is_sign (Mark mark.BraceOpen)) true (λ q. refl) d2) (and_last _ p done))))

pub struct_tag_by : (names : List (List ℕ)) {ts r1 rest : List Token} {p : Place} {x : Name}
    (d0 : Next (Word word.Struct) ts p r1) (d1 : Takes (name_of names) r1 x rest) (h : next_is (Mark mark.BraceOpen) rest ≡ false) (n : ℕ) → StructReads {names = names} (struct_tag d0 d1 h) (suc n)
unfolding levels read_structs read_struct_named deep_expr
struct_tag_by names d0 d1 h n = step _ (next_expect d0) (if_so _ (name_at names (is_new names) true (λ q x h. rw h refl) d1) (step _ (takes_take d1) (if_not _ h done)))

pub struct_plain_by : {names : List (List ℕ)} {ts r1 rest : List Token} {p : Place} {xs : List Member} (d0 : Next (Word word.Struct) ts p r1) (d1 : Members names r1 xs rest) (n : ℕ) → MembersReads d1 n → StructReads (struct_plain d0 d1) (suc n)
unfolding levels read_structs deep_expr
struct_plain_by {names = names} d0 d1 n p = step _ (next_expect d0) (if_not _ (members_at (is_new names) false (λ q. refl) d1) (and_last _ p done))

pub members_by : {names : List (List ℕ)} {ts r1 r2 r3 rest : List Token} {o c : Place} {m : Member} {xs : List Member}
    (d0 : Next (Mark mark.BraceOpen) ts o r1) (d1 : MemberAt names r1 m r2) (d2 : MoreMembers names r2 (m ∷ []) xs r3) (d3 : Next (Mark mark.BraceClose) r3 c rest) (n : ℕ) →
    MemberReads d1 n → MoreMembersReads d2 n (length r2) → MembersReads (braced_members d0 d1 d2 d3) n
unfolding read_members read_more_members deep_expr
members_by d0 d1 d2 d3 n p q = step _ (next_expect d0) (and_so _ p (and_last _ q (step _ (next_expect d3) done)))

pub more_members_turn : {names : List (List ℕ)} {ts r1 rest : List Token} {x : Member} (so_far : List Member) {all : List Member} (d0 : MemberAt names ts x r1) (m : MoreMembers names r1 (so_far ++ x ∷ []) all rest) (n fuel : ℕ) →
    MemberReads d0 n → length ts ≤ fuel → ((f : ℕ) → length r1 ≤ f → MoreMembersReads m n f) → MoreMembersReads (next_member d0 m) n fuel
unfolding read_member_item deep_expr
more_members_turn so_far d0 m n fuel p fits rec = turns _ _ fuel (member_begins d0) (and_last _ p done) (member_shrinks d0) fits rec

pub more_members_end : (names : List (List ℕ)) (ts : List Token) (so_far : List Member) (n fuel : ℕ) → begins_spec names ts ≡ false →
    MoreMembersReads {names = names} {ts = ts} {rest = ts} {so_far = so_far} {all = so_far} no_member n fuel
unfolding deep_expr
more_members_end names ts so_far n fuel h = ends _ _ fuel so_far ts h

pub member_by : {names : List (List ℕ)} {ts r1 r2 r3 rest : List Token} {s : List Spec} {x : Declarator} {xs : List Declarator} {c : Place}
    (d0 : SpecsAt names ts s r1) (d1 : DeclaratorAt names r1 x r2) (d2 : MoreDeclarators names r2 (x ∷ []) xs r3) (d3 : Next (Mark mark.Semicolon) r3 c rest) (n : ℕ) →
    SpecsReads d0 n → DeclaratorReads d1 n → MoreDeclaratorsReads d2 n (length r2) → MemberReads (a_member d0 d1 d2 d3) n
unfolding read_member read_more_declarators deep_expr
member_by d0 d1 d2 d3 n p q r = and_so _ p (and_so _ q (and_last _ r (step _ (next_expect d3) done)))

pub more_declarators_turn : {names : List (List ℕ)} {ts r1 r2 rest : List Token} {k : Place} {x : Declarator} (so_far : List Declarator) {all : List Declarator}
    (d0 : Next (Mark mark.Comma) ts k r1) (d1 : DeclaratorAt names r1 x r2) (m : MoreDeclarators names r2 (so_far ++ x ∷ []) all rest) (n fuel : ℕ) →
    DeclaratorReads d1 n → length ts ≤ fuel → ((f : ℕ) → length r2 ≤ f → MoreDeclaratorsReads m n f) → MoreDeclaratorsReads (next_declarator d0 d1 m) n fuel
unfolding read_declarator_item deep_expr
more_declarators_turn so_far d0 d1 m n fuel p fits rec = turns _ _ fuel (next_test d0) (step _ (next_expect d0) (and_last _ p done)) (omega (arith, next_shrinks d0, declarator_shrinks d1)) fits rec

pub more_declarators_end : (names : List (List ℕ)) (ts : List Token) (so_far : List Declarator) (n fuel : ℕ) → follow ts < 1 →
    MoreDeclaratorsReads {names = names} {ts = ts} {rest = ts} {so_far = so_far} {all = so_far} no_declarator n fuel
unfolding deep_expr
more_declarators_end names ts so_far n fuel stop = ends _ _ fuel so_far ts (not_next (Mark mark.Comma) ts stop)

-- ---- enums

pub enum_body_by : {names : List (List ℕ)} {ts r1 r2 rest : List Token} {p : Place} {x : Name} {xs : List Enumerator}
    (d0 : Next (Word word.Enum) ts p r1) (d1 : Takes (name_of names) r1 x r2) (d2 : Enumrs names r2 xs rest) (n : ℕ) → EnumrsReads d2 n → EnumReads (enum_body d0 d1 d2) n
unfolding read_enums read_enum_named deep_expr
enum_body_by {names = names} d0 d1 d2 n p =
    step _ (next_expect d0) (if_so _ (name_at names (is_new names) true (λ q x h. rw h refl) d1) (step _ (takes_take d1) (if_so _ (enumrs_at (is_sign (Mark mark.BraceOpen)) true (λ q. refl) d2) (and_last _ p done))))

pub enum_tag_by : (names : List (List ℕ)) {ts r1 rest : List Token} {p : Place} {x : Name}
    (d0 : Next (Word word.Enum) ts p r1) (d1 : Takes (name_of names) r1 x rest) (h : next_is (Mark mark.BraceOpen) rest ≡ false) (n : ℕ) → EnumReads {names = names} (enum_tag d0 d1 h) n
unfolding read_enums read_enum_named deep_expr
enum_tag_by names d0 d1 h n = step _ (next_expect d0) (if_so _ (name_at names (is_new names) true (λ q x h. rw h refl) d1) (step _ (takes_take d1) (if_not _ h done)))

pub enum_plain_by : {names : List (List ℕ)} {ts r1 rest : List Token} {p : Place} {xs : List Enumerator} (d0 : Next (Word word.Enum) ts p r1) (d1 : Enumrs names r1 xs rest) (n : ℕ) → EnumrsReads d1 n → EnumReads (enum_plain d0 d1) n
unfolding read_enums deep_expr
enum_plain_by {names = names} d0 d1 n p = step _ (next_expect d0) (if_not _ (enumrs_at (is_new names) false (λ q. refl) d1) (and_last _ p done))

pub enumrs_by : {names : List (List ℕ)} {ts r1 r2 r3 r4 rest : List Token} {o c : Place} {m : Enumerator} {xs : List Enumerator} {b : Bool}
    (d0 : Next (Mark mark.BraceOpen) ts o r1) (d1 : EnumrAt names r1 m r2) (d2 : MoreEnumrs names r2 (m ∷ []) xs r3) (d3 : OptComma r3 b r4) (d4 : Next (Mark mark.BraceClose) r4 c rest) (n : ℕ) →
    EnumrReads d1 n → MoreEnumrsReads d2 n (length r2) → EnumrsReads (braced_enumrs d0 d1 d2 d3 d4) n
unfolding read_enumrs read_more_enumrs deep_expr
enumrs_by d0 d1 d2 d3 d4 n p q = step _ (next_expect d0) (and_so _ p (and_last _ q (and_last _ (opt_comma_read d3 (other (Mark mark.Comma) d4 refl)) (step _ (next_expect d4) done))))

pub more_enumrs_turn : {names : List (List ℕ)} {ts r1 r2 rest : List Token} {k : Place} {x : Enumerator} (so_far : List Enumerator) {all : List Enumerator}
    (d0 : Next (Mark mark.Comma) ts k r1) (d1 : EnumrAt names r1 x r2) (m : MoreEnumrs names r2 (so_far ++ x ∷ []) all rest) (n fuel : ℕ) →
    EnumrReads d1 n → length ts ≤ fuel → ((f : ℕ) → length r2 ≤ f → MoreEnumrsReads m n f) → MoreEnumrsReads (next_enumr d0 d1 m) n fuel
unfolding read_enumr_item deep_expr
more_enumrs_turn so_far d0 d1 m n fuel p fits rec =
    turns _ _ fuel (one_more d0 (enumr_no_close d1)) (step _ (next_expect d0) (and_last _ p done)) (omega (arith, next_shrinks d0, enumr_shrinks d1)) fits rec

pub more_enumrs_end : (names : List (List ℕ)) (ts : List Token) (so_far : List Enumerator) (n fuel : ℕ) → comma_more ts ≡ false →
    MoreEnumrsReads {names = names} {ts = ts} {rest = ts} {so_far = so_far} {all = so_far} no_enumr n fuel
unfolding deep_expr
more_enumrs_end names ts so_far n fuel h = ends _ _ fuel so_far ts h

pub enumr_value_by : {names : List (List ℕ)} {ts r1 r2 rest : List Token} {x : Name} {k : Place} {e : Expr}
    (d0 : Takes (name_of names) ts x r1) (d1 : Next (Mark mark.Assign) r1 k r2) (d2 : Cond names r2 e rest) (n : ℕ) → CondReads d2 n → EnumrReads (enumr_value d0 d1 d2) n
unfolding read_enumr read_enumr_value deep_expr
enumr_value_by d0 d1 d2 n p = step _ (takes_take d0) (if_so _ (next_test d1) (step _ (next_expect d1) (and_last _ p done)))

pub enumr_plain_by : (names : List (List ℕ)) {ts rest : List Token} {x : Name} (d0 : Takes (name_of names) ts x rest) (n : ℕ) → next_is (Mark mark.Assign) rest ≡ false → EnumrReads {names = names} (enumr_plain d0) n
unfolding read_enumr deep_expr
enumr_plain_by names d0 n h = step _ (takes_take d0) (if_not _ h done)
