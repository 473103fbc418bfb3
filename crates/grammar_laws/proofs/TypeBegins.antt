-- What specifiers, declarators and parameters begin with.
use Rattle.std.proofs.Common.{Bool, List, [], ap, arith, false, not, refl, subst, sym, true, ℕ, ◌≡◌, ◌<◌, ◌∷◌, ◌||◌, ◌∙◌}
use Rattle.std.specs.Option.{is_some}
use Rattle.cm_base.specs.declared.place.Place.{Place}
use Rattle.c_lex.specs.declared.token.Keyword.{Keyword}
use Rattle.c_lex.specs.declared.token.Kind.{Kind}
use Rattle.c_lex.specs.declared.token.Token.{Token}
use Rattle.c_grammar.specs.declared.tokens.Sign.TheVariants.{Mark}
use Rattle.c_ast.specs.declared.expr.TypeName.{TypeName}
use Rattle.c_ast.specs.declared.expr.Spec.{Spec}
use Rattle.c_ast.specs.declared.expr.StructSpec.{StructSpec}
use Rattle.c_ast.specs.declared.expr.Member.{Member}
use Rattle.c_ast.specs.declared.expr.EnumSpec.{EnumSpec}
use Rattle.c_ast.specs.declared.expr.Enumerator.{Enumerator}
use Rattle.c_ast.specs.declared.expr.Declarator.{Declarator}
use Rattle.c_ast.specs.declared.expr.Suffix.{Suffix}
use Rattle.c_ast.specs.declared.expr.Params.{Params}
use Rattle.c_ast.specs.declared.expr.Param.{Param}
use Rattle.c_ast.specs.declared.expr.Abstract.{Abstract}
use Rattle.c_grammar.specs.Tokens.{at, begins_abstract, begins_declarator, begins_either, begins_spec, begins_suffix, declarator_token, group_token, is, is_name, is_sign, known, next_is, next_is_name, spec_token, spec_word, suffix_token}
use Rattle.c_grammar.specs.Grammar.{AbstractAt, DeclaratorAt, EnumAt, EnumrAt, Enumrs, MemberAt, Members, Next, ParamAt, ParamsAt, SpecAt, SpecsAt, StructAt, SuffixAt, Suffixes, TypeNameAt, a_member, a_struct, a_type, a_word, an_attr, an_enum, array_suffix, braced_enumrs, braced_members, enum_body, enum_plain, enum_tag, enumr_plain, enumr_value, group_abstract, group_declarator, named_param, next_suffix, no_params, no_suffix, params_suffix, plain_abstract, plain_declarator, some_params, some_specs, struct_body, struct_plain, struct_tag, type_name, unnamed_param, void_only}
use Rattle.grammar_laws.specs.Follow.{follow, level}
use Rattle.grammar_laws.proofs.First.{is_new, name_at, some_placed, type_at, word_at}
use Rattle.grammar_laws.proofs.Steps.{next_follow, sign_at}
use Rattle.grammar_laws.proofs.Attributes.{attr_at, stars_at, stars_none}
use Rattle.c_lex.specs.declared.token.Keyword.TheVariants as word
use Rattle.c_lex.specs.declared.token.Punct.TheVariants as mark
use Rattle.c_lex.specs.declared.token.Kind.TheVariants as kind
use Rattle.c_ast.specs.declared.expr.Abstract.TheVariants as abstracts

or_true : (a b : Bool) → a ≡ true → (a || b) ≡ true
or_true true b h = refl
or_true false b h = absurd cc

-- ---- specifiers

pub spec_mark : (names : List (List ℕ)) (q : Place) (w : Keyword) → is_some (spec_word w) ≡ true →
    (spec_token names (record { kind = kind.Word w; place = q }) ≡ true) × (is (kind.Word w) (Mark mark.BraceClose) ≡ false)
spec_mark names q w h = (rw (some_placed q (spec_word w), h) refl, refl)

pub spec_begins : {names : List (List ℕ)} {ts rest : List Token} {a : Spec} → SpecAt names ts a rest → begins_spec names ts ≡ true
spec_begins {names = names} (a_word d0) = word_at (spec_token names) true (λ q w h. (spec_mark names q w h).0) d0
spec_begins {names = names} (a_struct (struct_body d0 d1 d2)) = sign_at (spec_token names) true (λ q. refl) d0
spec_begins {names = names} (a_struct (struct_tag d0 d1 h)) = sign_at (spec_token names) true (λ q. refl) d0
spec_begins {names = names} (a_struct (struct_plain d0 d1)) = sign_at (spec_token names) true (λ q. refl) d0
spec_begins {names = names} (an_enum (enum_body d0 d1 d2)) = sign_at (spec_token names) true (λ q. refl) d0
spec_begins {names = names} (an_enum (enum_tag d0 d1 h)) = sign_at (spec_token names) true (λ q. refl) d0
spec_begins {names = names} (an_enum (enum_plain d0 d1)) = sign_at (spec_token names) true (λ q. refl) d0
spec_begins {names = names} (an_attr d0) = attr_at (spec_token names) true (λ q. refl) d0
spec_begins {names = names} (a_type d0) = type_at names (spec_token names) true (λ q x h. rw h refl) d0

pub specs_begins : {names : List (List ℕ)} {ts rest : List Token} {a : List Spec} → SpecsAt names ts a rest → begins_spec names ts ≡ true
specs_begins (some_specs d0 d1) = spec_begins d0

pub typename_begins : {names : List (List ℕ)} {ts rest : List Token} {a : TypeName} → TypeNameAt names ts a rest → begins_spec names ts ≡ true
typename_begins (type_name d0 d1) = specs_begins d0

pub member_begins : {names : List (List ℕ)} {ts rest : List Token} {a : Member} → MemberAt names ts a rest → begins_spec names ts ≡ true
member_begins (a_member d0 d1 d2 d3) = specs_begins d0

pub param_begins : {names : List (List ℕ)} {ts rest : List Token} {a : Param} → ParamAt names ts a rest → begins_spec names ts ≡ true
param_begins (named_param d0 d1) = specs_begins d0
param_begins (unnamed_param d0 d1) = specs_begins d0

-- the first token of a struct or an enum
pub struct_at : {names : List (List ℕ)} {ts rest : List Token} {a : StructSpec} (test : Token → Bool) (b : Bool) → ((q : Place) → test (record { kind = kind.Word word.Struct; place = q }) ≡ b) → StructAt names ts a rest → at test ts ≡ b
struct_at test b h (struct_body d0 d1 d2) = sign_at test b h d0
struct_at test b h (struct_tag d0 d1 e) = sign_at test b h d0
struct_at test b h (struct_plain d0 d1) = sign_at test b h d0

pub enum_at : {names : List (List ℕ)} {ts rest : List Token} {a : EnumSpec} (test : Token → Bool) (b : Bool) → ((q : Place) → test (record { kind = kind.Word word.Enum; place = q }) ≡ b) → EnumAt names ts a rest → at test ts ≡ b
enum_at test b h (enum_body d0 d1 d2) = sign_at test b h d0
enum_at test b h (enum_tag d0 d1 e) = sign_at test b h d0
enum_at test b h (enum_plain d0 d1) = sign_at test b h d0

pub members_at : {names : List (List ℕ)} {ts rest : List Token} {a : List Member} (test : Token → Bool) (b : Bool) → ((q : Place) → test (record { kind = kind.Mark mark.BraceOpen; place = q }) ≡ b) → Members names ts a rest → at test ts ≡ b
members_at test b h (braced_members d0 d1 d2 d3) = sign_at test b h d0

pub enumrs_at : {names : List (List ℕ)} {ts rest : List Token} {a : List Enumerator} (test : Token → Bool) (b : Bool) → ((q : Place) → test (record { kind = kind.Mark mark.BraceOpen; place = q }) ≡ b) → Enumrs names ts a rest → at test ts ≡ b
enumrs_at test b h (braced_enumrs d0 d1 d2 d3 d4) = sign_at test b h d0

pub enumr_no_close : {names : List (List ℕ)} {ts rest : List Token} {a : Enumerator} → EnumrAt names ts a rest → next_is (Mark mark.BraceClose) ts ≡ false
enumr_no_close {names = names} (enumr_value d0 d1 d2) = name_at names (is_sign (Mark mark.BraceClose)) false (λ q x h. refl) d0
enumr_no_close {names = names} (enumr_plain d0) = name_at names (is_sign (Mark mark.BraceClose)) false (λ q x h. refl) d0

-- ---- declarators

-- the first token of a declarator: a star, an attribute, a name or "("
pub declarator_at : {names : List (List ℕ)} {ts rest : List Token} {a : Declarator} (test : Token → Bool) (b : Bool) →
    ((q : Place) → test (record { kind = kind.Mark mark.Star; place = q }) ≡ b) → ((q : Place) → test (record { kind = kind.Word word.Attribute; place = q }) ≡ b) →
    ((q : Place) (x : List ℕ) → known names x ≡ false → test (record { kind = kind.Name x; place = q }) ≡ b) → ((q : Place) → test (record { kind = kind.Mark mark.ParenOpen; place = q }) ≡ b) →
    DeclaratorAt names ts a rest → at test ts ≡ b
declarator_at {names = names} test b h1 h2 h3 h4 (plain_declarator d0 d1 d2) = stars_at test b h1 h2 d0 (name_at names test b h3 d1)
declarator_at test b h1 h2 h3 h4 (group_declarator d0 d1 d2 d3 d4) = stars_at test b h1 h2 d0 (sign_at test b h4 d1)

pub declarator_begins : {names : List (List ℕ)} {ts rest : List Token} {a : Declarator} → DeclaratorAt names ts a rest → begins_declarator names ts ≡ true
declarator_begins {names = names} d = declarator_at (declarator_token names) true (λ q. refl) (λ q. refl) (λ q x h. rw h refl) (λ q. refl) d

abbrev pub either_token : List (List ℕ) → Token → Bool
either_token names k = group_token k || is_name names k.kind

pub declarator_either : {names : List (List ℕ)} {ts rest : List Token} {a : Declarator} → DeclaratorAt names ts a rest → begins_either names ts ≡ true
declarator_either {names = names} d = declarator_at (either_token names) true (λ q. refl) (λ q. refl) (λ q x h. rw h refl) (λ q. refl) d

-- what begins a declarator and is no name begins a group of one
pub group_begins : (names : List (List ℕ)) (ts : List Token) → begins_either names ts ≡ true → next_is_name names ts ≡ false → at group_token ts ≡ true
group_begins names [] h e = absurd cc
group_begins names (k ∷ r) h e = go (group_token k) h
  where
    go : (b : Bool) → (b || is_name names k.kind) ≡ true → b ≡ true
    go true h = refl
    go false h = absurd cc

pub group_no_name : (names : List (List ℕ)) (ts : List Token) → at group_token ts ≡ true → next_is_name names ts ≡ false
group_no_name names [] h = refl
group_no_name names (k ∷ r) h = go k.kind h
  where
    go : (c : Kind) → group_token (record { kind = c; place = k.place }) ≡ true → is_name names c ≡ false
    go (kind.Name x) h = absurd cc
    go _ h = refl

pub either_by_group : (names : List (List ℕ)) (ts : List Token) → at group_token ts ≡ true → begins_either names ts ≡ true
either_by_group names [] h = absurd cc
either_by_group names (k ∷ r) h = or_true (group_token k) _ h

pub no_either_by : (names : List (List ℕ)) (ts : List Token) → at group_token ts ≡ false → next_is_name names ts ≡ false → begins_either names ts ≡ false
no_either_by names [] h e = refl
no_either_by names (k ∷ r) h e = rw (h, e) refl

-- ---- suffixes

pub suffix_begins : {names : List (List ℕ)} {ts rest : List Token} {a : Suffix} → SuffixAt names ts a rest → begins_suffix ts ≡ true
suffix_begins (array_suffix d0 d1 d2) = sign_at suffix_token true (λ q. refl) d0
suffix_begins (params_suffix d0 d1 d2) = sign_at suffix_token true (λ q. refl) d0

pub no_suffix_next : (ts : List Token) → follow ts < 14 → begins_suffix ts ≡ false
no_suffix_next [] lt = refl
no_suffix_next (k ∷ r) lt = go k.kind lt
  where
    go : (c : Kind) → level c < 14 → suffix_token (record { kind = c; place = k.place }) ≡ false
    go (kind.Mark mark.ParenOpen) lt = absurd (omega arith)
    go (kind.Mark mark.BracketOpen) lt = absurd (omega arith)
    go (kind.Mark _) lt = refl
    go _ lt = refl

-- the first token of a chain of suffixes, or the one after it
pub suffixes_at : {names : List (List ℕ)} {ts rest : List Token} {so_far all : List Suffix} (test : Token → Bool) (b : Bool) →
    ((q : Place) → test (record { kind = kind.Mark mark.BracketOpen; place = q }) ≡ b) → ((q : Place) → test (record { kind = kind.Mark mark.ParenOpen; place = q }) ≡ b) →
    Suffixes names ts so_far all rest → at test rest ≡ b → at test ts ≡ b
suffixes_at test b h1 h2 no_suffix e = e
suffixes_at test b h1 h2 (next_suffix (array_suffix d0 d1 d2) m) e = sign_at test b h1 d0
suffixes_at test b h1 h2 (next_suffix (params_suffix d0 d1 d2) m) e = sign_at test b h2 d0

abbrev pair : List Suffix → List Token → List Suffix × List Token
pair a ts = (a, ts)

suffixes_none : {names : List (List ℕ)} {ts rest : List Token} {so_far all : List Suffix} → Suffixes names ts so_far all rest → at group_token ts ≡ false → pair all rest ≡ pair so_far ts
suffixes_none no_suffix h = refl
suffixes_none {ts = ts} (next_suffix (array_suffix d0 d1 d2) m) h = let e : at group_token ts ≡ true = sign_at group_token true (λ q. refl) d0 in absurd cc
suffixes_none {ts = ts} (next_suffix (params_suffix d0 d1 d2) m) h = let e : at group_token ts ≡ true = sign_at group_token true (λ q. refl) d0 in absurd cc

-- an abstract declarator that begins with no "*", "(", "[" or attribute has no token
abbrev pub named_pair : Abstract → List Token → Abstract × List Token
named_pair a ts = (a, ts)

pub abstract_none : {names : List (List ℕ)} {ts rest : List Token} {a : Abstract} → AbstractAt names ts a rest → begins_abstract ts ≡ false → named_pair a rest ≡ named_pair (abstracts.Plain [] []) ts
abstract_none {ts = ts} (group_abstract d0 h0 d1 d2 d3 d4) h =
    let e : at group_token ts ≡ true = stars_at group_token true (λ q. refl) (λ q. refl) d0 (sign_at group_token true (λ q. refl) d1) in absurd cc
abstract_none {ts = ts} {rest = rest} (plain_abstract {r1 = r1} {s = s} {xs = xs} d0 h0 d1) h =
    let e0 = stars_none d0 h in
    let same : r1 ≡ ts = ap (λ y. y.1) e0 in
    let h1 : at group_token r1 ≡ false = subst (λ r. at group_token r ≡ false) (sym same) h in
    let e1 = suffixes_none d1 h1 in
    ap (λ y. named_pair (abstracts.Plain s y.0) y.1) e1 ∙ ap (λ y. named_pair (abstracts.Plain y.0 []) y.1) e0

-- ---- the end of an abstract declarator: "," or ")"

pub data Ended : List Token → Type 0 where
  by_comma : {ts r : List Token} {p : Place} → Next (Mark mark.Comma) ts p r → Ended ts
  by_close : {ts r : List Token} {p : Place} → Next (Mark mark.ParenClose) ts p r → Ended ts

pub ended_at : {ts : List Token} (test : Token → Bool) (b : Bool) → ((q : Place) → test (record { kind = kind.Mark mark.Comma; place = q }) ≡ b) → ((q : Place) → test (record { kind = kind.Mark mark.ParenClose; place = q }) ≡ b) →
    Ended ts → at test ts ≡ b
ended_at test b h1 h2 (by_comma d) = sign_at test b h1 d
ended_at test b h1 h2 (by_close d) = sign_at test b h2 d

pub ended_follow : {ts : List Token} → Ended ts → follow ts < 2
ended_follow (by_comma d) = omega (arith, next_follow d)
ended_follow (by_close d) = omega (arith, next_follow d)

-- parameters begin with no name
pub params_no_name : {names : List (List ℕ)} {ts rest r : List Token} {a : Params} {c : Place} → ParamsAt names ts a rest → Next (Mark mark.ParenClose) rest c r → next_is_name names ts ≡ false
params_no_name {names = names} (void_only d0) c = sign_at (is_new names) false (λ q. refl) d0
params_no_name {names = names} {ts = ts} (some_params h d0 d1) c = spec_no_name names ts (param_begins d0)
  where
    spec_no_name : (names : List (List ℕ)) (ts : List Token) → begins_spec names ts ≡ true → next_is_name names ts ≡ false
    spec_no_name names [] h = refl
    spec_no_name names (k ∷ r) h = go k.kind h
      where
        go : (c : Kind) → spec_token names (record { kind = c; place = k.place }) ≡ true → is_name names c ≡ false
        go (kind.Name x) h = by_known (known names x) h
          where
            by_known : (b : Bool) → (false || false || false || false || b) ≡ true → not b ≡ false
            by_known true e = refl
            by_known false e = absurd cc
        go _ h = refl
params_no_name {names = names} no_params c = sign_at (is_new names) false (λ q. refl) c
