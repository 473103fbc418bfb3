-- What derives is read: attributes and stars, which no nesting counts.
use Rattle.std.proofs.Common.{Bool, List, None, Ok, [], arith, false, length, refl, true, ℕ, ◌≡◌, ◌<◌, ◌≤◌, ◌∷◌, ◌||◌}
use Rattle.cm_base.specs.declared.place.Place.{Place}
use Rattle.c_lex.specs.declared.token.Token.{Token}
use Rattle.c_grammar.specs.declared.tokens.Sign.TheVariants.{Mark, Word}
use Rattle.c_ast.specs.declared.expr.One.{One}
use Rattle.c_ast.specs.declared.expr.Attr.{Attr}
use Rattle.c_ast.specs.declared.expr.Star.{Star}
use Rattle.c_grammar.specs.Tokens.{at, begins_star, comma_more, group_token, is_sign, next_is, star_token}
use Rattle.c_grammar.specs.Grammar.{AttrAt, Attrs, LeadAttrs, MoreOnes, MoreStars, Next, OneAt, OptComma, StarAt, Stars, a_comma, attr_, next_attr, next_lead, next_one, next_star, no_attr, no_comma, no_lead, no_one, no_star, no_stars, one_plain, one_with, some_stars, star_attr, star_const, star_star, star_volatile}
use Rattle.c_grammar.specs.Reading.{read_attr, read_attr_item, read_lead_attrs, read_lead_item, read_more_ones, read_more_stars, read_one, read_one_item, read_one_with, read_opt_comma, read_some_stars, read_star, read_star_item, read_stars, repeat}
use Rattle.c_grammar.proofs.Shrinks.{attr_shrinks, next_shrinks, one_shrinks, star_shrinks}
use Rattle.grammar_laws.specs.Follow.{follow}
use Rattle.grammar_laws.proofs.First.{after_sign}
use Rattle.grammar_laws.proofs.Steps.{Answers, and_last, done, ends, if_not, if_so, next_expect, next_follow, next_test, not_next, other, sign_at, step, takes_take, turns}
use Rattle.c_lex.specs.declared.token.Keyword.TheVariants as word
use Rattle.c_lex.specs.declared.token.Punct.TheVariants as mark
use Rattle.c_lex.specs.declared.token.Kind.TheVariants as kind

or_left : (a b : Bool) → (a || b) ≡ false → a ≡ false
or_left true b h = absurd cc
or_left false b h = refl

or_right : (a b : Bool) → (a || b) ≡ false → b ≡ false
or_right true b h = absurd cc
or_right false b h = h

-- ---- one, attr

pub one_read : {names : List (List ℕ)} {ts rest : List Token} {a : One} → OneAt names ts a rest → follow rest < 14 → Answers (read_one names ts) None (a, rest)
unfolding read_one read_one_with
one_read (one_with d0 d1 d2 d3) stop = step _ (takes_take d0) (if_so _ (next_test d1) (step _ (next_expect d1) (step _ (takes_take d2) (step _ (next_expect d3) done))))
one_read {rest = rest} (one_plain d0) stop = step _ (takes_take d0) (if_not _ (not_next (Mark mark.ParenOpen) rest stop) done)

more_ones_follow : {names : List (List ℕ)} {ts rest : List Token} {so_far all : List One} → MoreOnes names ts so_far all rest → follow rest < 1 → follow ts < 2
more_ones_follow no_one lt = omega arith
more_ones_follow (next_one d0 d1 m) lt = omega (arith, next_follow d0)

pub more_ones_read : {names : List (List ℕ)} {ts rest : List Token} {so_far all : List One} → MoreOnes names ts so_far all rest → follow rest < 1 → (fuel : ℕ) → length ts ≤ fuel →
    Answers (repeat (next_is (Mark mark.Comma)) (read_one_item names) fuel so_far ts) None (all, rest)
unfolding read_one_item
more_ones_read {ts = ts} {so_far = so_far} no_one stop fuel fits = ends _ _ fuel so_far ts (not_next (Mark mark.Comma) ts stop)
more_ones_read (next_one d0 d1 m) stop fuel fits =
    turns {o1 = None} {o2 = None} _ _ fuel (next_test d0) (step _ (next_expect d0) (and_last _ (one_read d1 (omega (arith, more_ones_follow m stop))) done)) (omega (arith, next_shrinks d0, one_shrinks d1)) fits (λ f h. more_ones_read m stop f h)

pub attr_read : {names : List (List ℕ)} {ts rest : List Token} {a : Attr} → AttrAt names ts a rest → Answers (read_attr names ts) None (a, rest)
unfolding read_attr read_more_ones
attr_read (attr_ {r5 = r5} d0 d1 d2 d3 d4 d5 d6) =
    let stop : follow r5 < 1 = omega (arith, next_follow d5) in
    step _ (next_expect d0) (step _ (next_expect d1) (step _ (next_expect d2) (and_last _ (one_read d3 (omega (arith, more_ones_follow d4 stop))) (and_last _ (more_ones_read d4 stop _ (omega arith)) (step _ (next_expect d5) (step _ (next_expect d6) done))))))

pub attr_at : {names : List (List ℕ)} {ts rest : List Token} {a : Attr} (test : Token → Bool) (b : Bool) → ((q : Place) → test (record { kind = kind.Word word.Attribute; place = q }) ≡ b) → AttrAt names ts a rest → at test ts ≡ b
attr_at test b h (attr_ d0 d1 d2 d3 d4 d5 d6) = sign_at test b h d0

pub attrs_read : {names : List (List ℕ)} {ts rest : List Token} {so_far all : List Attr} → Attrs names ts so_far all rest → next_is (Word word.Attribute) rest ≡ false → (fuel : ℕ) → length ts ≤ fuel →
    Answers (repeat (next_is (Word word.Attribute)) (read_attr_item names) fuel so_far ts) None (all, rest)
unfolding read_attr_item
attrs_read {ts = ts} {so_far = so_far} no_attr stop fuel fits = ends _ _ fuel so_far ts stop
attrs_read (next_attr d0 m) stop fuel fits =
    turns {o1 = None} {o2 = None} _ _ fuel (attr_at (is_sign (Word word.Attribute)) true (λ q. refl) d0) (and_last _ (attr_read d0) done) (attr_shrinks d0) fits (λ f h. attrs_read m stop f h)

pub attrs_follow : {names : List (List ℕ)} {ts rest : List Token} {so_far all : List Attr} → Attrs names ts so_far all rest → follow rest < 14 → follow ts < 14
attrs_follow no_attr lt = lt
attrs_follow (next_attr (attr_ d0 d1 d2 d3 d4 d5 d6) m) lt = omega (arith, next_follow d0)

-- ---- stars

pub lead_read : {names : List (List ℕ)} {ts rest : List Token} {so_far all : List Star} → LeadAttrs names ts so_far all rest → next_is (Word word.Attribute) rest ≡ false → (fuel : ℕ) → length ts ≤ fuel →
    Answers (repeat (next_is (Word word.Attribute)) (read_lead_item names) fuel so_far ts) None (all, rest)
unfolding read_lead_item
lead_read {ts = ts} {so_far = so_far} no_lead stop fuel fits = ends _ _ fuel so_far ts stop
lead_read (next_lead d0 m) stop fuel fits =
    turns {o1 = None} {o2 = None} _ _ fuel (attr_at (is_sign (Word word.Attribute)) true (λ q. refl) d0) (and_last _ (attr_read d0) done) (attr_shrinks d0) fits (λ f h. lead_read m stop f h)

star_begins : {names : List (List ℕ)} {ts rest : List Token} {a : Star} → StarAt names ts a rest → begins_star ts ≡ true
star_begins (star_star d0) = sign_at star_token true (λ q. refl) d0
star_begins (star_const d0) = sign_at star_token true (λ q. refl) d0
star_begins (star_volatile d0) = sign_at star_token true (λ q. refl) d0
star_begins (star_attr d0) = attr_at star_token true (λ q. refl) d0

star_read : {names : List (List ℕ)} {ts rest : List Token} {a : Star} → StarAt names ts a rest → Answers (read_star names ts) None (a, rest)
unfolding read_star
star_read (star_star d0) = if_so _ (next_test d0) (step _ (next_expect d0) done)
star_read (star_const d0) = if_not _ (other (Mark mark.Star) d0 refl) (if_so _ (next_test d0) (step _ (next_expect d0) done))
star_read (star_volatile d0) = if_not _ (other (Mark mark.Star) d0 refl) (if_not _ (other (Word word.Const) d0 refl) (if_so _ (next_test d0) (step _ (next_expect d0) done)))
star_read (star_attr d0) =
    if_not _ (attr_at (is_sign (Mark mark.Star)) false (λ q. refl) d0) (if_not _ (attr_at (is_sign (Word word.Const)) false (λ q. refl) d0) (if_not _ (attr_at (is_sign (Word word.Volatile)) false (λ q. refl) d0) (and_last _ (attr_read d0) done)))

more_stars_read : {names : List (List ℕ)} {ts rest : List Token} {so_far all : List Star} → MoreStars names ts so_far all rest → begins_star rest ≡ false → (fuel : ℕ) → length ts ≤ fuel →
    Answers (repeat begins_star (read_star_item names) fuel so_far ts) None (all, rest)
unfolding read_star_item
more_stars_read {ts = ts} {so_far = so_far} no_star stop fuel fits = ends _ _ fuel so_far ts stop
more_stars_read (next_star d0 m) stop fuel fits = turns {o1 = None} {o2 = None} _ _ fuel (star_begins d0) (and_last _ (star_read d0) done) (star_shrinks d0) fits (λ f h. more_stars_read m stop f h)

no_star_next : (ts : List Token) → begins_star ts ≡ false → next_is (Mark mark.Star) ts ≡ false
no_star_next [] h = refl
no_star_next (k ∷ r) h = or_left _ _ (or_left _ _ (or_left _ _ h))

no_attr_next : (ts : List Token) → begins_star ts ≡ false → next_is (Word word.Attribute) ts ≡ false
no_attr_next [] h = refl
no_attr_next (k ∷ r) h = or_right _ _ h

pub stars_read : {names : List (List ℕ)} {ts rest : List Token} {a : List Star} → Stars names ts a rest → begins_star rest ≡ false → read_stars names ts ≡ Ok (a, rest)
unfolding read_stars read_lead_attrs read_some_stars read_more_stars
stars_read (some_stars d0 d1 d2) stop =
    (and_last {o = None} _ (lead_read d0 (other (Word word.Attribute) d1 refl) _ (omega arith)) (if_so _ (next_test d1) (step _ (next_expect d1) (more_stars_read d2 stop _ (omega arith))))).holds
stars_read {rest = rest} (no_stars d0) stop = (and_last {o = None} _ (lead_read d0 (no_attr_next rest stop) _ (omega arith)) (if_not _ (no_star_next rest stop) done)).holds

-- the first token of the stars, or the one after them
lead_at : {names : List (List ℕ)} {ts rest : List Token} {so_far all : List Star} (test : Token → Bool) (b : Bool) → ((q : Place) → test (record { kind = kind.Word word.Attribute; place = q }) ≡ b) →
    LeadAttrs names ts so_far all rest → at test rest ≡ b → at test ts ≡ b
lead_at test b h no_lead e = e
lead_at test b h (next_lead d0 m) e = attr_at test b h d0

pub stars_at : {names : List (List ℕ)} {ts rest : List Token} {a : List Star} (test : Token → Bool) (b : Bool) →
    ((q : Place) → test (record { kind = kind.Mark mark.Star; place = q }) ≡ b) → ((q : Place) → test (record { kind = kind.Word word.Attribute; place = q }) ≡ b) → Stars names ts a rest → at test rest ≡ b → at test ts ≡ b
stars_at test b h g (some_stars d0 d1 d2) e = lead_at test b g d0 (sign_at test b h d1)
stars_at test b h g (no_stars d0) e = lead_at test b g d0 e

-- without a "*" and an attribute at the front there are none
abbrev pair : List Star → List Token → List Star × List Token
pair a ts = (a, ts)

lead_none : {names : List (List ℕ)} {ts rest : List Token} {so_far all : List Star} → LeadAttrs names ts so_far all rest → at group_token ts ≡ false → pair all rest ≡ pair so_far ts
lead_none no_lead h = refl
lead_none {ts = ts} (next_lead d0 m) h = let e : at group_token ts ≡ true = attr_at group_token true (λ q. refl) d0 in absurd cc

pub stars_none : {names : List (List ℕ)} {ts rest : List Token} {a : List Star} → Stars names ts a rest → at group_token ts ≡ false → pair a rest ≡ pair [] ts
stars_none {ts = ts} (some_stars d0 d1 d2) h =
    let e : at group_token ts ≡ true = lead_at group_token true (λ q. refl) d0 (sign_at group_token true (λ q. refl) d1) in absurd cc
stars_none (no_stars d0) h = lead_none d0 h

-- ---- a comma that may stand

pub opt_comma_read : {ts rest : List Token} {a : Bool} → OptComma ts a rest → next_is (Mark mark.Comma) rest ≡ false → Answers (read_opt_comma ts) None (a, rest)
unfolding read_opt_comma
opt_comma_read (a_comma d0) stop = if_so _ (next_test d0) (step _ (next_expect d0) done)
opt_comma_read no_comma stop = if_not _ stop done

pub opt_comma_follow : {ts rest : List Token} {a : Bool} → OptComma ts a rest → follow rest < 2 → follow ts < 2
opt_comma_follow (a_comma d0) lt = omega (arith, next_follow d0)
opt_comma_follow no_comma lt = lt

-- no further part stands before a "}"
pub no_more : {ts r1 rest : List Token} {a : Bool} {c : Place} → OptComma ts a r1 → Next (Mark mark.BraceClose) r1 c rest → comma_more ts ≡ false
no_more (a_comma d0) c = rw (next_test d0, after_sign (next_is (Mark mark.BraceClose)) true d0 (next_test c)) refl
no_more no_comma c = rw (other (Mark mark.Comma) c refl) refl

pub one_more : {ts r1 : List Token} {k : Place} → Next (Mark mark.Comma) ts k r1 → next_is (Mark mark.BraceClose) r1 ≡ false → comma_more ts ≡ true
one_more d0 h = rw (next_test d0, after_sign (next_is (Mark mark.BraceClose)) false d0 h) refl
