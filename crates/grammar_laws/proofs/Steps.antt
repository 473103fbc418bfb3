-- What the next token says, and what can go on a part.
use Rattle.std.proofs.Common.{◌≡◌, ℕ, zero, suc, ◌<◌, ◌≤◌, Bool, true, false, List, [], ◌∷◌, length, Option, Some, None, Ok, Err, if◌then◌else◌, refl, sym, ap, subst, arith}
use Rattle.cm_base.specs.declared.place.Place.{Place}
use Rattle.c_lex.specs.declared.token.Keyword.TheVariants as word
use Rattle.c_lex.specs.declared.token.Punct.TheVariants as mark
use Rattle.c_lex.specs.declared.token.Token.{Token}
use Rattle.c_grammar.specs.declared.tokens.Sign.{Sign}
use Rattle.c_grammar.specs.declared.tokens.Sign.TheVariants.{Word, Mark}
use Rattle.c_lex.specs.declared.token.Keyword.{Keyword}
use Rattle.c_lex.specs.declared.token.Punct.{Punct}
use Rattle.c_lex.specs.declared.token.Kind.TheVariants as kind
use Rattle.c_grammar.specs.Tokens.{◌>>=◌, Read, of, is, at, next_is, expect, has, take}
use Rattle.c_grammar.specs.Tokens.{is_word, is_mark}
use Rattle.c_grammar.specs.Grammar.{Next, token, Takes, takes}
use Rattle.c_grammar.specs.Reading.{repeat, deep_if}
use Rattle.c_grammar.specs.declared.tokens.Fault.TheVariants.{Deep}
use Rattle.c_grammar.specs.Nesting.{earlier}
use Rattle.c_grammar.proofs.Soundness.{is_same}
use Rattle.grammar_laws.specs.Follow.{level, follow}

-- ---- the next token

is_word_refl : (w : Keyword) → is_word w (kind.Word w) ≡ true
is_word_refl word.Typedef = refl
is_word_refl _ = refl

is_mark_refl : (m : Punct) → is_mark m (kind.Mark m) ≡ true
is_mark_refl mark.BraceOpen = refl
is_mark_refl _ = refl

is_refl : (s : Sign) → is (of s) s ≡ true
is_refl (Word w) = is_word_refl w
is_refl (Mark m) = is_mark_refl m

pub next_test : {s : Sign} {ts r : List Token} {p : Place} → Next s ts p r → next_is s ts ≡ true
next_test {s = s} (token {k = k} e) = subst (λ c. is c s ≡ true) (sym e) (is_refl s)

pub next_expect : {s : Sign} {ts r : List Token} {p : Place} → Next s ts p r → expect s ts ≡ Ok (p, r)
unfolding expect
next_expect {s = s} (token {k = k} e) = let t : is k.kind s ≡ true = subst (λ c. is c s ≡ true) (sym e) (is_refl s) in rw t refl

pub takes_test : {A : Type 0} {f : Token → Option A} {ts r : List Token} {a : A} → Takes f ts a r → has f ts ≡ true
takes_test (takes e) = rw e refl

pub takes_take : {A : Type 0} {f : Token → Option A} {ts r : List Token} {a : A} → Takes f ts a r → take f ts ≡ Ok (a, r)
takes_take (takes e) = rw e refl

-- what a test says where a sign stands, or a token with a value
pub sign_at : (test : Token → Bool) (b : Bool) {s : Sign} {ts r : List Token} {p : Place} → ((q : Place) → test (record { kind = of s; place = q }) ≡ b) → Next s ts p r → at test ts ≡ b
sign_at test b h (token {k = k} e) = subst (λ c. test (record { kind = c; place = k.place }) ≡ b) (sym e) (h k.place)

pub takes_at : {A : Type 0} {f : Token → Option A} (test : Token → Bool) (b : Bool) {ts r : List Token} {a : A} → ((k : Token) → f k ≡ Some a → test k ≡ b) → Takes f ts a r → at test ts ≡ b
takes_at test b h (takes {k = k} e) = h k e

-- another sign stands next
pub other : {s : Sign} {ts r : List Token} {p : Place} (t : Sign) → Next s ts p r → is (of s) t ≡ false → next_is t ts ≡ false
other t (token e) h = subst (λ c. is c t ≡ false) (sym e) h

-- ---- what a reader answers of a part whose first token that is too deep is this one, if any

abbrev pub answer : {A : Type 0} → Option ℕ → A × List Token → Read A
answer None x = Ok x
answer (Some l) x = Err (Deep l)

pub record Answers {A : Type 0} (r : Read A) (o : Option ℕ) (x : A × List Token) : Type 0 where
  pub holds : r ≡ answer o x

pub done : {A : Type 0} {x : A × List Token} → Answers (Ok x) None x
done = record { holds = refl }

pub read_by : {A : Type 0} {r : Read A} {x : A × List Token} → r ≡ Ok x → Answers r None x
read_by e = record { holds = e }

-- one part after another
and_then : {A B : Type 0} (o1 o2 : Option ℕ) {r : Read A} (x : A × List Token) (y : B × List Token) (f : A × List Token → Read B) →
    r ≡ answer o1 x → f x ≡ answer o2 y → (r >>= f) ≡ answer (earlier o1 o2) y
and_then None o2 x y f p q = rw p q
and_then (Some l) o2 x y f p q = rw p refl

pub and_so : {A B : Type 0} {o1 o2 : Option ℕ} {r : Read A} {a : A} {r1 : List Token} {y : B × List Token} (f : A × List Token → Read B) →
    Answers r o1 (a, r1) → Answers (f (a, r1)) o2 y → Answers (r >>= f) (earlier o1 o2) y
and_so {o1 = o1} {o2 = o2} {a = a} {r1 = r1} {y = y} f p q = record { holds = and_then o1 o2 (a, r1) y f p.holds q.holds }

-- a part, and what is sure after it
and_sure : {A B : Type 0} (o : Option ℕ) {r : Read A} (x : A × List Token) (y : B × List Token) (f : A × List Token → Read B) →
    r ≡ answer o x → f x ≡ Ok y → (r >>= f) ≡ answer o y
and_sure None x y f p q = rw p q
and_sure (Some l) x y f p q = rw p refl

pub and_last : {A B : Type 0} {o : Option ℕ} {r : Read A} {a : A} {r1 : List Token} {y : B × List Token} (f : A × List Token → Read B) →
    Answers r o (a, r1) → Answers (f (a, r1)) None y → Answers (r >>= f) o y
and_last {o = o} {a = a} {r1 = r1} {y = y} f p q = record { holds = and_sure o (a, r1) y f p.holds q.holds }

-- what is sure, and a part after it
pub step : {A B : Type 0} {o : Option ℕ} {r : Read A} {a : A} {r1 : List Token} {y : B × List Token} (f : A × List Token → Read B) →
    r ≡ Ok (a, r1) → Answers (f (a, r1)) o y → Answers (r >>= f) o y
step f p q = record { holds = rw p q.holds }

pub if_so : {A : Type 0} {b : Bool} {r : Read A} (s : Read A) {o : Option ℕ} {x : A × List Token} → b ≡ true → Answers r o x → Answers (if b then r else s) o x
if_so s h p = record { holds = rw h p.holds }

pub if_not : {A : Type 0} {b : Bool} (r : Read A) {s : Read A} {o : Option ℕ} {x : A × List Token} → b ≡ false → Answers s o x → Answers (if b then r else s) o x
if_not r h p = record { holds = rw h p.holds }

-- the next token begins the part, and no level is left
pub too_deep : {A : Type 0} {b : Bool} (ts : List Token) {x : A × List Token} → b ≡ true → Answers (Err (deep_if b ts)) (Some (length ts)) x
too_deep ts h = record { holds = rw h refl }

-- ---- repetition

pub ends : {A : Type 0} (test : List Token → Bool) (one : A → List Token → Read A) (n : ℕ) (a : A) (ts : List Token) → test ts ≡ false → Answers (repeat test one n a ts) None (a, ts)
unfolding repeat
ends test one zero a ts e = done
ends test one (suc n) a ts e = if_not _ e done

pub turns : {A : Type 0} {o1 o2 : Option ℕ} (test : List Token → Bool) (one : A → List Token → Read A) (n : ℕ) {a b : A} {ts r : List Token} {x : A × List Token} →
    test ts ≡ true → Answers (one a ts) o1 (b, r) → length r < length ts → length ts ≤ n → ((m : ℕ) → length r ≤ m → Answers (repeat test one m b r) o2 x) →
    Answers (repeat test one n a ts) (earlier o1 o2) x
unfolding repeat
turns test one zero t e shrinks fits h = absurd (omega arith)
turns test one (suc n) t e shrinks fits h = if_so _ t (and_so _ e (h n (omega arith)))

-- ---- what can go on a part before it

pub next_follow : {s : Sign} {ts r : List Token} {p : Place} → Next s ts p r → follow ts ≡ level (of s)
next_follow (token e) = ap level e

-- another token than s stands next
pub not_next : (s : Sign) (ts : List Token) → follow ts < level (of s) → next_is s ts ≡ false
not_next s [] lt = refl
not_next s (k ∷ r) lt = go (is k.kind s) refl
  where
    go : (b : Bool) → is k.kind s ≡ b → b ≡ false
    go true e = let same : level k.kind ≡ level (of s) = ap level (is_same k.kind s e) in absurd (omega arith)
    go false e = refl
