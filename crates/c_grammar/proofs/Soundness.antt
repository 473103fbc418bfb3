-- What it takes for a reader to answer what is so.
use Rattle.std.proofs.Common.{◌≡◌, ℕ, zero, suc, ◌<◌, ◌≤◌, Bool, true, false, nat_eq, List, [], ◌∷◌, length, Option, Some, None, Ok, Err, if◌then◌else◌, refl, sym, ap, subst, ◌∙◌, arith}
use Rattle.c_lex.specs.declared.token.Keyword.TheVariants as word
use Rattle.c_lex.specs.declared.token.Punct.TheVariants as mark
use Rattle.c_lex.specs.declared.token.Token.{Token}
use Rattle.c_grammar.specs.declared.tokens.Sign.{Sign}
use Rattle.c_grammar.specs.declared.tokens.Sign.TheVariants.{Word, Mark}
use Rattle.c_lex.specs.declared.token.Keyword.{Keyword}
use Rattle.c_lex.specs.declared.token.Punct.{Punct}
use Rattle.c_lex.specs.declared.token.Kind.{Kind}
use Rattle.c_lex.specs.declared.token.Kind.TheVariants as kind
use Rattle.c_grammar.specs.declared.tokens.Fault.{Fault}
use Rattle.c_grammar.specs.Tokens.{◌>>=◌, Read, fault, of, is, expect, take}
use Rattle.c_grammar.specs.Tokens.{word_code, mark_code, is_word, is_mark, or_fault}
use Rattle.c_grammar.specs.Grammar.{Next, token, Takes, takes}
use Rattle.c_grammar.specs.Reading.{repeat}
use Rattle.std.proofs.lemmas.Bool.{eqb-true}

-- what a reader answers is so
pub record Sound {A : Type 0} (P : A → List Token → Type 0) (r : Read A) : Type 0 where
  pub holds : (a : A) (rest : List Token) → r ≡ Ok (a, rest) → P a rest

at_ok : {A : Type 0} (P : A → List Token → Type 0) (x : A × List Token) (y : A × List Token) → P x.0 x.1 → x ≡ y → P y.0 y.1
at_ok P x y h e = subst (λ z. P z.0 z.1) e h

abbrev found : {A : Type 0} → A × List Token → Read A
found x = Ok x

same_found : {A : Type 0} (x y : A × List Token) → found x ≡ found y → x ≡ y
same_found x y e = cc

pub and_so : {A B : Type 0} {P : A → List Token → Type 0} {Q : B → List Token → Type 0} {r : Read A} (f : A × List Token → Read B) →
    Sound P r → ((a : A) (rest : List Token) → P a rest → Sound Q (f (a, rest))) → Sound Q (r >>= f)
and_so {P = P} {Q = Q} {r = Ok x} f h k = record { holds = λ b rest e. (k x.0 x.1 (h.holds x.0 x.1 refl)).holds b rest e }
and_so {r = Err e} f h k = record { holds = λ b rest e. absurd cc }

pub done : {A : Type 0} {P : A → List Token → Type 0} {a : A} {rest : List Token} → P a rest → Sound P (Ok (a, rest))
done {P = P} {a = a} {rest = rest} h = record { holds = λ b r e. at_ok P (a, rest) (b, r) h (same_found _ _ e) }

pub fails : {A : Type 0} {P : A → List Token → Type 0} {f : Fault} → Sound P (Err f)
fails = record { holds = λ b rest e. absurd cc }

-- either way
pub either : {A : Type 0} {P : A → List Token → Type 0} (b : Bool) (x y : Read A) → (b ≡ true → Sound P x) → (b ≡ false → Sound P y) → Sound P (if b then x else y)
either true x y f g = f refl
either false x y f g = g refl

pub weaker : {A : Type 0} {P Q : A → List Token → Type 0} {r : Read A} → ((a : A) (rest : List Token) → P a rest → Q a rest) → Sound P r → Sound Q r
weaker k h = record { holds = λ b rest e. k b rest (h.holds b rest e) }

pub repeat_sound : {A : Type 0} (R : List Token → A → A → List Token → Type 0) (test : List Token → Bool) (one : A → List Token → Read A) →
    ((ts : List Token) (a : A) → R ts a a ts) →
    ((a : A) (ts : List Token) → Sound (λ b r. (e : A) (rest : List Token) → R r b e rest → R ts a e rest) (one a ts)) →
    (n : ℕ) (a : A) (ts : List Token) → Sound (R ts a) (repeat test one n a ts)
unfolding repeat
repeat_sound R test one none turn zero a ts = done (none ts a)
repeat_sound R test one none turn (suc n) a ts =
    either (test ts) (one a ts >>= λ b. repeat test one n b.0 b.1) (Ok (a, ts)) (λ _. and_so _ (turn a ts) (λ b r k. weaker k (repeat_sound R test one none turn n b r))) (λ _. done (none ts a))

-- the same, where the test fails at the end
pub repeat_sound_end : {A : Type 0} (R : List Token → A → A → List Token → Type 0) (test : List Token → Bool) (one : A → List Token → Read A) → test [] ≡ false →
    ((ts : List Token) (a : A) → test ts ≡ false → R ts a a ts) →
    ((a : A) (ts : List Token) → Sound (λ b r. (length r < length ts) × ((e : A) (rest : List Token) → R r b e rest → R ts a e rest)) (one a ts)) →
    (n : ℕ) (a : A) (ts : List Token) → length ts ≤ n → Sound (R ts a) (repeat test one n a ts)
unfolding repeat
repeat_sound_end R test one empty none turn zero a [] fits = done (none [] a empty)
repeat_sound_end R test one empty none turn zero a (k ∷ r) fits = absurd (omega arith)
repeat_sound_end R test one empty none turn (suc n) a ts fits =
    either (test ts) (one a ts >>= λ b. repeat test one n b.0 b.1) (Ok (a, ts)) (λ _. and_so _ (turn a ts) (λ b r k. weaker k.1 (repeat_sound_end R test one empty none turn n b r (omega (arith, k.0))))) (λ e. done (none ts a e))

abbrev word_with : ℕ → Keyword
word_with n = if nat_eq n 0 then word.Typedef else if nat_eq n 1 then word.Extern else if nat_eq n 2 then word.Static else if nat_eq n 3 then word.Inline else if nat_eq n 4 then word.Const else if nat_eq n 5 then word.Volatile else if nat_eq n 6 then word.Void else if nat_eq n 7 then word.Char else if nat_eq n 8 then word.Short else if nat_eq n 9 then word.Int else if nat_eq n 10 then word.Long else if nat_eq n 11 then word.Signed else if nat_eq n 12 then word.Unsigned else if nat_eq n 13 then word.Struct else if nat_eq n 14 then word.Enum else if nat_eq n 15 then word.Attribute else if nat_eq n 16 then word.Return else if nat_eq n 17 then word.Break else if nat_eq n 18 then word.Continue else if nat_eq n 19 then word.If else if nat_eq n 20 then word.Else else if nat_eq n 21 then word.While else if nat_eq n 22 then word.Do else if nat_eq n 23 then word.For else if nat_eq n 24 then word.Switch else if nat_eq n 25 then word.Case else if nat_eq n 26 then word.Default else word.Sizeof

word_back : (x : Keyword) → word_with (word_code x) ≡ x
word_back word.Typedef = refl
word_back _ = refl

abbrev mark_with : ℕ → Punct
mark_with n = if nat_eq n 0 then mark.BraceOpen else if nat_eq n 1 then mark.BraceClose else if nat_eq n 2 then mark.ParenOpen else if nat_eq n 3 then mark.ParenClose else if nat_eq n 4 then mark.BracketOpen else if nat_eq n 5 then mark.BracketClose else if nat_eq n 6 then mark.Semicolon else if nat_eq n 7 then mark.Comma else if nat_eq n 8 then mark.Colon else if nat_eq n 9 then mark.Question else if nat_eq n 10 then mark.Dot else if nat_eq n 11 then mark.Arrow else if nat_eq n 12 then mark.PlusPlus else if nat_eq n 13 then mark.MinusMinus else if nat_eq n 14 then mark.Tilde else if nat_eq n 15 then mark.Bang else if nat_eq n 16 then mark.Star else if nat_eq n 17 then mark.Slash else if nat_eq n 18 then mark.Percent else if nat_eq n 19 then mark.Plus else if nat_eq n 20 then mark.Minus else if nat_eq n 21 then mark.Shl else if nat_eq n 22 then mark.Shr else if nat_eq n 23 then mark.Less else if nat_eq n 24 then mark.Greater else if nat_eq n 25 then mark.LessEqual else if nat_eq n 26 then mark.GreaterEqual else if nat_eq n 27 then mark.EqualEqual else if nat_eq n 28 then mark.NotEqual else if nat_eq n 29 then mark.Amp else if nat_eq n 30 then mark.Caret else if nat_eq n 31 then mark.Pipe else if nat_eq n 32 then mark.AndAnd else if nat_eq n 33 then mark.OrOr else if nat_eq n 34 then mark.Assign else if nat_eq n 35 then mark.StarAssign else if nat_eq n 36 then mark.SlashAssign else if nat_eq n 37 then mark.PercentAssign else if nat_eq n 38 then mark.PlusAssign else if nat_eq n 39 then mark.MinusAssign else if nat_eq n 40 then mark.ShlAssign else if nat_eq n 41 then mark.ShrAssign else if nat_eq n 42 then mark.AmpAssign else if nat_eq n 43 then mark.CaretAssign else mark.PipeAssign

mark_back : (x : Punct) → mark_with (mark_code x) ≡ x
mark_back mark.BraceOpen = refl
mark_back _ = refl

word_same : (w : Keyword) (k : Kind) → is_word w k ≡ true → k ≡ kind.Word w
word_same w (kind.Word v) e = let h : word_code v ≡ word_code w = eqb-true _ _ e in ap (λ x. kind.Word x) (sym (word_back v) ∙ ap word_with h ∙ word_back w)
word_same w _ e = absurd cc

mark_same : (m : Punct) (k : Kind) → is_mark m k ≡ true → k ≡ kind.Mark m
mark_same m (kind.Mark n) e = let h : mark_code n ≡ mark_code m = eqb-true _ _ e in ap (λ x. kind.Mark x) (sym (mark_back n) ∙ ap mark_with h ∙ mark_back m)
mark_same m _ e = absurd cc

pub is_same : (k : Kind) (s : Sign) → is k s ≡ true → k ≡ of s
is_same k (Word w) e = word_same w k e
is_same k (Mark m) e = mark_same m k e

pub expect_sound : (s : Sign) (ts : List Token) → Sound (Next s ts) (expect s ts)
unfolding expect
expect_sound s [] = fails
expect_sound s (k ∷ r) = either (is k.kind s) (Ok (k.place, r)) (Err (fault (k ∷ r))) (λ e. done (token (is_same k.kind s e))) (λ _. fails)

some_sound : {A : Type 0} (f : Token → Option A) (k : Token) (r : List Token) (o : Option A) → f k ≡ o → Sound (Takes f (k ∷ r)) (or_fault (k ∷ r) o r)
some_sound f k r None e = fails
some_sound f k r (Some a) e = done (takes e)

pub take_sound : {A : Type 0} (f : Token → Option A) (ts : List Token) → Sound (Takes f ts) (take f ts)
take_sound f [] = fails
take_sound f (k ∷ r) = some_sound f k r (f k) refl
