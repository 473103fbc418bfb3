-- Marks.
use Rattle.std.proofs.Common.{◌≡◌, ℕ, ◌≤◌, Bool, true, false, cond, ◌&&◌, eqb, List, [], ◌∷◌, ◌++◌, length, drop, Option, Some, None, refl, sym, ap, subst, ◌∙◌, arith}
use Rattle.std.proofs.lemmas.Bool.{eqb-true}
use Rattle.std.proofs.lemmas.List.{append_cancel_left}
use Rattle.c_lex.specs.declared.token.Punct.{Punct}
use Rattle.c_lex.specs.declared.token.Punct.TheVariants as mark
use Rattle.c_lex.specs.Classes.{is_space, is_blank, is_stray, is_no_text, is_name_byte, is_letter, is_digit}
use Rattle.c_lex.specs.Spelling.{mark_text, IsLongest}
use Rattle.c_lex.specs.Reading.{with_equals, doubled, one_mark, two_mark, three_mark, or_else, one_at, two_at, mark_at, begins_token}

-- ---- what the tables find is spelled so

step : (shape : ℕ → List ℕ) (m : Punct) (a k : ℕ) (x : Punct) (other : Option Punct) → mark_text x ≡ shape k → (other ≡ Some m → mark_text m ≡ shape a) → cond (eqb a k) (Some x) other ≡ Some m → mark_text m ≡ shape a
step shape m a k x other e f h = go (eqb a k) refl h
  where
    go : (c : Bool) → eqb a k ≡ c → cond c (Some x) other ≡ Some m → mark_text m ≡ shape a
    go true p q = let s : x ≡ m = cc in ap mark_text (sym s) ∙ e ∙ ap shape (sym (eqb-true a k p))
    go false p q = f q

abbrev alone : ℕ → List ℕ
alone a = a ∷ []

abbrev and_equals : ℕ → List ℕ
and_equals a = a ∷ 61 ∷ []

abbrev twice : ℕ → List ℕ
twice a = a ∷ a ∷ []

abbrev twice_equals : ℕ → List ℕ
twice_equals a = a ∷ a ∷ 61 ∷ []

one_found : (a : ℕ) (m : Punct) → one_mark a ≡ Some m → mark_text m ≡ alone a
one_found a m = step alone m a 123 mark.BraceOpen _ refl (step alone m a 125 mark.BraceClose _ refl (step alone m a 40 mark.ParenOpen _ refl (step alone m a 41 mark.ParenClose _ refl (step alone m a 91 mark.BracketOpen _ refl (step alone m a 93 mark.BracketClose _ refl (step alone m a 59 mark.Semicolon _ refl (step alone m a 44 mark.Comma _ refl (step alone m a 58 mark.Colon _ refl (step alone m a 63 mark.Question _ refl (step alone m a 46 mark.Dot _ refl (step alone m a 126 mark.Tilde _ refl (step alone m a 33 mark.Bang _ refl (step alone m a 42 mark.Star _ refl (step alone m a 47 mark.Slash _ refl (step alone m a 37 mark.Percent _ refl (step alone m a 43 mark.Plus _ refl (step alone m a 45 mark.Minus _ refl (step alone m a 60 mark.Less _ refl (step alone m a 62 mark.Greater _ refl (step alone m a 38 mark.Amp _ refl (step alone m a 94 mark.Caret _ refl (step alone m a 124 mark.Pipe _ refl (step alone m a 61 mark.Assign _ refl (λ e. absurd cc))))))))))))))))))))))))

equals_found : (a : ℕ) (m : Punct) → with_equals a ≡ Some m → mark_text m ≡ and_equals a
equals_found a m = step and_equals m a 42 mark.StarAssign _ refl (step and_equals m a 47 mark.SlashAssign _ refl (step and_equals m a 37 mark.PercentAssign _ refl (step and_equals m a 43 mark.PlusAssign _ refl (step and_equals m a 45 mark.MinusAssign _ refl (step and_equals m a 38 mark.AmpAssign _ refl (step and_equals m a 94 mark.CaretAssign _ refl (step and_equals m a 124 mark.PipeAssign _ refl (step and_equals m a 60 mark.LessEqual _ refl (step and_equals m a 62 mark.GreaterEqual _ refl (step and_equals m a 61 mark.EqualEqual _ refl (step and_equals m a 33 mark.NotEqual _ refl (λ e. absurd cc))))))))))))

doubled_found : (a : ℕ) (m : Punct) → doubled a ≡ Some m → mark_text m ≡ twice a
doubled_found a m = step twice m a 43 mark.PlusPlus _ refl (step twice m a 45 mark.MinusMinus _ refl (step twice m a 60 mark.Shl _ refl (step twice m a 62 mark.Shr _ refl (step twice m a 38 mark.AndAnd _ refl (step twice m a 124 mark.OrOr _ refl (λ e. absurd cc))))))

shift_found : (a : ℕ) (m : Punct) → cond (eqb a 60) (Some mark.ShlAssign) (cond (eqb a 62) (Some mark.ShrAssign) None) ≡ Some m → mark_text m ≡ twice_equals a
shift_found a m = step twice_equals m a 60 mark.ShlAssign _ refl (step twice_equals m a 62 mark.ShrAssign _ refl (λ e. absurd cc))

two_found : (a b : ℕ) (m : Punct) → two_mark a b ≡ Some m → mark_text m ≡ a ∷ b ∷ []
two_found a b m h = go (eqb b 61) (eqb a b) (eqb a 45) (eqb b 62) refl refl refl refl h
  where
    go : (x y z w : Bool) → eqb b 61 ≡ x → eqb a b ≡ y → eqb a 45 ≡ z → eqb b 62 ≡ w → cond x (with_equals a) (cond y (doubled a) (cond (z && w) (Some mark.Arrow) None)) ≡ Some m → mark_text m ≡ a ∷ b ∷ []
    go true y z w p q r s k = equals_found a m k ∙ ap (λ (t : ℕ). a ∷ t ∷ []) (sym (eqb-true b 61 p))
    go false true z w p q r s k = doubled_found a m k ∙ ap (λ (t : ℕ). a ∷ t ∷ []) (eqb-true a b q)
    go false false true true p q r s k = let u : mark.Arrow ≡ m = cc in ap mark_text (sym u) ∙ (let c = eqb-true a 45 r in let d = eqb-true b 62 s in rw (c, d) refl)
    go false false true false p q r s k = absurd cc
    go false false false w p q r s k = absurd cc

three_found : (a b c : ℕ) (m : Punct) → three_mark a b c ≡ Some m → mark_text m ≡ a ∷ b ∷ c ∷ []
three_found a b c m h = go (eqb a b) (eqb c 61) refl refl h
  where
    go : (x y : Bool) → eqb a b ≡ x → eqb c 61 ≡ y → cond (x && y) (cond (eqb a 60) (Some mark.ShlAssign) (cond (eqb a 62) (Some mark.ShrAssign) None)) None ≡ Some m → mark_text m ≡ a ∷ b ∷ c ∷ []
    go true true p q k = shift_found a m k ∙ (let d = eqb-true a b p in let e = eqb-true c 61 q in rw (e, d) refl)
    go true false p q k = absurd cc
    go false y p q k = absurd cc

-- ---- marks of each length

abbrev of1 : List ℕ → Option Punct
of1 [] = None
of1 (a ∷ _) = one_mark a

abbrev of2 : List ℕ → Option Punct
of2 (a ∷ b ∷ _) = two_mark a b
of2 _ = None

abbrev of3 : List ℕ → Option Punct
of3 (a ∷ b ∷ c ∷ _) = three_mark a b c
of3 _ = None

abbrev by_length : List ℕ → Option (Punct × List ℕ)
by_length text = or_else (of3 text) (drop 3 text) (or_else (of2 text) (drop 2 text) (or_else (of1 text) (drop 1 text) None))

mark_by : (text : List ℕ) → mark_at text ≡ by_length text
unfolding mark_at two_at one_at
mark_by [] = refl
mark_by (a ∷ []) = refl
mark_by (a ∷ b ∷ []) = refl
mark_by (a ∷ b ∷ c ∷ r) = refl

-- m, which has this many bytes, stands at the front
record Stands (text : List ℕ) (m : Punct) (n : ℕ) : Type 0 where
  pub long : length (mark_text m) ≡ n
  pub parts : text ≡ mark_text m ++ drop n text

found1 : (text : List ℕ) (m : Punct) → of1 text ≡ Some m → Stands text m 1
found1 [] m e = absurd cc
found1 (a ∷ r) m e = let k = one_found a m e in record { long = ap length k; parts = ap (λ (t : List ℕ). t ++ r) (sym k) }

found2 : (text : List ℕ) (m : Punct) → of2 text ≡ Some m → Stands text m 2
found2 [] m e = absurd cc
found2 (a ∷ []) m e = absurd cc
found2 (a ∷ b ∷ r) m e = let k = two_found a b m e in record { long = ap length k; parts = ap (λ (t : List ℕ). t ++ r) (sym k) }

found3 : (text : List ℕ) (m : Punct) → of3 text ≡ Some m → Stands text m 3
found3 [] m e = absurd cc
found3 (a ∷ []) m e = absurd cc
found3 (a ∷ b ∷ []) m e = absurd cc
found3 (a ∷ b ∷ c ∷ r) m e = let k = three_found a b c m e in record { long = ap length k; parts = ap (λ (t : List ℕ). t ++ r) (sym k) }

-- what the tables find where a mark stands
data Length (m : Punct) (text : List ℕ) : Type 0 where
  has1 : length (mark_text m) ≡ 1 → of1 text ≡ Some m → Length m text
  has2 : length (mark_text m) ≡ 2 → of2 text ≡ Some m → Length m text
  has3 : length (mark_text m) ≡ 3 → of3 text ≡ Some m → Length m text

length_of : (m : Punct) (r : List ℕ) → Length m (mark_text m ++ r)
length_of mark.BraceOpen r = has1 refl refl
length_of mark.BraceClose r = has1 refl refl
length_of mark.ParenOpen r = has1 refl refl
length_of mark.ParenClose r = has1 refl refl
length_of mark.BracketOpen r = has1 refl refl
length_of mark.BracketClose r = has1 refl refl
length_of mark.Semicolon r = has1 refl refl
length_of mark.Comma r = has1 refl refl
length_of mark.Colon r = has1 refl refl
length_of mark.Question r = has1 refl refl
length_of mark.Dot r = has1 refl refl
length_of mark.Tilde r = has1 refl refl
length_of mark.Bang r = has1 refl refl
length_of mark.Star r = has1 refl refl
length_of mark.Slash r = has1 refl refl
length_of mark.Percent r = has1 refl refl
length_of mark.Plus r = has1 refl refl
length_of mark.Minus r = has1 refl refl
length_of mark.Less r = has1 refl refl
length_of mark.Greater r = has1 refl refl
length_of mark.Amp r = has1 refl refl
length_of mark.Caret r = has1 refl refl
length_of mark.Pipe r = has1 refl refl
length_of mark.Assign r = has1 refl refl
length_of mark.StarAssign r = has2 refl refl
length_of mark.SlashAssign r = has2 refl refl
length_of mark.PercentAssign r = has2 refl refl
length_of mark.PlusAssign r = has2 refl refl
length_of mark.MinusAssign r = has2 refl refl
length_of mark.AmpAssign r = has2 refl refl
length_of mark.CaretAssign r = has2 refl refl
length_of mark.PipeAssign r = has2 refl refl
length_of mark.LessEqual r = has2 refl refl
length_of mark.GreaterEqual r = has2 refl refl
length_of mark.EqualEqual r = has2 refl refl
length_of mark.NotEqual r = has2 refl refl
length_of mark.PlusPlus r = has2 refl refl
length_of mark.MinusMinus r = has2 refl refl
length_of mark.Shl r = has2 refl refl
length_of mark.Shr r = has2 refl refl
length_of mark.AndAnd r = has2 refl refl
length_of mark.OrOr r = has2 refl refl
length_of mark.Arrow r = has2 refl refl
length_of mark.ShlAssign r = has3 refl refl
length_of mark.ShrAssign r = has3 refl refl

length_in : (m : Punct) (r text : List ℕ) → text ≡ mark_text m ++ r → Length m text
length_in m r text e = subst (Length m) (sym e) (length_of m r)

-- no mark of three bytes stands here
most2 : (text : List ℕ) → of3 text ≡ None → (other : Punct) (r : List ℕ) → text ≡ mark_text other ++ r → length (mark_text other) ≤ 2
most2 text n other r e = go (length_in other r text e)
  where
    go : Length other text → length (mark_text other) ≤ 2
    go (has1 l h) = omega arith
    go (has2 l h) = omega arith
    go (has3 l h) = absurd cc

most1 : (text : List ℕ) → of3 text ≡ None → of2 text ≡ None → (other : Punct) (r : List ℕ) → text ≡ mark_text other ++ r → length (mark_text other) ≤ 1
most1 text n k other r e = go (length_in other r text e)
  where
    go : Length other text → length (mark_text other) ≤ 1
    go (has1 l h) = omega arith
    go (has2 l h) = absurd cc
    go (has3 l h) = absurd cc

most3 : (text : List ℕ) (other : Punct) (r : List ℕ) → text ≡ mark_text other ++ r → length (mark_text other) ≤ 3
most3 text other r e = go (length_in other r text e)
  where
    go : Length other text → length (mark_text other) ≤ 3
    go (has1 l h) = omega arith
    go (has2 l h) = omega arith
    go (has3 l h) = omega arith

none_here : (text : List ℕ) → of3 text ≡ None → of2 text ≡ None → of1 text ≡ None → (m : Punct) (r : List ℕ) → text ≡ mark_text m ++ r → ⊥
none_here text a b c m r e = go (length_in m r text e)
  where
    go : Length m text → ⊥
    go (has1 l h) = absurd cc
    go (has2 l h) = absurd cc
    go (has3 l h) = absurd cc

-- the longest mark at the front
pub record Longest (text : List ℕ) (m : Punct) (rest : List ℕ) : Type 0 where
  pub parts : text ≡ mark_text m ++ rest
  pub longest : IsLongest m text

pub data MarkRead (text : List ℕ) : Option (Punct × List ℕ) → Type 0 where
  a_mark : {m : Punct} {rest : List ℕ} → Longest text m rest → MarkRead text (Some (m, rest))
  no_mark : ((m : Punct) (r : List ℕ) → text ≡ mark_text m ++ r → ⊥) → MarkRead text None

longest_of : (text : List ℕ) (m : Punct) (n : ℕ) → Stands text m n → ((other : Punct) (r : List ℕ) → text ≡ mark_text other ++ r → length (mark_text other) ≤ n) → Longest text m (drop n text)
longest_of text m n s h = record { parts = s.parts; longest = λ other r e. let k = h other r e in let l = s.long in omega arith }

pub mark_right : (text : List ℕ) → MarkRead text (mark_at text)
mark_right text = subst (MarkRead text) (sym (mark_by text)) (go (of3 text) (of2 text) (of1 text) refl refl refl)
  where
    go : (x y z : Option Punct) → of3 text ≡ x → of2 text ≡ y → of1 text ≡ z → MarkRead text (or_else x (drop 3 text) (or_else y (drop 2 text) (or_else z (drop 1 text) None)))
    go (Some m) y z p q r = a_mark (longest_of text m 3 (found3 text m p) (most3 text))
    go None (Some m) z p q r = a_mark (longest_of text m 2 (found2 text m q) (most2 text p))
    go None None (Some m) p q r = a_mark (longest_of text m 1 (found1 text m r) (most1 text p q))
    go None None None p q r = no_mark (none_here text p q r)

same_length_marks : (text : List ℕ) (m n : Punct) (r s : List ℕ) → Longest text m r → Longest text n s → (m ≡ n) × (r ≡ s)
same_length_marks text m n r s a b = go (length_in m r text a.parts) (length_in n s text b.parts)
  where
    le : length (mark_text m) ≤ length (mark_text n)
    le = b.longest m r a.parts

    ge : length (mark_text n) ≤ length (mark_text m)
    ge = a.longest n s b.parts

    rests : m ≡ n → r ≡ s
    rests e = append_cancel_left (mark_text m) r s (sym a.parts ∙ b.parts ∙ ap (λ (x : Punct). mark_text x ++ s) (sym e))

    both : m ≡ n → (m ≡ n) × (r ≡ s)
    both e = (e, rests e)

    go : Length m text → Length n text → (m ≡ n) × (r ≡ s)
    go (has1 l h) (has1 k i) = both cc
    go (has2 l h) (has2 k i) = both cc
    go (has3 l h) (has3 k i) = both cc
    go (has1 l h) (has2 k i) = absurd (omega (arith, le, ge))
    go (has1 l h) (has3 k i) = absurd (omega (arith, le, ge))
    go (has2 l h) (has1 k i) = absurd (omega (arith, le, ge))
    go (has2 l h) (has3 k i) = absurd (omega (arith, le, ge))
    go (has3 l h) (has1 k i) = absurd (omega (arith, le, ge))
    go (has3 l h) (has2 k i) = absurd (omega (arith, le, ge))

pub mark_again : (text : List ℕ) (m : Punct) (rest : List ℕ) → Longest text m rest → mark_at text ≡ Some (m, rest)
mark_again text m rest l = go (mark_at text) (mark_right text)
  where
    go : (o : Option (Punct × List ℕ)) → MarkRead text o → o ≡ Some (m, rest)
    go o (a_mark {m = n} {rest = s} k) = let e = same_length_marks text n m s rest k l in let a = e.0 in let b = e.1 in cc
    go o (no_mark h) = absurd (h m rest l.parts)

-- ---- what a mark begins with

pub record MarkByte (b : ℕ) : Type 0 where
  pub no_space : is_space b ≡ false
  pub no_token : begins_token b ≡ false
  pub no_stray : is_stray b ≡ false

abbrev AllMark : List ℕ → Type 0
AllMark [] = ⊥
AllMark (b ∷ r) = MarkByte b

mark_byte : (m : Punct) (r : List ℕ) → AllMark (mark_text m ++ r)
unfolding is_space is_blank is_stray is_no_text begins_token is_name_byte is_letter is_digit
mark_byte mark.BraceOpen r = record { no_space = refl; no_token = refl; no_stray = refl }
mark_byte mark.BraceClose r = record { no_space = refl; no_token = refl; no_stray = refl }
mark_byte mark.ParenOpen r = record { no_space = refl; no_token = refl; no_stray = refl }
mark_byte mark.ParenClose r = record { no_space = refl; no_token = refl; no_stray = refl }
mark_byte mark.BracketOpen r = record { no_space = refl; no_token = refl; no_stray = refl }
mark_byte mark.BracketClose r = record { no_space = refl; no_token = refl; no_stray = refl }
mark_byte mark.Semicolon r = record { no_space = refl; no_token = refl; no_stray = refl }
mark_byte mark.Comma r = record { no_space = refl; no_token = refl; no_stray = refl }
mark_byte mark.Colon r = record { no_space = refl; no_token = refl; no_stray = refl }
mark_byte mark.Question r = record { no_space = refl; no_token = refl; no_stray = refl }
mark_byte mark.Dot r = record { no_space = refl; no_token = refl; no_stray = refl }
mark_byte mark.Tilde r = record { no_space = refl; no_token = refl; no_stray = refl }
mark_byte mark.Bang r = record { no_space = refl; no_token = refl; no_stray = refl }
mark_byte mark.Star r = record { no_space = refl; no_token = refl; no_stray = refl }
mark_byte mark.Slash r = record { no_space = refl; no_token = refl; no_stray = refl }
mark_byte mark.Percent r = record { no_space = refl; no_token = refl; no_stray = refl }
mark_byte mark.Plus r = record { no_space = refl; no_token = refl; no_stray = refl }
mark_byte mark.Minus r = record { no_space = refl; no_token = refl; no_stray = refl }
mark_byte mark.Less r = record { no_space = refl; no_token = refl; no_stray = refl }
mark_byte mark.Greater r = record { no_space = refl; no_token = refl; no_stray = refl }
mark_byte mark.Amp r = record { no_space = refl; no_token = refl; no_stray = refl }
mark_byte mark.Caret r = record { no_space = refl; no_token = refl; no_stray = refl }
mark_byte mark.Pipe r = record { no_space = refl; no_token = refl; no_stray = refl }
mark_byte mark.Assign r = record { no_space = refl; no_token = refl; no_stray = refl }
mark_byte mark.StarAssign r = record { no_space = refl; no_token = refl; no_stray = refl }
mark_byte mark.SlashAssign r = record { no_space = refl; no_token = refl; no_stray = refl }
mark_byte mark.PercentAssign r = record { no_space = refl; no_token = refl; no_stray = refl }
mark_byte mark.PlusAssign r = record { no_space = refl; no_token = refl; no_stray = refl }
mark_byte mark.MinusAssign r = record { no_space = refl; no_token = refl; no_stray = refl }
mark_byte mark.AmpAssign r = record { no_space = refl; no_token = refl; no_stray = refl }
mark_byte mark.CaretAssign r = record { no_space = refl; no_token = refl; no_stray = refl }
mark_byte mark.PipeAssign r = record { no_space = refl; no_token = refl; no_stray = refl }
mark_byte mark.LessEqual r = record { no_space = refl; no_token = refl; no_stray = refl }
mark_byte mark.GreaterEqual r = record { no_space = refl; no_token = refl; no_stray = refl }
mark_byte mark.EqualEqual r = record { no_space = refl; no_token = refl; no_stray = refl }
mark_byte mark.NotEqual r = record { no_space = refl; no_token = refl; no_stray = refl }
mark_byte mark.PlusPlus r = record { no_space = refl; no_token = refl; no_stray = refl }
mark_byte mark.MinusMinus r = record { no_space = refl; no_token = refl; no_stray = refl }
mark_byte mark.Shl r = record { no_space = refl; no_token = refl; no_stray = refl }
mark_byte mark.Shr r = record { no_space = refl; no_token = refl; no_stray = refl }
mark_byte mark.AndAnd r = record { no_space = refl; no_token = refl; no_stray = refl }
mark_byte mark.OrOr r = record { no_space = refl; no_token = refl; no_stray = refl }
mark_byte mark.Arrow r = record { no_space = refl; no_token = refl; no_stray = refl }
mark_byte mark.ShlAssign r = record { no_space = refl; no_token = refl; no_stray = refl }
mark_byte mark.ShrAssign r = record { no_space = refl; no_token = refl; no_stray = refl }

pub begins_mark : (b : ℕ) (body : List ℕ) (m : Punct) (r : List ℕ) → b ∷ body ≡ mark_text m ++ r → MarkByte b
begins_mark b body m r e = subst AllMark (sym e) (mark_byte m r)

-- a mark of one byte stands where the table finds one
pub one_begins : (b : ℕ) (r : List ℕ) (m : Punct) → one_mark b ≡ Some m → b ∷ r ≡ mark_text m ++ r
one_begins b r m e = ap (λ (t : List ℕ). t ++ r) (sym (one_found b m e))

pub no_empty_mark : (m : Punct) (r : List ℕ) → [] ≡ mark_text m ++ r → ⊥
no_empty_mark m r e = subst AllMark (sym e) (mark_byte m r)
