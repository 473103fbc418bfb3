-- The first token of a part: what tests say of a token with a value.
use Rattle.std.proofs.Common.{Bool, List, None, Option, Some, [], arith, false, nat_eq, not, refl, true, ℕ, ◌≡◌, ◌<◌, ◌∷◌, ◌+◌, ◌||◌, ◌∙◌, if◌then◌else◌}
use Rattle.std.proofs.lemmas.Bool.{eqb-true}
use Rattle.std.specs.Option.{is_some}
use Rattle.cm_base.specs.declared.place.Place.{Place}
use Rattle.c_lex.specs.declared.token.Keyword.{Keyword}
use Rattle.c_lex.specs.declared.token.Punct.{Punct}
use Rattle.c_lex.specs.declared.token.Kind.{Kind}
use Rattle.c_lex.specs.declared.token.Token.{Token}
use Rattle.c_grammar.specs.declared.tokens.Sign.{Sign}
use Rattle.c_grammar.specs.declared.tokens.Sign.TheVariants.{Mark}
use Rattle.c_ast.specs.declared.expr.Name.{Name}
use Rattle.c_ast.specs.declared.expr.BinOp.{BinOp}
use Rattle.c_ast.specs.declared.expr.AssignOp.{AssignOp}
use Rattle.c_ast.specs.declared.expr.SpecWord.{SpecWord}
use Rattle.c_ast.specs.declared.expr.Expr.{Expr}
use Rattle.c_grammar.specs.Tokens.{access_token, after, assign_op, assign_op_of, at, begins_access, begins_expr, begins_spec, char_by, char_of, expr_token, has, is, is_name, known, mark_by, name_by, name_of, number_by, number_of, op_at, op_of, placed, spec_token, spec_word, spec_word_of, step_op, step_token, string_by, string_of, type_by, type_of, un_op, word_by}
use Rattle.c_grammar.specs.Grammar.{Next, Takes, takes, token}
use Rattle.grammar_laws.specs.Follow.{follow, level, mark_level}
use Rattle.grammar_laws.proofs.Steps.{takes_at}
use Rattle.c_lex.specs.declared.token.Keyword.TheVariants as word
use Rattle.c_lex.specs.declared.token.Punct.TheVariants as mark
use Rattle.c_lex.specs.declared.token.Kind.TheVariants as kind

-- the token after a sign
pub after_sign : {s : Sign} {ts r : List Token} {p : Place} (test : List Token → Bool) (b : Bool) → Next s ts p r → test r ≡ b → after test ts ≡ b
after_sign test b (token e) h = h

abbrev pub is_new : List (List ℕ) → Token → Bool
is_new names k = is_name names k.kind

guard_false : {A : Type 0} (b : Bool) (x y : A) → (if b then None else Some x) ≡ Some y → b ≡ false
guard_false true x y e = absurd cc
guard_false false x y e = refl

guard_true : {A : Type 0} (b : Bool) (x y : A) → (if b then Some x else None) ≡ Some y → b ≡ true
guard_true true x y e = refl
guard_true false x y e = absurd cc

-- ---- tokens with a value

pub name_at : (names : List (List ℕ)) {ts r : List Token} {n : Name} (test : Token → Bool) (b : Bool) →
    ((q : Place) (x : List ℕ) → known names x ≡ false → test (record { kind = kind.Name x; place = q }) ≡ b) → Takes (name_of names) ts n r → at test ts ≡ b
name_at names {n = n} test b h d = takes_at test b (λ k e. go k.place k.kind e) d
  where
    go : (q : Place) (c : Kind) → name_by names q c ≡ Some n → test (record { kind = c; place = q }) ≡ b
    go q (kind.Name x) e = h q x (guard_false (known names x) _ _ e)
    go q _ e = absurd cc

pub type_at : (names : List (List ℕ)) {ts r : List Token} {n : Name} (test : Token → Bool) (b : Bool) →
    ((q : Place) (x : List ℕ) → known names x ≡ true → test (record { kind = kind.Name x; place = q }) ≡ b) → Takes (type_of names) ts n r → at test ts ≡ b
type_at names {n = n} test b h d = takes_at test b (λ k e. go k.place k.kind e) d
  where
    go : (q : Place) (c : Kind) → type_by names q c ≡ Some n → test (record { kind = c; place = q }) ≡ b
    go q (kind.Name x) e = h q x (guard_true (known names x) _ _ e)
    go q _ e = absurd cc

pub number_at : {ts r : List Token} {a : Expr} (test : Token → Bool) (b : Bool) →
    ((q : Place) (v : ℕ) (u l : Bool) → test (record { kind = kind.Number v u l; place = q }) ≡ b) → Takes number_of ts a r → at test ts ≡ b
number_at {a = a} test b h d = takes_at test b (λ k e. go k.place k.kind e) d
  where
    go : (q : Place) (c : Kind) → number_by q c ≡ Some a → test (record { kind = c; place = q }) ≡ b
    go q (kind.Number v u l) e = h q v u l
    go q _ e = absurd cc

pub char_at : {ts r : List Token} {a : Expr} (test : Token → Bool) (b : Bool) → ((q : Place) (v : ℕ) → test (record { kind = kind.Char v; place = q }) ≡ b) → Takes char_of ts a r → at test ts ≡ b
char_at {a = a} test b h d = takes_at test b (λ k e. go k.place k.kind e) d
  where
    go : (q : Place) (c : Kind) → char_by q c ≡ Some a → test (record { kind = c; place = q }) ≡ b
    go q (kind.Char v) e = h q v
    go q _ e = absurd cc

pub string_at : {ts r : List Token} {a : Place × List ℕ} (test : Token → Bool) (b : Bool) → ((q : Place) (s : List ℕ) → test (record { kind = kind.Str s; place = q }) ≡ b) → Takes string_of ts a r → at test ts ≡ b
string_at {a = a} test b h d = takes_at test b (λ k e. go k.place k.kind e) d
  where
    go : (q : Place) (c : Kind) → string_by q c ≡ Some a → test (record { kind = c; place = q }) ≡ b
    go q (kind.Str s) e = h q s
    go q _ e = absurd cc

placed_some : {A : Type 0} (q : Place) (x : Option A) (o : Place × A) → placed q x ≡ Some o → is_some x ≡ true
placed_some q None o e = absurd cc
placed_some q (Some a) o e = refl

pub mark_at : {A : Type 0} {ts r : List Token} {o : Place × A} (f : Punct → Option A) (test : Token → Bool) (b : Bool) →
    ((q : Place) (m : Punct) → is_some (f m) ≡ true → test (record { kind = kind.Mark m; place = q }) ≡ b) → Takes (λ k. mark_by f k.place k.kind) ts o r → at test ts ≡ b
mark_at {o = o} f test b h d = takes_at test b (λ k e. go k.place k.kind e) d
  where
    go : (q : Place) (c : Kind) → mark_by f q c ≡ Some o → test (record { kind = c; place = q }) ≡ b
    go q (kind.Mark m) e = h q m (placed_some q (f m) o e)
    go q _ e = absurd cc

pub word_at : {ts r : List Token} {o : Place × SpecWord} (test : Token → Bool) (b : Bool) →
    ((q : Place) (w : Keyword) → is_some (spec_word w) ≡ true → test (record { kind = kind.Word w; place = q }) ≡ b) → Takes spec_word_of ts o r → at test ts ≡ b
word_at {o = o} test b h d = takes_at test b (λ k e. go k.place k.kind e) d
  where
    go : (q : Place) (c : Kind) → word_by q c ≡ Some o → test (record { kind = c; place = q }) ≡ b
    go q (kind.Word w) e = h q w (placed_some q (spec_word w) o e)
    go q _ e = absurd cc

-- ---- operators

-- what a prefix operator's mark is: it begins an expression, is no "++" and no "("
pub un_mark : (names : List (List ℕ)) (q : Place) (m : Punct) → is_some (un_op m) ≡ true →
    (expr_token names (record { kind = kind.Mark m; place = q }) ≡ true) × (step_token (record { kind = kind.Mark m; place = q }) ≡ false) × (is (kind.Mark m) (Mark mark.ParenOpen) ≡ false)
un_mark names q mark.Amp e = (refl, refl, refl)
un_mark names q mark.Star e = (refl, refl, refl)
un_mark names q mark.Plus e = (refl, refl, refl)
un_mark names q mark.Minus e = (refl, refl, refl)
un_mark names q mark.Tilde e = (refl, refl, refl)
un_mark names q mark.Bang e = (refl, refl, refl)
un_mark names q _ e = absurd cc

-- what "++" and "--" are
pub record IsStep (names : List (List ℕ)) (k : Token) : Type 0 where
  pub expr : expr_token names k ≡ true
  pub step : step_token k ≡ true
  pub access : access_token k ≡ true
  pub no_paren : is k.kind (Mark mark.ParenOpen) ≡ false
  pub no_bracket : is k.kind (Mark mark.BracketOpen) ≡ false
  pub no_dot : is k.kind (Mark mark.Dot) ≡ false
  pub no_arrow : is k.kind (Mark mark.Arrow) ≡ false

pub step_mark : (names : List (List ℕ)) (q : Place) (m : Punct) → is_some (step_op m) ≡ true → IsStep names (record { kind = kind.Mark m; place = q })
step_mark names q mark.PlusPlus e = record { expr = refl; step = refl; access = refl; no_paren = refl; no_bracket = refl; no_dot = refl; no_arrow = refl }
step_mark names q mark.MinusMinus e = record { expr = refl; step = refl; access = refl; no_paren = refl; no_bracket = refl; no_dot = refl; no_arrow = refl }
step_mark names q _ e = absurd cc

-- the level of an assignment operator, and of an operator of level l
pub assign_level : (m : Punct) → is_some (assign_op m) ≡ true → mark_level m ≡ 2
assign_level mark.Assign e = refl
assign_level mark.StarAssign e = refl
assign_level mark.SlashAssign e = refl
assign_level mark.PercentAssign e = refl
assign_level mark.PlusAssign e = refl
assign_level mark.MinusAssign e = refl
assign_level mark.ShlAssign e = refl
assign_level mark.ShrAssign e = refl
assign_level mark.AmpAssign e = refl
assign_level mark.CaretAssign e = refl
assign_level mark.PipeAssign e = refl
assign_level _ e = absurd cc

guarded : {A : Type 0} (b : Bool) (x : A) → is_some (if b then Some x else None) ≡ true → b ≡ true
guarded true x e = refl
guarded false x e = absurd cc

level_by : {A : Type 0} (k l m : ℕ) (x : A) → m + k ≡ 13 → is_some (if nat_eq k l then Some x else None) ≡ true → m + l ≡ 13
level_by k l m x h e = let same : k ≡ l = eqb-true _ _ (guarded (nat_eq k l) x e) in omega arith

pub op_level : (l : ℕ) (m : Punct) → is_some (op_at l m) ≡ true → mark_level m + l ≡ 13
op_level l mark.Star e = level_by 0 l 13 _ refl e
op_level l mark.Slash e = level_by 0 l 13 _ refl e
op_level l mark.Percent e = level_by 0 l 13 _ refl e
op_level l mark.Plus e = level_by 1 l 12 _ refl e
op_level l mark.Minus e = level_by 1 l 12 _ refl e
op_level l mark.Shl e = level_by 2 l 11 _ refl e
op_level l mark.Shr e = level_by 2 l 11 _ refl e
op_level l mark.Less e = level_by 3 l 10 _ refl e
op_level l mark.Greater e = level_by 3 l 10 _ refl e
op_level l mark.LessEqual e = level_by 3 l 10 _ refl e
op_level l mark.GreaterEqual e = level_by 3 l 10 _ refl e
op_level l mark.EqualEqual e = level_by 4 l 9 _ refl e
op_level l mark.NotEqual e = level_by 4 l 9 _ refl e
op_level l mark.Amp e = level_by 5 l 8 _ refl e
op_level l mark.Caret e = level_by 6 l 7 _ refl e
op_level l mark.Pipe e = level_by 7 l 6 _ refl e
op_level l mark.AndAnd e = level_by 8 l 5 _ refl e
op_level l mark.OrOr e = level_by 9 l 4 _ refl e
op_level l _ e = absurd cc

pub some_placed : {A : Type 0} (q : Place) (x : Option A) → is_some (placed q x) ≡ is_some x
some_placed q None = refl
some_placed q (Some a) = refl

-- a token that is looser than an operator of level l is none
pub not_op : (l : ℕ) (ts : List Token) → follow ts + l < 13 → has (op_of l) ts ≡ false
not_op l [] lt = refl
not_op l (k ∷ r) lt = go k.kind lt
  where
    mark_by_level : (m : Punct) (b : Bool) → is_some (op_at l m) ≡ b → mark_level m + l < 13 → b ≡ false
    mark_by_level m true e lt = let same : mark_level m + l ≡ 13 = op_level l m e in absurd (omega arith)
    mark_by_level m false e lt = refl

    go : (c : Kind) → level c + l < 13 → is_some (mark_by (op_at l) k.place c) ≡ false
    go (kind.Mark m) lt = some_placed k.place (op_at l m) ∙ mark_by_level m _ refl lt
    go _ lt = refl

-- a token that is looser than an assignment is none
pub not_assign : (ts : List Token) → follow ts < 2 → has assign_op_of ts ≡ false
not_assign [] lt = refl
not_assign (k ∷ r) lt = go k.kind lt
  where
    mark_by_level : (m : Punct) (b : Bool) → is_some (assign_op m) ≡ b → mark_level m < 2 → b ≡ false
    mark_by_level m true e lt = let same : mark_level m ≡ 2 = assign_level m e in absurd (omega arith)
    mark_by_level m false e lt = refl

    go : (c : Kind) → level c < 2 → is_some (mark_by assign_op k.place c) ≡ false
    go (kind.Mark m) lt = some_placed k.place (assign_op m) ∙ mark_by_level m _ refl lt
    go _ lt = refl

pub assign_follow : {ts r : List Token} {o : Place × AssignOp} → Takes assign_op_of ts o r → follow ts ≡ 2
assign_follow {o = o} (takes {k = k} e) = go k.place k.kind e
  where
    go : (q : Place) (c : Kind) → mark_by assign_op q c ≡ Some o → level c ≡ 2
    go q (kind.Mark m) e = assign_level m (placed_some q (assign_op m) o e)
    go q _ e = absurd cc

pub op_follow : (l : ℕ) {ts r : List Token} {o : Place × BinOp} → Takes (op_of l) ts o r → follow ts + l ≡ 13
op_follow l {o = o} (takes {k = k} e) = go k.place k.kind e
  where
    go : (q : Place) (c : Kind) → mark_by (op_at l) q c ≡ Some o → level c + l ≡ 13
    go q (kind.Mark m) e = op_level l m (placed_some q (op_at l m) o e)
    go q _ e = absurd cc

-- a token that is looser than an access begins none
pub not_access : (ts : List Token) → follow ts < 14 → begins_access ts ≡ false
not_access [] lt = refl
not_access (k ∷ r) lt = go k.kind lt
  where
    go : (c : Kind) → level c < 14 → access_token (record { kind = c; place = k.place }) ≡ false
    go (kind.Mark mark.ParenOpen) lt = absurd (omega arith)
    go (kind.Mark mark.BracketOpen) lt = absurd (omega arith)
    go (kind.Mark mark.Dot) lt = absurd (omega arith)
    go (kind.Mark mark.Arrow) lt = absurd (omega arith)
    go (kind.Mark mark.PlusPlus) lt = absurd (omega arith)
    go (kind.Mark mark.MinusMinus) lt = absurd (omega arith)
    go (kind.Mark _) lt = refl
    go _ lt = refl

-- what begins an expression begins no specifier
pub not_spec : (names : List (List ℕ)) (ts : List Token) → begins_expr names ts ≡ true → begins_spec names ts ≡ false
not_spec names [] h = refl
not_spec names (k ∷ r) h = go k.kind h
  where
    go : (c : Kind) → expr_token names (record { kind = c; place = k.place }) ≡ true → spec_token names (record { kind = c; place = k.place }) ≡ false
    go (kind.Name x) h = by_known (known names x) h
      where
        by_known : (b : Bool) → (not b || false || false || false || false || false) ≡ true → (false || false || false || false || b) ≡ false
        by_known true e = absurd cc
        by_known false e = refl
    go (kind.Word word.Sizeof) h = refl
    go (kind.Word _) h = absurd cc
    go _ h = refl
