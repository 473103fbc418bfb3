-- The next tokens, and what they begin.
use Rattle.std.specs.Prelude.{◌≡◌, ℕ, Bool, true, false, not, ◌&&◌, ◌||◌, List, [], ◌∷◌, ◌++◌, length, Option, Some, None, Result, Ok, Err, nat_eq, if◌then◌else◌}
use Rattle.std.specs.List.{list_any}
use Rattle.std.specs.Option.{is_some}
use Rattle.std.specs.Str.{bytes_eq}
use Rattle.cm_base.specs.declared.place.Place.{Place}
use Rattle.c_lex.specs.declared.token.Keyword.{Keyword}
use Rattle.c_lex.specs.declared.token.Keyword.TheVariants as word
use Rattle.c_lex.specs.declared.token.Punct.{Punct}
use Rattle.c_lex.specs.declared.token.Punct.TheVariants as mark
use Rattle.c_lex.specs.declared.token.Header.{Header}
use Rattle.c_lex.specs.declared.token.Kind.{Kind}
use Rattle.c_lex.specs.declared.token.Kind.TheVariants as kind
use Rattle.c_lex.specs.declared.token.Token.{Token}
use Rattle.c_ast.specs.declared.expr.Name.{Name}
use Rattle.c_ast.specs.declared.expr.BinOp.{BinOp}
use Rattle.c_ast.specs.declared.expr.BinOp.TheVariants as bin
use Rattle.c_ast.specs.declared.expr.AssignOp.{AssignOp}
use Rattle.c_ast.specs.declared.expr.AssignOp.TheVariants as assigns
use Rattle.c_ast.specs.declared.expr.UnOp.{UnOp}
use Rattle.c_ast.specs.declared.expr.UnOp.TheVariants as un
use Rattle.c_ast.specs.declared.expr.StepOp.{StepOp}
use Rattle.c_ast.specs.declared.expr.StepOp.TheVariants as by
use Rattle.c_ast.specs.declared.expr.SpecWord.{SpecWord}
use Rattle.c_ast.specs.declared.expr.SpecWord.TheVariants as spec
use Rattle.c_ast.specs.declared.expr.Expr.{Expr}
use Rattle.c_ast.specs.declared.expr.Expr.TheVariants as tree
use Rattle.c_grammar.specs.declared.tokens.Sign.{Sign}
use Rattle.c_grammar.specs.declared.tokens.Sign.TheVariants.{Word, Mark}
use Rattle.c_grammar.specs.declared.tokens.Fault.{Fault}
use Rattle.c_grammar.specs.declared.tokens.Fault.TheVariants.{Syntax, Deep}
use Rattle.c_grammar.specs.declared.tokens.ParseError.{ParseError}
use Rattle.c_grammar.specs.declared.tokens.ParseError.TheVariants as errors

-- ---- what a reader answers

infixl 10 ◌>>=◌
abbrev pub ◌>>=◌ : {A B : Type 0} → Result A Fault → (A → Result B Fault) → Result B Fault
(Ok x) >>= f = f x
(Err e) >>= f = Err e

abbrev pub Fails : {Y : Type 0} → ParseError → Result Y Fault → Type 0
Fails errors.Memory read = Unit {0}
Fails (errors.Fault f) read = read ≡ Err f

-- What a function returned, seen by view, is what reading gives, unless memory ran out.
abbrev pub Gives : {X Y : Type 0} → (X → Y) → Result X ParseError → Result Y Fault → Type 0
Gives view (Ok x) read = read ≡ Ok (view x)
Gives view (Err e) read = Fails e read

-- a value read from the front, and the tokens after it
abbrev pub Read : Type 0 → Type 0
Read X = Result (X × List Token) Fault

-- no token can stand here
abbrev pub fault : List Token → Fault
fault ts = Syntax (length ts)

-- the next token is nested too deeply
abbrev pub deep : List Token → Fault
deep ts = Deep (length ts)

-- ---- signs: words and marks

-- the kind of a word's or a mark's token
abbrev pub of : Sign → Kind
of (Word w) = kind.Word w
of (Mark m) = kind.Mark m

abbrev pub word_code : Keyword → ℕ
word_code word.Typedef = 0
word_code word.Extern = 1
word_code word.Static = 2
word_code word.Inline = 3
word_code word.Const = 4
word_code word.Volatile = 5
word_code word.Void = 6
word_code word.Char = 7
word_code word.Short = 8
word_code word.Int = 9
word_code word.Long = 10
word_code word.Signed = 11
word_code word.Unsigned = 12
word_code word.Struct = 13
word_code word.Enum = 14
word_code word.Attribute = 15
word_code word.Return = 16
word_code word.Break = 17
word_code word.Continue = 18
word_code word.If = 19
word_code word.Else = 20
word_code word.While = 21
word_code word.Do = 22
word_code word.For = 23
word_code word.Switch = 24
word_code word.Case = 25
word_code word.Default = 26
word_code word.Sizeof = 27

abbrev pub mark_code : Punct → ℕ
mark_code mark.BraceOpen = 0
mark_code mark.BraceClose = 1
mark_code mark.ParenOpen = 2
mark_code mark.ParenClose = 3
mark_code mark.BracketOpen = 4
mark_code mark.BracketClose = 5
mark_code mark.Semicolon = 6
mark_code mark.Comma = 7
mark_code mark.Colon = 8
mark_code mark.Question = 9
mark_code mark.Dot = 10
mark_code mark.Arrow = 11
mark_code mark.PlusPlus = 12
mark_code mark.MinusMinus = 13
mark_code mark.Tilde = 14
mark_code mark.Bang = 15
mark_code mark.Star = 16
mark_code mark.Slash = 17
mark_code mark.Percent = 18
mark_code mark.Plus = 19
mark_code mark.Minus = 20
mark_code mark.Shl = 21
mark_code mark.Shr = 22
mark_code mark.Less = 23
mark_code mark.Greater = 24
mark_code mark.LessEqual = 25
mark_code mark.GreaterEqual = 26
mark_code mark.EqualEqual = 27
mark_code mark.NotEqual = 28
mark_code mark.Amp = 29
mark_code mark.Caret = 30
mark_code mark.Pipe = 31
mark_code mark.AndAnd = 32
mark_code mark.OrOr = 33
mark_code mark.Assign = 34
mark_code mark.StarAssign = 35
mark_code mark.SlashAssign = 36
mark_code mark.PercentAssign = 37
mark_code mark.PlusAssign = 38
mark_code mark.MinusAssign = 39
mark_code mark.ShlAssign = 40
mark_code mark.ShrAssign = 41
mark_code mark.AmpAssign = 42
mark_code mark.CaretAssign = 43
mark_code mark.PipeAssign = 44

abbrev pub is_word : Keyword → Kind → Bool
is_word w (kind.Word v) = nat_eq (word_code v) (word_code w)
is_word w _ = false

abbrev pub is_mark : Punct → Kind → Bool
is_mark m (kind.Mark n) = nat_eq (mark_code n) (mark_code m)
is_mark m _ = false

abbrev pub is : Kind → Sign → Bool
is k (Word w) = is_word w k
is k (Mark m) = is_mark m k

-- a test of the next token
abbrev pub at : (Token → Bool) → List Token → Bool
at test [] = false
at test (k ∷ r) = test k

-- a test of the token after the next
abbrev pub after : (List Token → Bool) → List Token → Bool
after test [] = false
after test (k ∷ r) = test r

abbrev pub is_sign : Sign → Token → Bool
is_sign s k = is k.kind s

abbrev pub next_is : Sign → List Token → Bool
next_is s ts = at (is_sign s) ts

-- the place of the next token, and what follows it
abbrev pub next : List Token → Read Place
next [] = Err (fault [])
next (k ∷ r) = Ok (k.place, r)

unfoldable pub expect : Sign → List Token → Read Place
expect s ts = if next_is s ts then next ts else Err (fault ts)

-- ---- tokens with a value

-- whether f gives the next token a value, and that value
abbrev pub has : {A : Type 0} → (Token → Option A) → List Token → Bool
has f ts = at (λ k. is_some (f k)) ts

abbrev pub or_fault : {A : Type 0} → List Token → Option A → List Token → Read A
or_fault ts None r = Err (fault ts)
or_fault ts (Some a) r = Ok (a, r)

abbrev pub take : {A : Type 0} → (Token → Option A) → List Token → Read A
take f [] = Err (fault [])
take f (k ∷ r) = or_fault (k ∷ r) (f k) r

-- among the typedef names
abbrev pub known : List (List ℕ) → List ℕ → Bool
known names x = list_any (bytes_eq x) names

-- the names with one more, and with more of them; each is kept once, where it was first declared
unfoldable pub with_name : List (List ℕ) → List ℕ → List (List ℕ)
with_name names x = if known names x then names else names ++ x ∷ []

abbrev pub with_names : List (List ℕ) → List (List ℕ) → List (List ℕ)
with_names names [] = names
with_names names (x ∷ xs) = with_names (with_name names x) xs

abbrev pub named : Place → List ℕ → Name
named p x = record { place = p; text = x }

abbrev pub name_by : List (List ℕ) → Place → Kind → Option Name
name_by names p (kind.Name x) = if known names x then None else Some (named p x)
name_by names p _ = None

-- NAME: a name that no typedef declares
abbrev pub name_of : List (List ℕ) → Token → Option Name
name_of names k = name_by names k.place k.kind

abbrev pub is_name : List (List ℕ) → Kind → Bool
is_name names (kind.Name x) = not (known names x)
is_name names _ = false

abbrev pub next_is_name : List (List ℕ) → List Token → Bool
next_is_name names ts = at (λ k. is_name names k.kind) ts

abbrev pub type_by : List (List ℕ) → Place → Kind → Option Name
type_by names p (kind.Name x) = if known names x then Some (named p x) else None
type_by names p _ = None

-- TYPENAME: a name that a typedef declares
abbrev pub type_of : List (List ℕ) → Token → Option Name
type_of names k = type_by names k.place k.kind

abbrev pub is_type : List (List ℕ) → Kind → Bool
is_type names (kind.Name x) = known names x
is_type names _ = false

abbrev pub number_by : Place → Kind → Option Expr
number_by p (kind.Number v u l) = Some (tree.Number p v (record { unsigned = u; long = l }))
number_by p _ = None

-- NUMBER
abbrev pub number_of : Token → Option Expr
number_of k = number_by k.place k.kind

abbrev pub char_by : Place → Kind → Option Expr
char_by p (kind.Char c) = Some (tree.Char p c)
char_by p _ = None

-- CHAR
abbrev pub char_of : Token → Option Expr
char_of k = char_by k.place k.kind

abbrev pub string_by : Place → Kind → Option (Place × List ℕ)
string_by p (kind.Str s) = Some (p, s)
string_by p _ = None

-- STRING
abbrev pub string_of : Token → Option (Place × List ℕ)
string_of k = string_by k.place k.kind

abbrev pub include_by : Place → Kind → Option (Place × Header)
include_by p (kind.Include h) = Some (p, h)
include_by p _ = None

-- INCLUDE
abbrev pub include_of : Token → Option (Place × Header)
include_of k = include_by k.place k.kind

abbrev pub placed : {A : Type 0} → Place → Option A → Option (Place × A)
placed p None = None
placed p (Some a) = Some (p, a)

abbrev pub mark_by : {A : Type 0} → (Punct → Option A) → Place → Kind → Option (Place × A)
mark_by f p (kind.Mark m) = placed p (f m)
mark_by f p _ = None

-- the operators of a level, 0 the tightest
abbrev pub bin_op : Punct → Option (ℕ × BinOp)
bin_op mark.Star = Some (0, bin.Mul)
bin_op mark.Slash = Some (0, bin.Div)
bin_op mark.Percent = Some (0, bin.Rem)
bin_op mark.Plus = Some (1, bin.Add)
bin_op mark.Minus = Some (1, bin.Sub)
bin_op mark.Shl = Some (2, bin.Shl)
bin_op mark.Shr = Some (2, bin.Shr)
bin_op mark.Less = Some (3, bin.Less)
bin_op mark.Greater = Some (3, bin.Greater)
bin_op mark.LessEqual = Some (3, bin.LessEqual)
bin_op mark.GreaterEqual = Some (3, bin.GreaterEqual)
bin_op mark.EqualEqual = Some (4, bin.Equal)
bin_op mark.NotEqual = Some (4, bin.NotEqual)
bin_op mark.Amp = Some (5, bin.BitAnd)
bin_op mark.Caret = Some (6, bin.BitXor)
bin_op mark.Pipe = Some (7, bin.BitOr)
bin_op mark.AndAnd = Some (8, bin.AndThen)
bin_op mark.OrOr = Some (9, bin.OrElse)
bin_op _ = None

abbrev pub assign_op : Punct → Option AssignOp
assign_op mark.Assign = Some assigns.Set
assign_op mark.StarAssign = Some assigns.Mul
assign_op mark.SlashAssign = Some assigns.Div
assign_op mark.PercentAssign = Some assigns.Rem
assign_op mark.PlusAssign = Some assigns.Add
assign_op mark.MinusAssign = Some assigns.Sub
assign_op mark.ShlAssign = Some assigns.Shl
assign_op mark.ShrAssign = Some assigns.Shr
assign_op mark.AmpAssign = Some assigns.And
assign_op mark.CaretAssign = Some assigns.Xor
assign_op mark.PipeAssign = Some assigns.Or
assign_op _ = None

abbrev pub un_op : Punct → Option UnOp
un_op mark.Amp = Some un.Address
un_op mark.Star = Some un.Deref
un_op mark.Plus = Some un.Plus
un_op mark.Minus = Some un.Minus
un_op mark.Tilde = Some un.Complement
un_op mark.Bang = Some un.Not
un_op _ = None

abbrev pub step_op : Punct → Option StepOp
step_op mark.PlusPlus = Some by.Increment
step_op mark.MinusMinus = Some by.Decrement
step_op _ = None

abbrev pub spec_word : Keyword → Option SpecWord
spec_word word.Typedef = Some spec.Typedef
spec_word word.Extern = Some spec.Extern
spec_word word.Static = Some spec.Static
spec_word word.Inline = Some spec.Inline
spec_word word.Const = Some spec.Const
spec_word word.Volatile = Some spec.Volatile
spec_word word.Void = Some spec.Void
spec_word word.Char = Some spec.Char
spec_word word.Short = Some spec.Short
spec_word word.Int = Some spec.Int
spec_word word.Long = Some spec.Long
spec_word word.Signed = Some spec.Signed
spec_word word.Unsigned = Some spec.Unsigned
spec_word _ = None

abbrev pub word_by : Place → Kind → Option (Place × SpecWord)
word_by p (kind.Word w) = placed p (spec_word w)
word_by p _ = None

-- aop, a prefix operator, "++" or "--", a word of spec
abbrev pub assign_op_of : Token → Option (Place × AssignOp)
assign_op_of k = mark_by assign_op k.place k.kind

abbrev pub un_op_of : Token → Option (Place × UnOp)
un_op_of k = mark_by un_op k.place k.kind

abbrev pub step_op_of : Token → Option (Place × StepOp)
step_op_of k = mark_by step_op k.place k.kind

abbrev pub spec_word_of : Token → Option (Place × SpecWord)
spec_word_of k = word_by k.place k.kind

-- the operator, where it is one of this level
abbrev pub of_level : ℕ → Option (ℕ × BinOp) → Option BinOp
of_level l None = None
of_level l (Some o) = if nat_eq o.0 l then Some o.1 else None

abbrev pub op_at : ℕ → Punct → Option BinOp
op_at l m = of_level l (bin_op m)

abbrev pub op_of : ℕ → Token → Option (Place × BinOp)
op_of l k = mark_by (op_at l) k.place k.kind

-- ---- what a part begins with

abbrev pub spec_token : List (List ℕ) → Token → Bool
spec_token names k = is_some (spec_word_of k) || is k.kind (Word word.Struct) || is k.kind (Word word.Enum) || is k.kind (Word word.Attribute) || is_type names k.kind

abbrev pub begins_spec : List (List ℕ) → List Token → Bool
begins_spec names ts = at (spec_token names) ts

abbrev pub is_constant : Kind → Bool
is_constant (kind.Number v u l) = true
is_constant (kind.Char c) = true
is_constant (kind.Str s) = true
is_constant _ = false

abbrev pub expr_token : List (List ℕ) → Token → Bool
expr_token names k = is_name names k.kind || is_constant k.kind || is k.kind (Mark mark.ParenOpen) || is_some (un_op_of k) || is_some (step_op_of k) || is k.kind (Word word.Sizeof)

abbrev pub begins_expr : List (List ℕ) → List Token → Bool
begins_expr names ts = at (expr_token names) ts

abbrev pub step_token : Token → Bool
step_token k = is_some (step_op_of k) || is k.kind (Word word.Sizeof)

abbrev pub begins_step : List Token → Bool
begins_step ts = at step_token ts

abbrev pub access_token : Token → Bool
access_token k = is k.kind (Mark mark.BracketOpen) || is k.kind (Mark mark.ParenOpen) || is k.kind (Mark mark.Dot) || is k.kind (Mark mark.Arrow) || is_some (step_op_of k)

abbrev pub begins_access : List Token → Bool
begins_access ts = at access_token ts

abbrev pub suffix_token : Token → Bool
suffix_token k = is k.kind (Mark mark.BracketOpen) || is k.kind (Mark mark.ParenOpen)

abbrev pub begins_suffix : List Token → Bool
begins_suffix ts = at suffix_token ts

abbrev pub star_token : Token → Bool
star_token k = is k.kind (Mark mark.Star) || is k.kind (Word word.Const) || is k.kind (Word word.Volatile) || is k.kind (Word word.Attribute)

abbrev pub begins_star : List Token → Bool
begins_star ts = at star_token ts

abbrev pub label_token : Token → Bool
label_token k = is k.kind (Word word.Case) || is k.kind (Word word.Default)

abbrev pub begins_label : List Token → Bool
begins_label ts = at label_token ts

-- "(" and a specifier
abbrev pub type_follows : List (List ℕ) → List Token → Bool
type_follows names ts = next_is (Mark mark.ParenOpen) ts && after (begins_spec names) ts

-- "," and no "}"
abbrev pub comma_more : List Token → Bool
comma_more ts = next_is (Mark mark.Comma) ts && not (after (next_is (Mark mark.BraceClose)) ts)

-- "void" and ")"
abbrev pub void_params : List Token → Bool
void_params ts = next_is (Word word.Void) ts && after (next_is (Mark mark.ParenClose)) ts

-- what an abstract declarator in parentheses begins with
abbrev pub group_token : Token → Bool
group_token k = is k.kind (Mark mark.Star) || is k.kind (Mark mark.ParenOpen) || is k.kind (Mark mark.BracketOpen) || is k.kind (Word word.Attribute)

-- "(" that groups an abstract declarator, and is no suffix
abbrev pub opens_group : List Token → Bool
opens_group ts = next_is (Mark mark.ParenOpen) ts && after (at group_token) ts

-- "(" that groups a declarator, with or without a name
abbrev pub opens_either : List (List ℕ) → List Token → Bool
opens_either names ts = next_is (Mark mark.ParenOpen) ts && after (at (λ k. group_token k || is_name names k.kind)) ts

abbrev pub declarator_token : List (List ℕ) → Token → Bool
declarator_token names k = is_name names k.kind || is k.kind (Mark mark.ParenOpen) || is k.kind (Mark mark.Star) || is k.kind (Word word.Attribute)

abbrev pub begins_declarator : List (List ℕ) → List Token → Bool
begins_declarator names ts = at (declarator_token names) ts

abbrev pub begins_abstract : List Token → Bool
begins_abstract ts = at group_token ts

abbrev pub begins_either : List (List ℕ) → List Token → Bool
begins_either names ts = at (λ k. group_token k || is_name names k.kind) ts

abbrev pub initial_token : List (List ℕ) → Token → Bool
initial_token names k = is k.kind (Mark mark.BraceOpen) || expr_token names k

abbrev pub begins_initial : List (List ℕ) → List Token → Bool
begins_initial names ts = at (initial_token names) ts

abbrev pub stmt_word : Keyword → Bool
stmt_word word.Return = true
stmt_word word.Break = true
stmt_word word.Continue = true
stmt_word word.If = true
stmt_word word.While = true
stmt_word word.Do = true
stmt_word word.For = true
stmt_word word.Switch = true
stmt_word _ = false

abbrev pub is_stmt_word : Kind → Bool
is_stmt_word (kind.Word w) = stmt_word w
is_stmt_word _ = false

abbrev pub stmt_token : List (List ℕ) → Token → Bool
stmt_token names k = is k.kind (Mark mark.BraceOpen) || is k.kind (Mark mark.Semicolon) || is_stmt_word k.kind || expr_token names k

abbrev pub begins_stmt : List (List ℕ) → List Token → Bool
begins_stmt names ts = at (stmt_token names) ts
