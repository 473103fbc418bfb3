-- Reading one piece from the front of a text, from left to right. The laws of this crate say that what is read are the pieces
-- of the definition, and no others.
use Rattle.std.specs.Prelude.{◌≡◌, ◌≢◌, ◌≤◌, ℕ, zero, suc, ◌+◌, ◌*◌, ◌^◌, Bool, true, false, not, ◌&&◌, ◌||◌, nat_le, nat_lt, ◌==◌, List, [], ◌∷◌, ◌++◌, length, take, drop, codes, Option, Some, None, Result, Ok, Err, find, nat_eq, if◌then◌else◌}
use Rattle.std.specs.Borrow.{Bor}
use Rattle.std.specs.Cmp.Lexicographic.{pointwise}
use Rattle.std.specs.List.{list_any}
use Rattle.c_lex.specs.declared.fault.Fault.{Fault}
use Rattle.c_lex.specs.declared.fault.PieceError.{PieceError}
use Rattle.c_lex.specs.declared.fault.PieceError.TheVariants as errors
use Rattle.c_lex.specs.declared.fault.Flaw.{Flaw}
use Rattle.c_lex.specs.declared.fault.Flaw.TheVariants as flaw
use Rattle.c_lex.specs.declared.token.Kind.{Kind}
use Rattle.c_lex.specs.declared.token.Kind.TheVariants as kind
use Rattle.c_lex.specs.declared.token.Keyword.{Keyword}
use Rattle.c_lex.specs.declared.token.Header.{Header}
use Rattle.c_lex.specs.declared.token.Header.TheVariants as header
use Rattle.c_lex.specs.declared.token.Punct.{Punct}
use Rattle.c_lex.specs.declared.token.Punct.TheVariants as mark
use Rattle.c_lex.specs.Classes.{is_letter, is_digit, is_octal, is_hex, is_name_byte, is_blank, is_space, is_in_line, is_u, is_l, is_plain, digit_value, begins, begins_with}
use Rattle.c_lex.specs.Spelling.{word_text, keywords, left_out_text, left_out_words, begins_hex, value_of, begins_long_long, simple_escape}
use Rattle.c_lex.specs.declared.spot.Spot.{Spot}
use Rattle.c_lex.specs.declared.token.Token.{Token}
use Rattle.c_lex.specs.Spot.{start, after}
use Rattle.c_lex.specs.Tokens.{E01, E02, E03, E04, E06, ends_line, number_kind, Piece, Faulty, Splits, ends_at, tokens_of}

infixl 10 ◌>>=◌
abbrev pub ◌>>=◌ : {A B E : Type 0} → Result A E → (A → Result B E) → Result B E
(Ok x) >>= f = f x
(Err e) >>= f = Err e

-- what was read, and the bytes after it
abbrev pub Read : Type 0 → Type 0
Read X = Result (X × List ℕ) Fault

abbrev pub Fails : {Y : Type 0} → PieceError → Result Y Fault → Type 0
Fails errors.NoMemory read = Unit {0}
Fails (errors.At f) read = read ≡ Err f

-- What a function returned, seen by view, is what reading gives, unless memory ran out.
abbrev pub Gives : {X Y : Type 0} → (X → Y) → Result X PieceError → Result Y Fault → Type 0
Gives view (Ok x) read = read ≡ Ok (view x)
Gives view (Err e) read = Fails e read

-- a fault where this text begins
abbrev pub fault : ℕ → List ℕ → Fault
fault code text = record { code = code; left = length text }

-- the longest run of a class, and what is behind it
abbrev pub front : (ℕ → Bool) → List ℕ → List ℕ
front p [] = []
front p (b ∷ bs) = if p b then b ∷ front p bs else []

abbrev pub back : (ℕ → Bool) → List ℕ → List ℕ
back p [] = []
back p (b ∷ bs) = if p b then back p bs else b ∷ bs

-- what is behind one byte of a class
abbrev pub behind : (ℕ → Bool) → List ℕ → Option (List ℕ)
behind p [] = None
behind p (b ∷ bs) = if p b then Some bs else None

abbrev pub same_text : List ℕ → List ℕ → Bool
same_text = pointwise nat_eq

-- what is behind a text
unfoldable pub strip : List ℕ → List ℕ → Option (List ℕ)
strip text p = if same_text (take (length p) text) p then Some (drop (length p) text) else None

-- ---- names and words

unfoldable pub word_of : List ℕ → Option Keyword
word_of s = find (λ w. same_text (word_text w) s) keywords

unfoldable pub is_left_out : List ℕ → Bool
is_left_out s = list_any (λ w. same_text (left_out_text w) s) left_out_words

abbrev pub named : List ℕ → List ℕ → List ℕ → Option Keyword → Read Kind
named text s rest (Some w) = Ok (kind.Word w, rest)
named text s rest None = if is_left_out s then Err (fault E06 text) else (if nat_lt 255 (length s) then Err (fault E01 text) else Ok (kind.Name s, rest))

unfoldable pub name_at : List ℕ → Read Kind
name_at text = named text (front is_name_byte text) (back is_name_byte text) (word_of (front is_name_byte text))

-- ---- numbers

-- the base, the digits, and what is behind them
abbrev pub digits_at : List ℕ → ℕ × List ℕ × List ℕ
digits_at text = if begins_hex text then (16, front is_hex (drop 2 text), back is_hex (drop 2 text)) else
    (if begins_with 48 text then (8, front is_octal text, back is_octal text) else (10, front is_digit text, back is_digit text))

-- what a suffix says, and what is behind it
abbrev pub l_behind : List ℕ → Option (List ℕ) → (Bool × Bool) × List ℕ
l_behind r (Some rest) = ((true, true), rest)
l_behind r None = ((true, false), r)

abbrev pub u_behind : List ℕ → Option (List ℕ) → (Bool × Bool) × List ℕ
u_behind r (Some rest) = ((true, true), rest)
u_behind r None = ((false, true), r)

abbrev pub begun_by_l : List ℕ → Option (List ℕ) → (Bool × Bool) × List ℕ
begun_by_l text (Some r) = u_behind r (behind is_u r)
begun_by_l text None = ((false, false), text)

abbrev pub begun_by_u : List ℕ → Option (List ℕ) → (Bool × Bool) × List ℕ
begun_by_u text (Some r) = l_behind r (behind is_l r)
begun_by_u text None = begun_by_l text (behind is_l text)

unfoldable pub suffix_at : List ℕ → (Bool × Bool) × List ℕ
suffix_at text = begun_by_u text (behind is_u text)

-- a number whose digits have this value, with what is behind them
unfoldable pub number_with : List ℕ → ℕ → List ℕ → Read Kind
number_with text v more =
    if begins_long_long more || begins_with 46 more then Err (fault E06 text) else
    (let s = suffix_at more in if begins is_name_byte s.1 then Err (fault E01 s.1) else Ok (number_kind v s.0, s.1))

unfoldable pub number_at : List ℕ → Read Kind
number_at text = let d = digits_at text in let v = value_of d.0 d.1 in
    if nat_lt v (2 ^ 32) then number_with text v d.2 else Err (fault E02 text)

-- ---- literals

abbrev pub Seen : Type 0
Seen = Result (ℕ × List ℕ) Flaw

abbrev pub Sees : Result (ℕ × Bor (List ℕ)) Flaw → Seen → Type 0
Sees (Ok x) read = read ≡ Ok (x.0, x.1.now)
Sees (Err e) read = read ≡ Err e

abbrev pub hex_behind : ℕ → List ℕ → ℕ × List ℕ
hex_behind v [] = (v, [])
hex_behind v (i ∷ r) = if is_hex i then (16 * v + digit_value i, r) else (v, i ∷ r)

unfoldable pub hex_at : List ℕ → Seen
hex_at [] = Err flaw.Cut
hex_at (h ∷ r) = if is_hex h then Ok (hex_behind (digit_value h) r) else Err flaw.Bad

abbrev pub third_at : ℕ → List ℕ → ℕ × List ℕ
third_at v [] = (v, [])
third_at v (c ∷ r) = if is_octal c && nat_le (8 * v + digit_value c) 255 then (8 * v + digit_value c, r) else (v, c ∷ r)

unfoldable pub octal_at : ℕ → List ℕ → ℕ × List ℕ
octal_at v [] = (v, [])
octal_at v (b ∷ r) = if is_octal b then third_at (8 * v + digit_value b) r else (v, b ∷ r)

abbrev pub simple_at : Option ℕ → List ℕ → Seen
simple_at None r = Err flaw.Bad
simple_at (Some v) r = Ok (v, r)

unfoldable pub escape_at : List ℕ → Seen
escape_at [] = Err flaw.Cut
escape_at (e ∷ r) = if e == 120 then hex_at r else (if is_octal e then Ok (octal_at (digit_value e) r) else simple_at (simple_escape e) r)

-- a character or an escape of a literal
unfoldable pub item_at : ℕ → List ℕ → Seen
item_at quote [] = Err flaw.Cut
item_at quote (b ∷ r) = if b == 92 then escape_at r else (if is_plain b && not (b == quote) then Ok (b, r) else Err flaw.Bad)

-- the same, with the places of its faults: cut is how much of the text the literal's first byte leaves
abbrev pub placed : ℕ → List ℕ → Seen → Read ℕ
placed cut text (Ok x) = Ok x
placed cut text (Err flaw.Cut) = Err (record { code = E01; left = cut })
placed cut text (Err flaw.Bad) = Err (fault E01 text)

unfoldable pub literal_item : ℕ → ℕ → List ℕ → Read ℕ
literal_item cut quote text = placed cut text (item_at quote text)

abbrev pub close_char : ℕ → ℕ → List ℕ → Read Kind
close_char cut v [] = Err (record { code = E01; left = cut })
close_char cut v (b ∷ r) = if b == 39 then Ok (kind.Char v, r) else Err (fault E01 (b ∷ r))

unfoldable pub char_at : ℕ → List ℕ → Read Kind
char_at cut body = literal_item cut 39 body >>= λ x. close_char cut x.0 x.1

-- the bytes up to the closing quote; n is at least how many bytes there are
unfoldable pub string_at : ℕ → ℕ → List ℕ → Read (List ℕ)
string_at cut zero text = Err (record { code = E01; left = cut })
string_at cut (suc n) text = if begins_with 34 text then Ok ([], drop 1 text) else
    (literal_item cut 34 text >>= λ x. string_at cut n x.1 >>= λ y. Ok (x.0 ∷ y.0, y.1))

-- ---- comments, includes and marks

-- whether a */ stands here
abbrev pub closes_here : List ℕ → Bool
closes_here (a ∷ b ∷ _) = a == 42 && b == 47
closes_here _ = false

-- what is behind the first */
unfoldable pub close_at : List ℕ → Option (List ℕ)
close_at [] = None
close_at (a ∷ r) = if closes_here (a ∷ r) then Some (drop 1 r) else close_at r

abbrev pub commented : {X : Type 0} → List ℕ → Option (List ℕ) → Read (Option X)
commented text (Some rest) = Ok (None, rest)
commented text None = Err (fault E03 text)

abbrev pub header_found : Option (List ℕ) → Option (List ℕ) → Option (Header × List ℕ)
header_found (Some rest) second = Some (header.StdInt, rest)
header_found None (Some rest) = Some (header.ArmCmse, rest)
header_found None None = None

unfoldable pub header_at : List ℕ → Option (Header × List ℕ)
header_at text = header_found (strip text (codes "<stdint.h>")) (strip text (codes "<arm_cmse.h>"))

abbrev pub if_line_ends : Option (Header × List ℕ) → Option (Header × List ℕ)
if_line_ends None = None
if_line_ends (Some x) = if ends_line (back is_blank x.1) then Some x else None

abbrev pub named_header : Option (List ℕ) → Option (Header × List ℕ)
named_header None = None
named_header (Some r) = if_line_ends (header_at (back is_blank r))

-- what stands behind a #
unfoldable pub include_at : List ℕ → Option (Header × List ℕ)
include_at body = named_header (strip (back is_blank body) (codes "include"))

abbrev pub included : List ℕ → Option (Header × List ℕ) → Read Kind
included text None = Err (fault E04 text)
included text (Some x) = Ok (kind.Include x.0, x.1)

unfoldable pub hash_at : Bool → List ℕ → List ℕ → Read Kind
hash_at fresh text body = if fresh then included text (include_at body) else Err (fault E04 text)

abbrev pub with_equals : ℕ → Option Punct
with_equals a = if a == 42 then Some mark.StarAssign else (if a == 47 then Some mark.SlashAssign else (if a == 37 then Some mark.PercentAssign else
    (if a == 43 then Some mark.PlusAssign else (if a == 45 then Some mark.MinusAssign else (if a == 38 then Some mark.AmpAssign else
    (if a == 94 then Some mark.CaretAssign else (if a == 124 then Some mark.PipeAssign else (if a == 60 then Some mark.LessEqual else
    (if a == 62 then Some mark.GreaterEqual else (if a == 61 then Some mark.EqualEqual else (if a == 33 then Some mark.NotEqual else None)))))))))))

abbrev pub doubled : ℕ → Option Punct
doubled a = if a == 43 then Some mark.PlusPlus else (if a == 45 then Some mark.MinusMinus else (if a == 60 then Some mark.Shl else
    (if a == 62 then Some mark.Shr else (if a == 38 then Some mark.AndAnd else (if a == 124 then Some mark.OrOr else None)))))

abbrev pub one_mark : ℕ → Option Punct
one_mark a = if a == 123 then Some mark.BraceOpen else (if a == 125 then Some mark.BraceClose else (if a == 40 then Some mark.ParenOpen else
    (if a == 41 then Some mark.ParenClose else (if a == 91 then Some mark.BracketOpen else (if a == 93 then Some mark.BracketClose else
    (if a == 59 then Some mark.Semicolon else (if a == 44 then Some mark.Comma else (if a == 58 then Some mark.Colon else
    (if a == 63 then Some mark.Question else (if a == 46 then Some mark.Dot else (if a == 126 then Some mark.Tilde else
    (if a == 33 then Some mark.Bang else (if a == 42 then Some mark.Star else (if a == 47 then Some mark.Slash else
    (if a == 37 then Some mark.Percent else (if a == 43 then Some mark.Plus else (if a == 45 then Some mark.Minus else
    (if a == 60 then Some mark.Less else (if a == 62 then Some mark.Greater else (if a == 38 then Some mark.Amp else
    (if a == 94 then Some mark.Caret else (if a == 124 then Some mark.Pipe else (if a == 61 then Some mark.Assign else None)))))))))))))))))))))))

abbrev pub two_mark : ℕ → ℕ → Option Punct
two_mark a b = if b == 61 then with_equals a else (if a == b then doubled a else (if a == 45 && b == 62 then Some mark.Arrow else None))

abbrev pub three_mark : ℕ → ℕ → ℕ → Option Punct
three_mark a b c = if a == b && c == 61 then (if a == 60 then Some mark.ShlAssign else (if a == 62 then Some mark.ShrAssign else None)) else None

-- a mark and what is behind it, if there is one, else the next choice
abbrev pub or_else : Option Punct → List ℕ → Option (Punct × List ℕ) → Option (Punct × List ℕ)
or_else (Some m) rest other = Some (m, rest)
or_else None rest other = other

unfoldable pub one_at : List ℕ → Option (Punct × List ℕ)
one_at [] = None
one_at (a ∷ r) = or_else (one_mark a) r None

unfoldable pub two_at : List ℕ → Option (Punct × List ℕ)
two_at (a ∷ b ∷ r) = or_else (two_mark a b) r (one_at (a ∷ b ∷ r))
two_at text = one_at text

-- the longest mark, and what is behind it
unfoldable pub mark_at : List ℕ → Option (Punct × List ℕ)
mark_at (a ∷ b ∷ c ∷ r) = or_else (three_mark a b c) r (two_at (a ∷ b ∷ c ∷ r))
mark_at text = two_at text

abbrev pub marked : List ℕ → Option (Punct × List ℕ) → Read Kind
marked text None = Err (fault E01 text)
marked text (Some x) = Ok (kind.Mark x.0, x.1)

-- ---- pieces

abbrev pub as_token : Read Kind → Read (Option Kind)
as_token read = read >>= λ x. Ok (Some x.0, x.1)

unfoldable pub other_at : List ℕ → Read (Option Kind)
other_at text = as_token (marked text (mark_at text))

unfoldable pub slash_at : List ℕ → List ℕ → Read (Option Kind)
slash_at text [] = other_at text
slash_at text (b ∷ r) = if b == 47 then Ok (None, back is_in_line r) else (if b == 42 then commented text (close_at r) else other_at text)

-- what a letter, a digit, a quote or a # begins, the byte b before the body
unfoldable pub token_at : Bool → List ℕ → ℕ → List ℕ → Read Kind
token_at fresh text b body =
    if is_letter b then name_at text else
    (if is_digit b then number_at text else
    (if b == 39 then char_at (length body + 1) body else
    (if b == 34 then (string_at (length body + 1) (length body + 1) body >>= λ x. Ok (kind.Str x.0, x.1)) else
    hash_at fresh text body)))

unfoldable pub begins_token : ℕ → Bool
begins_token b = is_name_byte b || b == 39 || b == 34 || b == 35

unfoldable pub piece_at : Bool → List ℕ → Read (Option Kind)
piece_at fresh [] = Err (fault E01 [])
piece_at fresh (b ∷ r) =
    if is_space b then Ok (None, r) else
    (if begins_token b then as_token (token_at fresh (b ∷ r) b r) else
    (if b == 47 then slash_at (b ∷ r) r else other_at (b ∷ r)))

-- ---- one step, and how the split goes on

abbrev pub IfAt : (Fault → Type 0) → PieceError → Type 0
IfAt P errors.NoMemory = Unit {0}
IfAt P (errors.At f) = P f

-- From p, a piece of these bytes stands at the front of the text, and the rest stands at q.
pub record Step (p : Spot) (text : List ℕ) (k : Option Kind) (q : Spot) (rest : List ℕ) : Type 0 where
  pub bytes : List ℕ
  pub parts : text ≡ bytes ++ rest
  pub some : bytes ≢ []
  pub piece : Piece p.fresh text k rest
  pub at : q ≡ after p bytes

-- no piece stands at the front of the text
pub record Stuck (p : Spot) (text : List ℕ) (f : Fault) : Type 0 where
  pub fault : Faulty p.fresh text f.code f.left
  pub within : f.left ≤ length text

-- The text is pieces up to a fault.
pub record EndsAt (text : List ℕ) (f : Fault) : Type 0 where
  pub pieces : List (Option Kind × List ℕ)
  pub rest : List ℕ
  pub split : Splits start text pieces rest
  pub fault : Faulty (ends_at start pieces).fresh rest f.code f.left
  pub within : f.left ≤ length text

-- The text is pieces with these tokens.
pub record AreTokens (unit : ℕ) (text : List ℕ) (tokens : List Token) : Type 0 where
  pub pieces : List (Option Kind × List ℕ)
  pub split : Splits start text pieces []
  pub are : tokens_of unit start pieces ≡ tokens
