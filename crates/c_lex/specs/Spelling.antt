-- How words, marks, headers, numbers and escapes are spelled (C11 6.4.1, 6.4.4, 6.4.5, 6.4.6).
use Rattle.std.specs.Prelude.{◌≡◌, ◌≢◌, ℕ, ◌+◌, ◌*◌, ◌≤◌, Bool, true, false, ◌&&◌, ◌||◌, nat_le, ◌==◌, List, [], ◌∷◌, ◌++◌, length, codes, Option, Some, None, if◌then◌else◌}
use Rattle.std.specs.Prelude.{drop}
use Rattle.c_lex.specs.declared.token.Keyword.{Keyword}
use Rattle.c_lex.specs.declared.token.Keyword.TheVariants as word
use Rattle.c_lex.specs.declared.token.Punct.{Punct}
use Rattle.c_lex.specs.declared.token.Punct.TheVariants as mark
use Rattle.c_lex.specs.declared.token.Header.{Header}
use Rattle.c_lex.specs.declared.token.Header.TheVariants as header
use Rattle.c_lex.specs.declared.words.LeftOut.{LeftOut}
use Rattle.c_lex.specs.declared.words.LeftOut.TheVariants as left
use Rattle.c_lex.specs.Classes.{is_digit, is_octal, is_hex, is_u, is_l, is_plain, digit_value, begins, begins_with, Run}

-- ---- words

abbrev pub word_text : Keyword → List ℕ
word_text word.Typedef = codes "typedef"
word_text word.Extern = codes "extern"
word_text word.Static = codes "static"
word_text word.Inline = codes "inline"
word_text word.Const = codes "const"
word_text word.Volatile = codes "volatile"
word_text word.Void = codes "void"
word_text word.Char = codes "char"
word_text word.Short = codes "short"
word_text word.Int = codes "int"
word_text word.Long = codes "long"
word_text word.Signed = codes "signed"
word_text word.Unsigned = codes "unsigned"
word_text word.Struct = codes "struct"
word_text word.Enum = codes "enum"
word_text word.Attribute = codes "__attribute__"
word_text word.Return = codes "return"
word_text word.Break = codes "break"
word_text word.Continue = codes "continue"
word_text word.If = codes "if"
word_text word.Else = codes "else"
word_text word.While = codes "while"
word_text word.Do = codes "do"
word_text word.For = codes "for"
word_text word.Switch = codes "switch"
word_text word.Case = codes "case"
word_text word.Default = codes "default"
word_text word.Sizeof = codes "sizeof"

-- all of them
unfoldable pub keywords : List Keyword
keywords =
    word.Typedef ∷ word.Extern ∷ word.Static ∷ word.Inline ∷ word.Const ∷ word.Volatile ∷
    word.Void ∷ word.Char ∷ word.Short ∷ word.Int ∷ word.Long ∷ word.Signed ∷ word.Unsigned ∷
    word.Struct ∷ word.Enum ∷ word.Attribute ∷
    word.Return ∷ word.Break ∷ word.Continue ∷ word.If ∷ word.Else ∷ word.While ∷ word.Do ∷ word.For ∷
    word.Switch ∷ word.Case ∷ word.Default ∷ word.Sizeof ∷ []

-- words of C that this language leaves out
abbrev pub left_out_text : LeftOut → List ℕ
left_out_text left.Float = codes "float"
left_out_text left.Double = codes "double"
left_out_text left.Bool = codes "_Bool"
left_out_text left.Complex = codes "_Complex"
left_out_text left.Union = codes "union"
left_out_text left.Goto = codes "goto"
left_out_text left.Auto = codes "auto"
left_out_text left.Register = codes "register"
left_out_text left.Restrict = codes "restrict"
left_out_text left.Asm = codes "asm"
left_out_text left.Alignas = codes "_Alignas"
left_out_text left.Alignof = codes "_Alignof"
left_out_text left.Atomic = codes "_Atomic"
left_out_text left.Generic = codes "_Generic"
left_out_text left.Noreturn = codes "_Noreturn"
left_out_text left.StaticAssert = codes "_Static_assert"
left_out_text left.ThreadLocal = codes "_Thread_local"

-- all of them
unfoldable pub left_out_words : List LeftOut
left_out_words =
    left.Float ∷ left.Double ∷ left.Bool ∷ left.Complex ∷ left.Union ∷ left.Goto ∷ left.Auto ∷ left.Register ∷ left.Restrict ∷
    left.Asm ∷ left.Alignas ∷ left.Alignof ∷ left.Atomic ∷ left.Generic ∷ left.Noreturn ∷ left.StaticAssert ∷ left.ThreadLocal ∷ []

-- neither a word of the language nor one that is left out
pub record IsNoWord (s : List ℕ) : Type 0 where
  pub no_word : (w : Keyword) → s ≢ word_text w
  pub not_left_out : (w : LeftOut) → s ≢ left_out_text w

-- ---- marks

abbrev pub mark_text : Punct → List ℕ
mark_text mark.BraceOpen = codes "{"
mark_text mark.BraceClose = codes "}"
mark_text mark.ParenOpen = codes "("
mark_text mark.ParenClose = codes ")"
mark_text mark.BracketOpen = codes "["
mark_text mark.BracketClose = codes "]"
mark_text mark.Semicolon = codes ";"
mark_text mark.Comma = codes ","
mark_text mark.Colon = codes ":"
mark_text mark.Question = codes "?"
mark_text mark.Dot = codes "."
mark_text mark.Arrow = codes "->"
mark_text mark.PlusPlus = codes "++"
mark_text mark.MinusMinus = codes "--"
mark_text mark.Tilde = codes "~"
mark_text mark.Bang = codes "!"
mark_text mark.Star = codes "*"
mark_text mark.Slash = codes "/"
mark_text mark.Percent = codes "%"
mark_text mark.Plus = codes "+"
mark_text mark.Minus = codes "-"
mark_text mark.Shl = codes "<<"
mark_text mark.Shr = codes ">>"
mark_text mark.Less = codes "<"
mark_text mark.Greater = codes ">"
mark_text mark.LessEqual = codes "<="
mark_text mark.GreaterEqual = codes ">="
mark_text mark.EqualEqual = codes "=="
mark_text mark.NotEqual = codes "!="
mark_text mark.Amp = codes "&"
mark_text mark.Caret = codes "^"
mark_text mark.Pipe = codes "|"
mark_text mark.AndAnd = codes "&&"
mark_text mark.OrOr = codes "||"
mark_text mark.Assign = codes "="
mark_text mark.StarAssign = codes "*="
mark_text mark.SlashAssign = codes "/="
mark_text mark.PercentAssign = codes "%="
mark_text mark.PlusAssign = codes "+="
mark_text mark.MinusAssign = codes "-="
mark_text mark.ShlAssign = codes "<<="
mark_text mark.ShrAssign = codes ">>="
mark_text mark.AmpAssign = codes "&="
mark_text mark.CaretAssign = codes "^="
mark_text mark.PipeAssign = codes "|="

-- Each mark that stands at the front of the text is no longer than m.
abbrev pub IsLongest : Punct → List ℕ → Type 0
IsLongest m text = (other : Punct) (r : List ℕ) → text ≡ mark_text other ++ r → length (mark_text other) ≤ length (mark_text m)

abbrev pub header_text : Header → List ℕ
header_text header.StdInt = codes "<stdint.h>"
header_text header.ArmCmse = codes "<arm_cmse.h>"

-- ---- numbers

-- whether the text begins with 0x and a hexadecimal digit
abbrev pub begins_hex : List ℕ → Bool
begins_hex (a ∷ x ∷ h ∷ _) = a == 48 && x == 120 && is_hex h
begins_hex _ = false

-- Digits text base ds more: the digits ds to this base stand at the front of the text, as many as there are, and then more.
pub data Digits (text : List ℕ) : ℕ → List ℕ → List ℕ → Type 0 where
  hex : {ds more : List ℕ} → begins_hex text ≡ true → Run is_hex ds more (drop 2 text) → Digits text 16 ds more
  octal : {ds more : List ℕ} → begins_hex text ≡ false → begins_with 48 text ≡ true → Run is_octal ds more text → Digits text 8 ds more
  decimal : {ds more : List ℕ} → begins_with 48 text ≡ false → begins is_digit text ≡ true → Run is_digit ds more text → Digits text 10 ds more

-- the value of digits behind a value
abbrev pub value_from : ℕ → ℕ → List ℕ → ℕ
value_from base v [] = v
value_from base v (d ∷ ds) = value_from base (v * base + digit_value d) ds

abbrev pub value_of : ℕ → List ℕ → ℕ
value_of base ds = value_from base 0 ds

-- what a suffix says: unsigned, long
abbrev pub suffix_of : List ℕ → Option (Bool × Bool)
suffix_of [] = Some (false, false)
suffix_of (a ∷ []) = if is_u a then Some (true, false) else (if is_l a then Some (false, true) else None)
suffix_of (a ∷ b ∷ []) = if (is_u a && is_l b) || (is_l a && is_u b) then Some (true, true) else None
suffix_of _ = None

-- ll or LL, also behind a u
abbrev pub two_alike : List ℕ → Bool
two_alike (a ∷ b ∷ _) = is_l a && a == b
two_alike _ = false

abbrev pub begins_long_long : List ℕ → Bool
begins_long_long [] = false
begins_long_long (a ∷ r) = two_alike (a ∷ r) || (is_u a && two_alike r)

-- ---- literals

-- the escapes of one character; those by digits stand apart
abbrev pub simple_escape : ℕ → Option ℕ
simple_escape e = if e == 110 then Some 10 else (if e == 116 then Some 9 else (if e == 114 then Some 13 else (if e == 92 then Some 92 else (if e == 39 then Some 39 else (if e == 34 then Some 34 else None)))))

-- whether an octal digit stands at the front that an escape of value v can take
abbrev pub goes_on : ℕ → List ℕ → Bool
goes_on v [] = false
goes_on v (c ∷ _) = is_octal c && nat_le (8 * v + digit_value c) 255

-- Item quote text v rest: a character or an escape of value v stands at the front of a literal's text, with as many
-- digits as it can take, and then the rest.
pub data Item (quote : ℕ) : List ℕ → ℕ → List ℕ → Type 0 where
  plain : {b : ℕ} {rest : List ℕ} → is_plain b ≡ true → (b == quote) ≡ false → Item quote (b ∷ rest) b rest
  simple : {e v : ℕ} {rest : List ℕ} → simple_escape e ≡ Some v → Item quote (92 ∷ e ∷ rest) v rest
  hex_one : {h : ℕ} {rest : List ℕ} → is_hex h ≡ true → begins is_hex rest ≡ false → Item quote (92 ∷ 120 ∷ h ∷ rest) (digit_value h) rest
  hex_two : {h i : ℕ} {rest : List ℕ} → is_hex h ≡ true → is_hex i ≡ true → Item quote (92 ∷ 120 ∷ h ∷ i ∷ rest) (16 * digit_value h + digit_value i) rest
  octal_one : {a : ℕ} {rest : List ℕ} → is_octal a ≡ true → begins is_octal rest ≡ false → Item quote (92 ∷ a ∷ rest) (digit_value a) rest
  octal_two : {a b : ℕ} {rest : List ℕ} → is_octal a ≡ true → is_octal b ≡ true → goes_on (8 * digit_value a + digit_value b) rest ≡ false → Item quote (92 ∷ a ∷ b ∷ rest) (8 * digit_value a + digit_value b) rest
  octal_three : {a b c : ℕ} {rest : List ℕ} → is_octal a ≡ true → is_octal b ≡ true → is_octal c ≡ true → nat_le (8 * (8 * digit_value a + digit_value b) + digit_value c) 255 ≡ true →
      Item quote (92 ∷ a ∷ b ∷ c ∷ rest) (8 * (8 * digit_value a + digit_value b) + digit_value c) rest

-- what the end of the text leaves of a character or an escape: nothing, a backslash, or a backslash and an x
pub data IsCut : List ℕ → Type 0 where
  at_end : IsCut []
  at_backslash : IsCut (92 ∷ [])
  at_x : IsCut (92 ∷ 120 ∷ [])

-- some items, one after another, and then the rest
abbrev pub Items : ℕ → List ℕ → List ℕ → List ℕ → Type 0
Items quote text [] rest = text ≡ rest
Items quote text (v ∷ vs) rest = (t : List ℕ) × Item quote text v t × Items quote t vs rest
