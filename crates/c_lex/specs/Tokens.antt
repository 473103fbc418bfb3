-- The tokens of a text, and its first fault (C11 5.1.1.2 phase 3, 6.4, with the profile of this language).
use Rattle.std.specs.Prelude.{◌≡◌, ◌≢◌, ℕ, ◌-◌, ◌<◌, ◌≤◌, ◌^◌, Bool, true, false, ◌&&◌, ◌||◌, nat_le, ◌==◌, List, [], ◌∷◌, ◌++◌, length, take, codes, Option, Some, None}
use Rattle.std.specs.List.{list_all}
use Rattle.cm_base.specs.declared.place.Place.{Place}
use Rattle.c_lex.specs.declared.spot.Spot.{Spot}
use Rattle.c_lex.specs.declared.token.Kind.{Kind}
use Rattle.c_lex.specs.declared.token.Kind.TheVariants as kind
use Rattle.c_lex.specs.declared.token.Keyword.{Keyword}
use Rattle.c_lex.specs.declared.token.Punct.{Punct}
use Rattle.c_lex.specs.declared.token.Header.{Header}
use Rattle.c_lex.specs.declared.token.Token.{Token}
use Rattle.c_lex.specs.declared.words.LeftOut.{LeftOut}
use Rattle.c_lex.specs.Classes.{is_letter, is_name_byte, is_blank, is_space, is_in_line, is_stray, begins, begins_with, Run}
use Rattle.c_lex.specs.Spot.{start, after, place_of}
use Rattle.c_lex.specs.Spelling.{word_text, left_out_text, IsNoWord, mark_text, IsLongest, header_text, Digits, value_of, suffix_of, begins_long_long, Item, Items, IsCut}

-- ---- includes

-- what may follow an include: the end of the text, a line feed, or a comment to the end of the line
abbrev pub ends_line : List ℕ → Bool
ends_line [] = true
ends_line (a ∷ []) = a == 10
ends_line (a ∷ b ∷ _) = a == 10 || (a == 47 && b == 47)

-- Include text h rest: an include of h stands at the front of the text, and then the rest.
pub record Include (text : List ℕ) (h : Header) (rest : List ℕ) : Type 0 where
  pub before : List ℕ
  pub between : List ℕ
  pub behind : List ℕ
  pub end : List ℕ
  pub parts : text ≡ 35 ∷ (before ++ (codes "include" ++ (between ++ (header_text h ++ rest))))
  pub before_blank : list_all is_blank before ≡ true
  pub between_blank : list_all is_blank between ≡ true
  pub rest_parts : rest ≡ behind ++ end
  pub behind_blank : list_all is_blank behind ≡ true
  pub line_ends : ends_line end ≡ true

-- ---- pieces

-- whether a comment begins here
abbrev pub begins_comment : List ℕ → Bool
begins_comment (a ∷ b ∷ _) = a == 47 && (b == 47 || b == 42)
begins_comment _ = false

-- a number's type, by its suffix and its value
abbrev pub number_kind : ℕ → Bool × Bool → Kind
number_kind v s = kind.Number v (s.0 || nat_le (2 ^ 31) v) s.1

-- Spelled fresh text k rest: the spelling of k stands at the front of the text, no byte of the rest could make it longer,
-- and then comes the rest. fresh: the front is the first of its line but for blanks. A name and a number end before what is
-- no letter, digit or _; a number without a suffix not before a point; a mark is the longest that stands there, and begins
-- no comment; a literal ends with its quote, and an include before the end of its line.
pub data Spelled (fresh : Bool) (text : List ℕ) : Kind → List ℕ → Type 0 where
  name : {s rest : List ℕ} → begins is_letter text ≡ true → Run is_name_byte s rest text → IsNoWord s → length s ≤ 255 → Spelled fresh text (kind.Name s) rest
  word : {s rest : List ℕ} {w : Keyword} → begins is_letter text ≡ true → Run is_name_byte s rest text → s ≡ word_text w → Spelled fresh text (kind.Word w) rest
  number : {base : ℕ} {ds more rest : List ℕ} {says : Bool × Bool} (suffix : List ℕ) → Digits text base ds more → value_of base ds < 2 ^ 32 → begins_long_long more ≡ false → begins_with 46 more ≡ false →
      more ≡ suffix ++ rest → suffix_of suffix ≡ Some says → begins is_name_byte rest ≡ false → Spelled fresh text (number_kind (value_of base ds) says) rest
  char : {v : ℕ} {rest body : List ℕ} → text ≡ 39 ∷ body → Item 39 body v (39 ∷ rest) → Spelled fresh text (kind.Char v) rest
  str : {vs rest body : List ℕ} → text ≡ 34 ∷ body → Items 34 body vs (34 ∷ rest) → Spelled fresh text (kind.Str vs) rest
  mark : {m : Punct} {rest : List ℕ} → text ≡ mark_text m ++ rest → IsLongest m text → begins_comment text ≡ false → Spelled fresh text (kind.Mark m) rest
  include : {h : Header} {rest : List ℕ} → fresh ≡ true → Include text h rest → Spelled fresh text (kind.Include h) rest

-- the inside of a block comment: up to the first */
pub record Closes (inside rest text : List ℕ) : Type 0 where
  pub parts : text ≡ inside ++ (42 ∷ 47 ∷ rest)
  pub first : (x r : List ℕ) → text ≡ x ++ (42 ∷ 47 ∷ r) → length inside ≤ length x

-- A piece at the front of the text, and then the rest: a blank, a line end, a comment (none of these is a token), or the spelling of a token.
pub data Piece (fresh : Bool) (text : List ℕ) : Option Kind → List ℕ → Type 0 where
  space : {b : ℕ} {rest : List ℕ} → text ≡ b ∷ rest → is_space b ≡ true → Piece fresh text None rest
  line : {x rest body : List ℕ} → text ≡ 47 ∷ 47 ∷ body → Run is_in_line x rest body → Piece fresh text None rest
  block : {x rest body : List ℕ} → text ≡ 47 ∷ 42 ∷ body → Closes x rest body → Piece fresh text None rest
  token : {k : Kind} {rest : List ℕ} → Spelled fresh text k rest → Piece fresh text (Some k) rest

-- ---- the split of a text

-- The text, which stands at p, is these pieces and then the rest. A piece is its token, if it is one, and its bytes.
abbrev pub Splits : Spot → List ℕ → List (Option Kind × List ℕ) → List ℕ → Type 0
Splits p text [] rest = text ≡ rest
Splits p text (x ∷ xs) rest = (t : List ℕ) × (text ≡ x.1 ++ t) × (x.1 ≢ []) × Piece p.fresh text x.0 t × Splits (after p x.1) t xs rest

-- where what is behind the pieces stands
abbrev pub ends_at : Spot → List (Option Kind × List ℕ) → Spot
ends_at p [] = p
ends_at p (x ∷ xs) = ends_at (after p x.1) xs

-- the token that a piece is, if it is one
abbrev pub token_at : ℕ → Spot → Option Kind → List Token
token_at unit p None = []
token_at unit p (Some k) = record { kind = k; place = place_of unit p } ∷ []

-- the tokens among pieces
abbrev pub tokens_of : ℕ → Spot → List (Option Kind × List ℕ) → List Token
tokens_of unit p [] = []
tokens_of unit p (x ∷ xs) = token_at unit p x.0 ++ tokens_of unit (after p x.1) xs

-- what a fault is called
abbrev pub E01 : ℕ
E01 = 1

abbrev pub E02 : ℕ
E02 = 2

abbrev pub E03 : ℕ
E03 = 3

abbrev pub E04 : ℕ
E04 = 4

abbrev pub E05 : ℕ
E05 = 5

abbrev pub E06 : ℕ
E06 = 6

-- No piece stands at the front of the text: a fault with this code, where this many bytes of the text are left.
-- A literal is bad where no item and no closing quote stands, unless the text ends there; where the end of the text cuts it,
-- the fault is at its first byte. At a number the value is looked at first, then ll and the point, then the byte behind it.
pub data Faulty (fresh : Bool) (text : List ℕ) : ℕ → ℕ → Type 0 where
  stray : {b : ℕ} {rest : List ℕ} → text ≡ b ∷ rest → is_stray b ≡ true → Faulty fresh text E01 (length text)
  long_name : {s rest : List ℕ} → begins is_letter text ≡ true → Run is_name_byte s rest text → IsNoWord s → 255 < length s → Faulty fresh text E01 (length text)
  left_out : {s rest : List ℕ} (w : LeftOut) → begins is_letter text ≡ true → Run is_name_byte s rest text → s ≡ left_out_text w → Faulty fresh text E06 (length text)
  large : {base : ℕ} {ds more : List ℕ} → Digits text base ds more → 2 ^ 32 ≤ value_of base ds → Faulty fresh text E02 (length text)
  long_long : {base : ℕ} {ds more : List ℕ} → Digits text base ds more → value_of base ds < 2 ^ 32 → begins_long_long more ≡ true → Faulty fresh text E06 (length text)
  point : {base : ℕ} {ds more : List ℕ} → Digits text base ds more → value_of base ds < 2 ^ 32 → begins_with 46 more ≡ true → Faulty fresh text E06 (length text)
  -- the byte that can't go on a number: the suffix before it is as long as it can be
  tail : {base : ℕ} {ds more : List ℕ} {says : Bool × Bool} (suffix : List ℕ) (b : ℕ) (rest : List ℕ) → Digits text base ds more → value_of base ds < 2 ^ 32 → begins_long_long more ≡ false → begins_with 46 more ≡ false →
      more ≡ suffix ++ (b ∷ rest) → suffix_of suffix ≡ Some says → suffix_of (suffix ++ b ∷ []) ≡ None → is_name_byte b ≡ true → Faulty fresh text E01 (length (b ∷ rest))
  char_bad : (at : List ℕ) → text ≡ 39 ∷ at → ((v : ℕ) (r : List ℕ) → Item 39 at v r → ⊥) → (IsCut at → ⊥) → Faulty fresh text E01 (length at)
  char_second : {v : ℕ} {body : List ℕ} (b : ℕ) (rest : List ℕ) → text ≡ 39 ∷ body → Item 39 body v (b ∷ rest) → (b == 39) ≡ false → Faulty fresh text E01 (length (b ∷ rest))
  char_cut : {body : List ℕ} → text ≡ 39 ∷ body → IsCut body → Faulty fresh text E01 (length text)
  char_open : {v : ℕ} {body : List ℕ} → text ≡ 39 ∷ body → Item 39 body v [] → Faulty fresh text E01 (length text)
  str_bad : {body : List ℕ} (vs at : List ℕ) → text ≡ 34 ∷ body → Items 34 body vs at → begins_with 34 at ≡ false → ((v : ℕ) (r : List ℕ) → Item 34 at v r → ⊥) → (IsCut at → ⊥) → Faulty fresh text E01 (length at)
  str_cut : {body : List ℕ} (vs at : List ℕ) → text ≡ 34 ∷ body → Items 34 body vs at → IsCut at → Faulty fresh text E01 (length text)
  hash : {rest : List ℕ} → text ≡ 35 ∷ rest → ((h : Header) (r : List ℕ) → fresh ≡ true → Include text h r → ⊥) → Faulty fresh text E04 (length text)
  open_comment : {body : List ℕ} → text ≡ 47 ∷ 42 ∷ body → ((x r : List ℕ) → body ≡ x ++ (42 ∷ 47 ∷ r) → ⊥) → Faulty fresh text E03 (length text)

-- The text is of these tokens: it is pieces, one after another, to its end.
pub record HasTokens (unit : ℕ) (text : List ℕ) (tokens : List Token) : Type 0 where
  pub fits : length text ≤ 1048576
  pub pieces : List (Option Kind × List ℕ)
  pub split : Splits start text pieces []
  pub are : tokens_of unit start pieces ≡ tokens

-- The first fault of the text: it is pieces up to where a fault stands, or up to the literal that the fault stands in.
pub record HasFault (unit : ℕ) (text : List ℕ) (code : ℕ) (place : Place) : Type 0 where
  pub fits : length text ≤ 1048576
  pub pieces : List (Option Kind × List ℕ)
  pub rest : List ℕ
  pub left : ℕ
  pub split : Splits start text pieces rest
  pub fault : Faulty (ends_at start pieces).fresh rest code left
  pub at : place_of unit (after start (take (length text - left) text)) ≡ place

pub data FirstFault (unit : ℕ) (text : List ℕ) : ℕ → Place → Type 0 where
  too_long : 1048576 < length text → FirstFault unit text E05 (place_of unit start)
  of_text : {code : ℕ} {place : Place} → HasFault unit text code place → FirstFault unit text code place
