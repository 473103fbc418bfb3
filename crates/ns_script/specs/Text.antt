-- The lines and words of a text, and the numbers and bytes that words say.
use Rattle.std.specs.Prelude.{ℕ, ◌+◌, ◌-◌, ◌*◌, Bool, ◌&&◌, nat_le, ◌==◌, List, [], ◌∷◌, length, take, drop, slice_index, position, Option, Some, None, option_and_then, option_map, if◌then◌else◌}
use Rattle.std.specs.List.{slice_split, before_first}

infixl 10 ◌>>=◌
abbrev pub ◌>>=◌ : {A B : Type 0} → Option A → (A → Option B) → Option B
o >>= f = option_and_then f o

-- the answer, where the test passes
abbrev pub some_if : {A : Type 0} → Bool → A → Option A
some_if b x = if b then Some x else None

-- a line without the carriage return at its end
unfoldable pub without_return : List ℕ → List ℕ
without_return line = if slice_index line (length line - 1) == 13 then take (length line - 1) line else line

-- the lines of a text that was cut at its line feeds; behind the last line feed there is a line only if bytes stand there
abbrev pub last_line : List ℕ → List (List ℕ)
last_line [] = []
last_line (c ∷ cs) = (c ∷ cs) ∷ []

abbrev pub lines_of_pieces : List (List ℕ) → List (List ℕ)
lines_of_pieces [] = []
lines_of_pieces (last ∷ []) = last_line last
lines_of_pieces (piece ∷ next ∷ more) = without_return piece ∷ lines_of_pieces (next ∷ more)

unfoldable pub lines : List ℕ → List (List ℕ)
lines text = lines_of_pieces (slice_split (λ b. b == 10) text)

-- the words of a line, between its blanks
unfoldable pub words : List ℕ → List (List ℕ)
words line = slice_split (λ b. b == 32) line

-- the words of what stands behind a blank, if anything does
abbrev pub words_left : Option (List ℕ) → List (List ℕ)
words_left None = []
words_left (Some line) = words line

-- the word, where there is no other
abbrev pub one_word : List (List ℕ) → Option (List ℕ)
one_word [] = None
one_word (word ∷ []) = Some word
one_word (word ∷ next ∷ more) = None

-- what stands before the first such byte, or all
unfoldable pub before : ℕ → List ℕ → List ℕ
before c text = before_first (λ b. b == c) text

-- what stands behind the first such byte, where there is one
unfoldable pub behind : ℕ → List ℕ → Option (List ℕ)
behind c text = option_map (λ i. drop (i + 1) text) (position (λ b. b == c) text)

-- the value of a hexadecimal digit of either case
unfoldable pub digit : ℕ → Option ℕ
digit c =
    if nat_le 48 c && nat_le c 57 then Some (c - 48)
    else (if nat_le 65 c && nat_le c 70 then Some (c - 55)
    else (if nat_le 97 c && nat_le c 102 then Some (c - 87) else None))

-- the number that digits write behind those of n
abbrev pub number_after : ℕ → List ℕ → Option ℕ
number_after n [] = Some n
number_after n (c ∷ cs) = digit c >>= λ d. number_after (16 * n + d) cs

-- the number that one to eight digits write
unfoldable pub number : List ℕ → Option ℕ
number word = if nat_le 1 (length word) && nat_le (length word) 8 then number_after 0 word else None

-- the byte that two digits write
unfoldable pub byte_in : ℕ → ℕ → Option ℕ
byte_in a b = digit a >>= λ high. digit b >>= λ low. Some (16 * high + low)

-- the bytes that pairs of digits write
abbrev pub pairs : List ℕ → Option (List ℕ)
pairs [] = Some []
pairs (a ∷ []) = None
pairs (a ∷ b ∷ cs) = byte_in a b >>= λ byte. pairs cs >>= λ more. Some (byte ∷ more)

-- the bytes that an even number of digits, at least two, write
unfoldable pub bytes_in : List ℕ → Option (List ℕ)
bytes_in word = if length word == 0 then None else pairs word
