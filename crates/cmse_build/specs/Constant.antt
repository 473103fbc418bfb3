-- The text of a program of one entry function that gives a constant.
use Rattle.std.specs.Prelude.{◌≡◌, ◌≤◌, ◌==◌, ◌&&◌, ◌||◌, ℕ, Bool, true, false, not, nat_eq, nat_le, ◌⊎◌, List, [], ◌∷◌, ◌++◌, length, codes}
use Rattle.std.specs.Fmt.{decimal}
use Rattle.std.specs.List.{list_any, list_all, starts_with}
use Rattle.std.specs.Str.{bytes_eq}

-- the bytes that begin a name (C11, 6.4.2.1)
abbrev pub is_letter : ℕ → Bool
is_letter b = (nat_le 65 b && nat_le b 90) || ((nat_le 97 b && nat_le b 122) || (b == 95))

abbrev pub is_digit : ℕ → Bool
is_digit b = nat_le 48 b && nat_le b 57

-- the bytes that go a name on
abbrev pub is_word_byte : ℕ → Bool
is_word_byte b = is_letter b || is_digit b

abbrev pub is_c_name : List ℕ → Bool
is_c_name [] = false
is_c_name (b ∷ bs) = is_letter b && list_all is_word_byte bs

-- digits without a leading 0
abbrev pub is_decimal : List ℕ → Bool
is_decimal [] = false
is_decimal (b ∷ bs) = list_all is_digit (b ∷ bs) && (not (b == 48) || (length bs == 0))

-- the words of the grammar, and those of C that the language leaves out (C11, 6.4.1)
abbrev pub kept_words : List (List ℕ)
kept_words =
    codes "typedef" ∷ codes "extern" ∷ codes "static" ∷ codes "inline" ∷ codes "const" ∷
    codes "volatile" ∷ codes "void" ∷ codes "char" ∷ codes "short" ∷ codes "int" ∷
    codes "long" ∷ codes "signed" ∷ codes "unsigned" ∷ codes "struct" ∷ codes "enum" ∷
    codes "__attribute__" ∷ codes "return" ∷ codes "break" ∷ codes "continue" ∷ codes "if" ∷
    codes "else" ∷ codes "while" ∷ codes "do" ∷ codes "for" ∷ codes "switch" ∷
    codes "case" ∷ codes "default" ∷ codes "sizeof" ∷ codes "_Bool" ∷ codes "_Complex" ∷
    codes "union" ∷ codes "goto" ∷ codes "auto" ∷ codes "register" ∷ codes "restrict" ∷
    codes "asm" ∷ codes "_Alignas" ∷ codes "_Alignof" ∷ codes "_Atomic" ∷ codes "_Generic" ∷
    codes "_Noreturn" ∷ codes "_Static_assert" ∷ codes "_Thread_local" ∷ codes "float" ∷ codes "double" ∷
    []

-- one of the words that no function can have as its name
unfoldable pub is_kept_word : List ℕ → Bool
is_kept_word name = list_any (λ word. bytes_eq word name) kept_words

-- a kept word, or a name that the tools keep for themselves (ECM0359818)
unfoldable pub is_kept_name : List ℕ → Bool
is_kept_name name =
    is_kept_word name || (starts_with nat_eq name (codes "cmse_") || starts_with nat_eq name (codes "__acle_se_"))

-- at most 31 bytes that are a name and aren't kept
unfoldable pub is_entry_name : List ℕ → Bool
is_entry_name name = is_c_name name && (nat_le (length name) 31 && not (is_kept_name name))

-- what follows the number: the end of the function, with at most one line feed after it
abbrev pub IsEnd : List ℕ → Type 0
IsEnd rest = (rest ≡ codes "; }") ⊎ (rest ≡ codes "; }" ++ 10 ∷ [])

-- The text is that of the entry function of this name that returns the number, with at most one line feed after it.
pub record IsConstant (text name : List ℕ) (n : ℕ) : Type 0 where
  pub rest : List ℕ
  pub is_name : is_entry_name name ≡ true
  pub is_int : n ≤ 2147483647
  pub is_end : IsEnd rest
  pub spelled : text ≡ codes "int __attribute__((cmse_nonsecure_entry)) " ++ (name ++ (codes "(void) { return " ++ (decimal n ++ rest)))
