-- Which word a name may be, told by its first byte, its size and its last byte: so only one has to be compared with it.
use Rattle.std.specs.Prelude.{ℕ, ◌==◌, Option, Some, None, if◌then◌else◌}
use Rattle.c_lex.specs.declared.token.Keyword.{Keyword}
use Rattle.c_lex.specs.declared.token.Keyword.TheVariants as word
use Rattle.c_lex.specs.declared.words.LeftOut.{LeftOut}
use Rattle.c_lex.specs.declared.words.LeftOut.TheVariants as left

abbrev pub likely_c : ℕ → ℕ → Option Keyword
likely_c size last = if last == 116 then Some word.Const else (if last == 114 then Some word.Char else
    (if last == 101 then Some (if size == 4 then word.Case else word.Continue) else None))

abbrev pub likely_e : ℕ → Option Keyword
likely_e last = if last == 110 then Some word.Extern else (if last == 109 then Some word.Enum else (if last == 101 then Some word.Else else None))

abbrev pub likely_i : ℕ → Option Keyword
likely_i last = if last == 102 then Some word.If else (if last == 116 then Some word.Int else (if last == 101 then Some word.Inline else None))

abbrev pub likely_s : ℕ → ℕ → Option Keyword
likely_s size last = if last == 99 then Some word.Static else (if last == 116 then Some (if size == 5 then word.Short else word.Struct) else
    (if last == 100 then Some word.Signed else (if last == 104 then Some word.Switch else (if last == 102 then Some word.Sizeof else None))))

-- the word of the language
unfoldable pub likely_word : ℕ → ℕ → ℕ → Option Keyword
likely_word first size last = if first == 95 then Some word.Attribute else (if first == 98 then Some word.Break else (if first == 99 then likely_c size last else
    (if first == 100 then Some (if size == 2 then word.Do else word.Default) else (if first == 101 then likely_e last else (if first == 102 then Some word.For else
    (if first == 105 then likely_i last else (if first == 108 then Some word.Long else (if first == 114 then Some word.Return else
    (if first == 115 then likely_s size last else (if first == 116 then Some word.Typedef else (if first == 117 then Some word.Unsigned else
    (if first == 118 then Some (if size == 4 then word.Void else word.Volatile) else (if first == 119 then Some word.While else None)))))))))))))

abbrev pub likely_under : ℕ → ℕ → Option LeftOut
likely_under size last = if last == 108 then Some (if size == 5 then left.Bool else left.ThreadLocal) else (if last == 120 then Some left.Complex else
    (if last == 115 then Some left.Alignas else (if last == 102 then Some left.Alignof else (if last == 99 then Some (if size == 7 then left.Atomic else left.Generic) else
    (if last == 110 then Some left.Noreturn else (if last == 116 then Some left.StaticAssert else None))))))

-- the word that is left out
unfoldable pub likely_left_out : ℕ → ℕ → ℕ → Option LeftOut
likely_left_out first size last = if first == 95 then likely_under size last else (if first == 97 then Some (if size == 3 then left.Asm else left.Auto) else
    (if first == 100 then Some left.Double else (if first == 102 then Some left.Float else (if first == 103 then Some left.Goto else
    (if first == 114 then Some (if last == 114 then left.Register else left.Restrict) else (if first == 117 then Some left.Union else None))))))
