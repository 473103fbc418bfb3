-- What can go on an expression that stands before it.
use Rattle.std.specs.Prelude.{ℕ, List, [], ◌∷◌}
use Rattle.c_lex.specs.declared.token.Punct.{Punct}
use Rattle.c_lex.specs.declared.token.Punct.TheVariants as mark
use Rattle.c_lex.specs.declared.token.Kind.{Kind}
use Rattle.c_lex.specs.declared.token.Kind.TheVariants as kind
use Rattle.c_lex.specs.declared.token.Token.{Token}

-- how loosely a token goes on with an expression before it; 0 where it doesn't
abbrev pub mark_level : Punct → ℕ
mark_level mark.Comma = 1
mark_level mark.Assign = 2
mark_level mark.StarAssign = 2
mark_level mark.SlashAssign = 2
mark_level mark.PercentAssign = 2
mark_level mark.PlusAssign = 2
mark_level mark.MinusAssign = 2
mark_level mark.ShlAssign = 2
mark_level mark.ShrAssign = 2
mark_level mark.AmpAssign = 2
mark_level mark.CaretAssign = 2
mark_level mark.PipeAssign = 2
mark_level mark.Question = 3
mark_level mark.Star = 13
mark_level mark.Slash = 13
mark_level mark.Percent = 13
mark_level mark.Plus = 12
mark_level mark.Minus = 12
mark_level mark.Shl = 11
mark_level mark.Shr = 11
mark_level mark.Less = 10
mark_level mark.Greater = 10
mark_level mark.LessEqual = 10
mark_level mark.GreaterEqual = 10
mark_level mark.EqualEqual = 9
mark_level mark.NotEqual = 9
mark_level mark.Amp = 8
mark_level mark.Caret = 7
mark_level mark.Pipe = 6
mark_level mark.AndAnd = 5
mark_level mark.OrOr = 4
mark_level mark.ParenOpen = 14
mark_level mark.BracketOpen = 14
mark_level mark.Dot = 14
mark_level mark.Arrow = 14
mark_level mark.PlusPlus = 14
mark_level mark.MinusMinus = 14
mark_level _ = 0

abbrev pub level : Kind → ℕ
level (kind.Mark m) = mark_level m
level _ = 0

abbrev pub follow : List Token → ℕ
follow [] = 0
follow (k ∷ r) = level k.kind
