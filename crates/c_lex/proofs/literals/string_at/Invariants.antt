use Rattle.std.proofs.Common.{◌≡◌, ◌+◌, ◌-◌, length}
use Rattle.c_lex.specs.Reading.{string_at}
use Rattle.c_lex.proofs.Strings.{with_front}
use Rattle.c_lex.proofs.literals.string_at.Given as goal

abbrev pub invariant-loop-i : goal.invariant-loop-i
invariant-loop-i l = with_front l.bytes (string_at l.cut (l.most - l.i) l.rest) ≡ string_at l.cut (length l.body + 1) l.body
