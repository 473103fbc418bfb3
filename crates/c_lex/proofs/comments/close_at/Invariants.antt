use Rattle.std.proofs.Common.{◌≡◌, drop}
use Rattle.c_lex.specs.Reading.{close_at}
use Rattle.c_lex.proofs.comments.close_at.Given as goal

abbrev pub invariant-loop-i : goal.invariant-loop-i
invariant-loop-i l = close_at (drop l.i l.text) ≡ close_at l.text
