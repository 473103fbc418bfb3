use Rattle.std.proofs.Common.{◌≡◌, ◌+◌, length, drop}
use Rattle.c_lex.specs.Classes.{is_in}
use Rattle.c_lex.specs.Reading as spec
use Rattle.c_lex.proofs.runs.run_len.Given as goal

abbrev pub invariant-loop-i : goal.invariant-loop-i
invariant-loop-i l = l.i + length (spec.front (is_in l.class) (drop l.i l.text)) ≡ length (spec.front (is_in l.class) l.text)
