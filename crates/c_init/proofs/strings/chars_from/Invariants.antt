use Rattle.std.proofs.Common.{◌≡◌, drop}
use Rattle.c_init.specs.Strings.{chars_from}
use Rattle.c_init.proofs.strings.chars_from.Given as goal

-- what is left of the string answers as the whole
abbrev pub invariant-loop-b : goal.invariant-loop-b
invariant-loop-b l = chars_from l.k l.of l.place l.from l.fn.items l.bytes ≡ chars_from l.k l.of l.place l.at l.done (drop l.b-index l.bytes)
