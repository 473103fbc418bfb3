use Rattle.std.proofs.Common.{◌≡◌, ◌+◌, ◌-◌, ◌*◌}
use Rattle.c_init.specs.Blanks.{blank, blank_from}
use Rattle.c_init.proofs.blanks.+blanks.Given as goal

abbrev pub decreases-blank : goal.decreases-blank
decreases-blank l = 3 * l.deep

abbrev pub decreases-blank_from : goal.decreases-blank_from
decreases-blank_from l = 3 * l.deep + 2

abbrev pub decreases-blank_part : goal.decreases-blank_part
decreases-blank_part l = 3 * l.deep + 1

-- the parts that are left answer as the whole
abbrev pub invariant-blank_from-loop-k : goal.invariant-blank_from-loop-k
invariant-blank_from-loop-k l = blank_from (blank l.deep l.structs l.place) l.parts l.at l.first l.n l.fn.items ≡ blank_from (blank l.deep l.structs l.place) l.parts l.at l.i (l.n - l._k) l.done
