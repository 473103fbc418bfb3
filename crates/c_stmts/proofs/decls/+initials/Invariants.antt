use Rattle.std.proofs.Common.{◌≡◌, ◌+◌, ◌-◌, ◌*◌, length}
use Rattle.c_grammar.specs.Tokens.{comma_more}
use Rattle.c_grammar.specs.Reading.{levels}
use Rattle.c_grammar.specs.Reading as spec
use Rattle.c_stmts.proofs.decls.+initials.Given as goal

abbrev pub decreases-initial : goal.decreases-initial
decreases-initial l = l.left * 64 + 0

abbrev pub decreases-braced_initial : goal.decreases-braced_initial
decreases-braced_initial l = l.left * 64 + 3

abbrev pub decreases-initial_item : goal.decreases-initial_item
decreases-initial_item l = l.left * 64 + 1

abbrev pub decreases-more_initials : goal.decreases-more_initials
decreases-more_initials l = l.left * 64 + 2

abbrev pub invariant-more_initials-loop : goal.invariant-more_initials-loop
invariant-more_initials-loop l = spec.repeat (comma_more) (spec.read_initial_item l.names (levels l.names l.left)) (length l.fn.ts - l.counter) l.all l.rest ≡ spec.repeat (comma_more) (spec.read_initial_item l.names (levels l.names l.left)) (length l.fn.ts) l.fn.so_far l.fn.ts
