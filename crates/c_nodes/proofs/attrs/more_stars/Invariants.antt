use Rattle.std.proofs.Common.{◌≡◌, ◌-◌, length}
use Rattle.c_grammar.specs.Tokens.{begins_star}
use Rattle.c_grammar.specs.Reading as spec
use Rattle.c_nodes.proofs.attrs.more_stars.Given as goal

abbrev pub invariant-loop : goal.invariant-loop
invariant-loop l = spec.repeat (begins_star) (spec.read_star_item l.names) (length l.fn.ts - l.counter) l.all l.rest ≡ spec.repeat (begins_star) (spec.read_star_item l.names) (length l.fn.ts) l.fn.so_far l.fn.ts
