use Rattle.std.proofs.Common.{◌≡◌, ◌-◌, length}
use Rattle.c_lex.specs.declared.token.Punct.TheVariants as mark
use Rattle.c_grammar.specs.declared.tokens.Sign.TheVariants.{Mark}
use Rattle.c_grammar.specs.Tokens.{next_is}
use Rattle.c_grammar.specs.Reading.{levels}
use Rattle.c_grammar.specs.Reading as spec
use Rattle.c_stmts.proofs.decls.more_inits.Given as goal

abbrev pub invariant-loop : goal.invariant-loop
invariant-loop l = spec.repeat (next_is (Mark mark.Comma)) (spec.read_init_item l.names (levels l.names l.left)) (length l.fn.ts - l.counter) l.all l.rest ≡ spec.repeat (next_is (Mark mark.Comma)) (spec.read_init_item l.names (levels l.names l.left)) (length l.fn.ts) l.fn.so_far l.fn.ts
