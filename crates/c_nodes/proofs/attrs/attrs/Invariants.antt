use Rattle.std.proofs.Common.{◌≡◌, ◌-◌, length}
use Rattle.c_lex.specs.declared.token.Keyword.TheVariants as word
use Rattle.c_grammar.specs.declared.tokens.Sign.TheVariants.{Word}
use Rattle.c_grammar.specs.Tokens.{next_is}
use Rattle.c_grammar.specs.Reading as spec
use Rattle.c_nodes.proofs.attrs.attrs.Given as goal

abbrev pub invariant-loop : goal.invariant-loop
invariant-loop l = spec.repeat (next_is (Word word.Attribute)) (spec.read_attr_item l.names) (length l.fn.ts - l.counter) l.all l.rest ≡ spec.repeat (next_is (Word word.Attribute)) (spec.read_attr_item l.names) (length l.fn.ts) l.fn.so_far l.fn.ts
