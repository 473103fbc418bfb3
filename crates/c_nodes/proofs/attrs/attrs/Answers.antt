use Rattle.std.proofs.Common.{◌≡◌, length, true, rules}
use Rattle.c_lex.specs.declared.token.Keyword.TheVariants as word
use Rattle.c_grammar.specs.declared.tokens.Sign.TheVariants.{Word}
use Rattle.c_grammar.specs.Tokens.{next_is}
use Rattle.c_grammar.specs.Reading as spec
use Rattle.c_nodes.proofs.LevelLaws.{goes_on}
use Rattle.c_nodes.proofs.attrs.attrs.Goals as goal

pub loop-preserved : goal.loop-preserved
loop-preserved c =
    let h : (next_is (Word word.Attribute)) c.loop.rest.now ≡ true = search rules in
    goes_on (next_is (Word word.Attribute)) (spec.read_attr_item c.args.names.now) (length c.args.ts.now) c.loop.counter _ _ _ _ _ c.loop-test.true h c.in_ok-more.ensures c.loop.invariant
