use Rattle.std.proofs.Common.{◌≡◌, length, true, rules}
use Rattle.c_grammar.specs.Tokens.{begins_star}
use Rattle.c_grammar.specs.Reading as spec
use Rattle.c_nodes.proofs.LevelLaws.{goes_on}
use Rattle.c_nodes.proofs.attrs.more_stars.Goals as goal

pub loop-preserved : goal.loop-preserved
loop-preserved c =
    let h : (begins_star) c.loop.rest.now ≡ true = search rules in
    goes_on (begins_star) (spec.read_star_item c.args.names.now) (length c.args.ts.now) c.loop.counter _ _ _ _ _ c.loop-test.true h c.in_ok-more.ensures c.loop.invariant
