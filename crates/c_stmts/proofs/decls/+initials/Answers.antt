use Rattle.std.proofs.Common.{◌≡◌, length, true, rules}
use Rattle.c_grammar.specs.Tokens.{comma_more}
use Rattle.c_grammar.specs.Reading.{levels}
use Rattle.c_grammar.specs.Reading as spec
use Rattle.c_nodes.proofs.LevelLaws.{goes_on}
use Rattle.c_stmts.proofs.decls.+initials.Goals as goal

pub more_initials-loop-preserved : goal.more_initials-loop-preserved
more_initials-loop-preserved t c =
    let h : (comma_more) c.loop.rest.now ≡ true = search rules in
    goes_on (comma_more) (spec.read_initial_item c.args.names.now (levels c.args.names.now c.args.left)) (length c.args.ts.now) c.loop.counter _ _ _ _ _ c.loop-test.true h c.in_ok-more.ensures c.loop.invariant
