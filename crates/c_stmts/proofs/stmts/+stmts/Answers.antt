use Rattle.std.proofs.Common.{◌≡◌, length, true, rules}
use Rattle.c_grammar.specs.Reading.{levels}
use Rattle.c_grammar.specs.Reading as spec
use Rattle.c_nodes.proofs.LevelLaws.{goes_on}
use Rattle.c_stmts.proofs.stmts.+stmts.Goals as goal

pub items-loop-preserved : goal.items-loop-preserved
items-loop-preserved t c =
    let h : (spec.in_braces) c.loop.rest.now ≡ true = search rules in
    goes_on (spec.in_braces) (spec.read_item_item c.args.names.now (levels c.args.names.now c.args.left)) (length c.args.ts.now) c.loop.counter _ _ _ _ _ c.loop-test.true h c.in_ok-more.ensures c.loop.invariant

pub parts-loop-preserved : goal.parts-loop-preserved
parts-loop-preserved t c =
    let h : (spec.in_braces) c.loop.rest.now ≡ true = search rules in
    goes_on (spec.in_braces) (spec.read_part_item c.args.names.now (levels c.args.names.now c.args.left)) (length c.args.ts.now) c.loop.counter _ _ _ _ _ c.loop-test.true h c.in_ok-more.ensures c.loop.invariant
