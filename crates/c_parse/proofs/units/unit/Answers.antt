use Rattle.std.proofs.Common.{◌≡◌, length, true, rules}
use Rattle.c_grammar.specs.Reading as spec
use Rattle.c_nodes.proofs.LevelLaws.{goes_on}
use Rattle.c_parse.proofs.units.unit.Goals as goal

pub loop-preserved : goal.loop-preserved
loop-preserved c =
    let h : spec.is_some_token c.loop.rest.now ≡ true = search rules in
    goes_on spec.is_some_token (spec.read_part_of_unit c.args.left) (length c.args.ts.now) c.loop.counter _ _ _ _ _ c.loop-test.true h c.in_ok-more.ensures c.loop.invariant
