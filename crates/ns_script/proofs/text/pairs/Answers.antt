use Rattle.std.proofs.Common.{length, sym, arith}
use Rattle.ns_script.specs.Text.{pairs}
use Rattle.ns_script.proofs.NumberLaws.{empty_yes, empty_no, pairs_bad, pairs_end, pairs_odd}
use Rattle.ns_script.proofs.text.pairs.Goals as goal

pub returns-in-None : goal.returns-in-None
returns-in-None c =
    pairs_bad c.loop-rest.found c.loop-rest.rest.now (pairs c.args.word.now) c.loop-rest-test.true (sym c.in-None.ensures) c.loop-rest.invariant

pub returns-then-is_empty : goal.returns-then-is_empty
returns-then-is_empty c =
    pairs_end c.loop-rest.found c.loop-rest.rest.now (pairs c.args.word.now) (empty_yes (length c.loop-rest.rest.now) c.is_empty.result c.is_empty.ensures c.if-is_empty.true) c.loop-rest.invariant

pub returns-else-is_empty : goal.returns-else-is_empty
returns-else-is_empty c =
    pairs_odd c.loop-rest.found c.loop-rest.rest.now (pairs c.args.word.now) (omega (arith, c.loop-rest-test.false)) (empty_no (length c.loop-rest.rest.now) c.is_empty.result c.is_empty.ensures c.if-is_empty.false) c.loop-rest.invariant
