use Rattle.ns_types.proofs.TurnLaws.{more_words}
use Rattle.ns_types.proofs.turn.are_words.Goals as goal

pub loop-word-preserved : goal.loop-word-preserved
loop-word-preserved c = more_words c.args.words.now c.loop-word.word-index _ c.loop-word-test.true c.loop-word.invariant c.is_word.ensures
