use Rattle.std.specs.Prelude.{take}
use Rattle.ns_types.specs.Turns.{AreWords}
use Rattle.ns_types.proofs.turn.are_words.Given as goal

abbrev pub invariant-loop-word : goal.invariant-loop-word
invariant-loop-word l = AreWords (take l.word-index l.words)
