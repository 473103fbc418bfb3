use Rattle.std.proofs.Common.{◌≡◌, option_copied}
use Rattle.ns_script.specs.Text.{words_left}
use Rattle.ns_script.specs.Turns.{settings}
use Rattle.ns_script.proofs.TurnLaws.{onto, left}
use Rattle.ns_script.proofs.turn.settings.Given as goal

abbrev pub invariant-loop-rest : goal.invariant-loop-rest
invariant-loop-rest l = onto l.found (settings (words_left (option_copied l.rest))) ≡ settings (words_left (option_copied l.fn.words))

abbrev pub decreases-loop-rest : goal.decreases-loop-rest
decreases-loop-rest l = left (option_copied l.rest)
