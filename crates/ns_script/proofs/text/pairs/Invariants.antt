use Rattle.std.proofs.Common.{◌≡◌, length}
use Rattle.ns_script.specs.Text.{pairs}
use Rattle.ns_script.proofs.NumberLaws.{onto}
use Rattle.ns_script.proofs.text.pairs.Given as goal

abbrev pub invariant-loop-rest : goal.invariant-loop-rest
invariant-loop-rest l = onto l.found (pairs l.rest) ≡ pairs l.word

abbrev pub decreases-loop-rest : goal.decreases-loop-rest
decreases-loop-rest l = length l.rest
