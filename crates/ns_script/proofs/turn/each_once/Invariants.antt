use Rattle.std.proofs.Common.{◌≡◌, length}
use Rattle.ns_script.specs.Turns.{each_once}
use Rattle.ns_script.proofs.turn.each_once.Given as goal

abbrev pub invariant-loop-rest : goal.invariant-loop-rest
invariant-loop-rest l = each_once l.rest ≡ each_once l.settings

abbrev pub decreases-loop-rest : goal.decreases-loop-rest
decreases-loop-rest l = length l.rest
