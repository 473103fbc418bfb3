use Rattle.std.proofs.Common.{◌≡◌, drop}
use Rattle.ns_script.specs.Turns.{value_of}
use Rattle.ns_script.proofs.turn.value_of.Given as goal

abbrev pub invariant-loop-s : goal.invariant-loop-s
invariant-loop-s l = value_of l.k (drop l.s-index l.settings) ≡ value_of l.k l.settings
