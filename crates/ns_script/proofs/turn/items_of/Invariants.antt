use Rattle.std.proofs.Common.{◌≡◌, ◌++◌, drop}
use Rattle.ns_script.specs.Turns.{items_of}
use Rattle.ns_script.proofs.turn.items_of.Given as goal

abbrev pub invariant-loop-s : goal.invariant-loop-s
invariant-loop-s l = l.items ++ items_of (drop l.s-index l.settings) ≡ items_of l.settings
