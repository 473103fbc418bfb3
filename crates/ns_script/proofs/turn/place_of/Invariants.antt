use Rattle.std.proofs.Common.{◌≡◌, drop}
use Rattle.ns_script.specs.Turns.{names, place_from, place_of}
use Rattle.ns_script.proofs.turn.place_of.Given as goal

abbrev pub invariant-loop-k : goal.invariant-loop-k
invariant-loop-k l = place_from l.k (drop l.k names) l.name ≡ place_of l.name
