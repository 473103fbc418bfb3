use Rattle.std.proofs.Common.{◌≡◌, ◌++◌, take}
use Rattle.std.specs.List.{flat_map}
use Rattle.ns_script.specs.Transcript.{spaced}
use Rattle.ns_script.proofs.transcript.push_all_spaced.Given as goal

abbrev pub invariant-loop-value : goal.invariant-loop-value
invariant-loop-value l = l.out ≡ l.fn.out ++ flat_map spaced (take l.value-index l.values)
