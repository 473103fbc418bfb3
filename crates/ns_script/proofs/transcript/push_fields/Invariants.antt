use Rattle.std.proofs.Common.{◌≡◌, ◌++◌, drop}
use Rattle.ns_script.specs.Transcript.{fields_from}
use Rattle.ns_script.proofs.transcript.push_fields.Given as goal

abbrev pub invariant-loop-value : goal.invariant-loop-value
invariant-loop-value l =
    (l.k ≡ l.value-index) × (l.out ++ fields_from l.value-index (drop l.value-index l.values) ≡ l.fn.out ++ fields_from 0 l.values)
