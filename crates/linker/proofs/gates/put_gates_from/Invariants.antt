use Rattle.std.proofs.Common.{◌≡◌, ◌+◌, ◌-◌, ◌*◌, ◌++◌, flat_map}
use Rattle.veneer_link.specs.Assign.{places_from}
use Rattle.linker.specs.Passes.{gate_at}
use Rattle.linker.proofs.gates.put_gates_from.Given as goal

abbrev pub invariant-loop-i : goal.invariant-loop-i
invariant-loop-i l = record {
  gates : l.to ++ flat_map (gate_at l.veneers l.names) (places_from (l.n - l._i) l.at) ≡ l.initial.to ++ flat_map (gate_at l.veneers l.names) (places_from l.n l.from);
  at : l.at ≡ l.from + 8 * l._i;
}
