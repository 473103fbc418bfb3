use Rattle.std.proofs.Common.{◌≡◌, ◌+◌, drop, option_map}
use Rattle.ns_types.specs.Veneers.{place_of}
use Rattle.c_setup.proofs.setup.place_of.Given as goal

abbrev pub invariant-loop-other : goal.invariant-loop-other
invariant-loop-other l = record {
  counted : l.n ≡ l.other-index;
  so_far : option_map (λ k. l.n + k) (place_of (drop l.other-index l.names) l.name) ≡ place_of l.names l.name;
}
