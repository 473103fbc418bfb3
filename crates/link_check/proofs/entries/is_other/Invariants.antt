use Rattle.std.proofs.Common.{◌≡◌, not, bytes_eq, drop}
use Rattle.std.specs.List.{list_all}
use Rattle.link_check.proofs.entries.is_other.Given as goal

abbrev pub invariant-loop-other : goal.invariant-loop-other
invariant-loop-other l = list_all (λ other. not (bytes_eq l.code other)) l.entries ≡ list_all (λ other. not (bytes_eq l.code other)) (drop l.other-index l.entries)
