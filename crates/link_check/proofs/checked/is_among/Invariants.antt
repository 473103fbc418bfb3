use Rattle.std.proofs.Common.{◌≡◌, bytes_eq, drop}
use Rattle.std.specs.List.{list_any}
use Rattle.link_check.proofs.checked.is_among.Given as goal

abbrev pub invariant-loop-n : goal.invariant-loop-n
invariant-loop-n l = list_any (λ n. bytes_eq n l.name) l.names ≡ list_any (λ n. bytes_eq n l.name) (drop l.n-index l.names)
