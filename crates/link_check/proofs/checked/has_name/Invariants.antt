use Rattle.std.proofs.Common.{◌≡◌, bytes_eq, drop}
use Rattle.std.specs.List.{list_any}
use Rattle.link_check.proofs.checked.has_name.Given as goal

abbrev pub invariant-loop-v : goal.invariant-loop-v
invariant-loop-v l = list_any (λ v. bytes_eq v.name l.name) l.veneers ≡ list_any (λ v. bytes_eq v.name l.name) (drop l.v-index l.veneers)
