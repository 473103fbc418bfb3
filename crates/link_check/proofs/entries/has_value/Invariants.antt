use Rattle.std.proofs.Common.{◌≡◌, drop}
use Rattle.std.specs.List.{list_any}
use Rattle.link_check.specs.Checks.{is_twin}
use Rattle.link_check.proofs.entries.has_value.Given as goal

abbrev pub invariant-loop-t : goal.invariant-loop-t
invariant-loop-t l = list_any (is_twin l.code l.value) l.symbols ≡ list_any (is_twin l.code l.value) (drop l.t-index l.symbols)
