use Rattle.std.proofs.Common.{◌≡◌, drop}
use Rattle.std.specs.List.{list_any}
use Rattle.link_check.specs.Checks.{is_code}
use Rattle.link_check.proofs.names.is_among.Given as goal

abbrev pub invariant-loop-s : goal.invariant-loop-s
invariant-loop-s l = list_any (is_code l.name) l.symbols ≡ list_any (is_code l.name) (drop l.s-index l.symbols)
