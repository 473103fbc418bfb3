use Rattle.std.proofs.Common.{◌≡◌, drop}
use Rattle.std.specs.List.{list_any}
use Rattle.link_check.specs.Checks.{has_twin}
use Rattle.link_check.proofs.entries.has_entry.Given as goal

abbrev pub invariant-loop-s : goal.invariant-loop-s
invariant-loop-s l = list_any (has_twin l.name l.code l.o.symbols) l.o.symbols ≡ list_any (has_twin l.name l.code l.o.symbols) (drop l.s-index l.o.symbols)
