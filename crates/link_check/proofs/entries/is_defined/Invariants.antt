use Rattle.std.proofs.Common.{◌≡◌, drop}
use Rattle.std.specs.List.{list_any}
use Rattle.link_check.specs.Checks.{has_entry}
use Rattle.link_check.proofs.entries.is_defined.Given as goal

abbrev pub invariant-loop-o : goal.invariant-loop-o
invariant-loop-o l = list_any (has_entry l.name l.code) l.objects ≡ list_any (has_entry l.name l.code) (drop l.o-index l.objects)
