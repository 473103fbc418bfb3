use Rattle.std.proofs.Common.{◌≡◌, drop}
use Rattle.std.specs.List.{list_all}
use Rattle.link_check.specs.Checks.{entry_passes}
use Rattle.link_check.proofs.entries.entries_pass.Given as goal

abbrev pub invariant-loop-name : goal.invariant-loop-name
invariant-loop-name l = list_all (entry_passes l.objects l.entries) l.entries ≡ list_all (entry_passes l.objects l.entries) (drop l.name-index l.entries)
