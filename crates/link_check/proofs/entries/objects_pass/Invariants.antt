use Rattle.std.proofs.Common.{◌≡◌, drop}
use Rattle.std.specs.List.{list_all}
use Rattle.link_check.specs.Checks.{object_passes}
use Rattle.link_check.proofs.entries.objects_pass.Given as goal

abbrev pub invariant-loop-o : goal.invariant-loop-o
invariant-loop-o l = list_all (object_passes l.objects) l.objects ≡ list_all (object_passes l.objects) (drop l.o-index l.objects)
