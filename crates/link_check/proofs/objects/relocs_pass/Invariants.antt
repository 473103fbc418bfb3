use Rattle.std.proofs.Common.{◌≡◌, drop}
use Rattle.std.specs.List.{list_all}
use Rattle.link_check.specs.Checks.{reloc_passes}
use Rattle.link_check.proofs.objects.relocs_pass.Given as goal

abbrev pub invariant-loop-r : goal.invariant-loop-r
invariant-loop-r l = list_all (reloc_passes l.objects l.o) l.o.relocs ≡ list_all (reloc_passes l.objects l.o) (drop l.r-index l.o.relocs)
