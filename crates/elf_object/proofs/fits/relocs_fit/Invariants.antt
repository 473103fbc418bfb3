use Rattle.std.proofs.Common.{◌≡◌, drop}
use Rattle.std.specs.List.{list_all}
use Rattle.elf_object.specs.File.{reloc_fits}
use Rattle.elf_object.proofs.fits.relocs_fit.Given as goal

abbrev pub invariant-loop-r : goal.invariant-loop-r
invariant-loop-r l = list_all (reloc_fits l.size l.count) l.relocs ≡ list_all (reloc_fits l.size l.count) (drop l.r-index l.relocs)
