use Rattle.std.proofs.Common.{◌≡◌, drop}
use Rattle.std.specs.List.{list_all}
use Rattle.elf_object.specs.File.{name_fits}
use Rattle.elf_object.proofs.fits.names_fit.Given as goal

abbrev pub invariant-loop-s : goal.invariant-loop-s
invariant-loop-s l = list_all name_fits l.symbols ≡ list_all name_fits (drop l.s-index l.symbols)
