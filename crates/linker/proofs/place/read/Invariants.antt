use Rattle.std.proofs.Common.{◌≡◌, take, map}
use Rattle.elf_object.specs.Reading.{object_in}
use Rattle.linker.proofs.place.read.Given as goal

abbrev pub invariant-loop-file : goal.invariant-loop-file
invariant-loop-file l = l.objects ≡ map object_in (take l.file-index l.files)
