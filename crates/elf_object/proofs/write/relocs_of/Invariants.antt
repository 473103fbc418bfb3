use Rattle.std.proofs.Common.{◌≡◌, take}
use Rattle.elf_object.specs.Structures.{relocs_bytes}
use Rattle.elf_object.proofs.write.relocs_of.Given as goal

abbrev pub invariant-loop-reloc : goal.invariant-loop-reloc
invariant-loop-reloc l = l.bytes ≡ relocs_bytes (take l.reloc-index l.relocs)
