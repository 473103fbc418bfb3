use Rattle.std.proofs.Common.{◌≡◌, ◌+◌, drop}
use Rattle.elf_object.specs.Reading.{name_size}
use Rattle.elf_object.proofs.read.name_len.Given as goal

abbrev pub invariant-loop-i : goal.invariant-loop-i
invariant-loop-i l = name_size l.names ≡ l.i + name_size (drop l.i l.names)
