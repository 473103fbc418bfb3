use Rattle.std.proofs.Common.{◌≡◌, ◌-◌, ◌++◌}
use Rattle.elf_object.specs.Reading.{relocs_in}
use Rattle.elf_object.proofs.read.relocs_in.Given as goal

abbrev pub invariant-loop-i : goal.invariant-loop-i
invariant-loop-i l = l.relocs ++ relocs_in (l.n - l._i) l.rest ≡ relocs_in l.n l.entries
