use Rattle.std.proofs.Common.{◌≡◌, ◌-◌, ◌++◌}
use Rattle.elf_object.specs.Reading.{symbols_in}
use Rattle.elf_object.proofs.read.symbols_in.Given as goal

abbrev pub invariant-loop-i : goal.invariant-loop-i
invariant-loop-i l = l.symbols ++ symbols_in (l.n - l._i) l.rest l.names ≡ symbols_in l.n l.entries l.strings
