use Rattle.std.proofs.Common.{◌≡◌, ◌++◌, flat_map, take}
use Rattle.cm_base.specs.LittleEndian.{le16}
use Rattle.elf32.proofs.structures.put_halves.Given as goal

abbrev pub invariant-loop-field : goal.invariant-loop-field
invariant-loop-field l = l.to ≡ l.initial.to ++ flat_map le16 (take l.field-index l.fields)
