use Rattle.std.proofs.Common.{◌≡◌, ◌++◌, flat_map, take}
use Rattle.elf32.specs.Structures.{section_header_bytes}
use Rattle.elf32.proofs.tables.put_section_headers.Given as goal

abbrev pub invariant-loop-header : goal.invariant-loop-header
invariant-loop-header l = l.to ≡ l.initial.to ++ flat_map section_header_bytes (take l.header-index l.headers)
