use Rattle.std.proofs.Common.{◌≡◌, ◌-◌, length, []}
use Rattle.c_grammar.specs.Reading as spec
use Rattle.c_parse.proofs.units.unit.Given as goal

abbrev pub invariant-loop : goal.invariant-loop
invariant-loop l = spec.repeat spec.is_some_token (spec.read_part_of_unit l.left) (length l.fn.ts - l.counter) (l.all.names, l.all.parts) l.rest ≡ spec.repeat spec.is_some_token (spec.read_part_of_unit l.left) (length l.fn.ts) ([], []) l.fn.ts
