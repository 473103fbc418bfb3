use Rattle.std.proofs.Common.{◌≡◌, drop}
use Rattle.c_define.specs.Units as spec
use Rattle.c_define.proofs.units.parts_typed.Given as goal

-- what is left to check answers as the whole
abbrev pub invariant-loop-part : goal.invariant-loop-part
invariant-loop-part l = spec.parts_typed l.parts spec.no_definitions l.fn.tables ≡ spec.parts_typed (drop l.part-index l.parts) l.all l.tables
