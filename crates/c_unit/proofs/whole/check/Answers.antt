use Rattle.c_unit.proofs.UnitLaws.{unit_made}
use Rattle.c_unit.proofs.whole.check.Goals as goal

pub unit_of-requires : goal.unit_of-requires
unit_of-requires c =
    unit_made c.unit_law.ensures c.as_slice.result.now c.new-tables.result c.in_ok-all.all c.parts_typed.new.tables c.as_slice-2.result.now
    c.new-tables.ensures c.in_ok-all.ensures c.as_slice-2.ensures
