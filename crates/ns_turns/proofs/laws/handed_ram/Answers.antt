use Rattle.ns_turns.proofs.Tell.{tells}
use Rattle.ns_turns.proofs.RamLaws.{knows_ram}
use Rattle.ns_turns.proofs.laws.handed_ram.Goals as goal

pub returns-clause-ram : goal.returns-clause-ram
returns-clause-ram c device enters secure start ts n tell = knows_ram device enters secure start ts n tell

pub returns-clause-tells : goal.returns-clause-tells
returns-clause-tells c device s side outside = tells device s side outside
