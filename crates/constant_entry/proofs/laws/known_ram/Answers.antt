use Rattle.constant_entry.specs.Code.{constant_device}
use Rattle.constant_entry.proofs.Placed.{gives_constant}
use Rattle.constant_entry.proofs.Quiet.{all_tell}
use Rattle.constant_entry.proofs.OneEntry.{ram_one}
use Rattle.constant_entry.proofs.laws.known_ram.Goals as goal

pub returns-clause-tells : goal.returns-clause-tells
returns-clause-tells c n small start whole ts k = all_tell (constant_device n) n (gives_constant n small) start whole ts k

pub returns-clause-ram : goal.returns-clause-ram
returns-clause-ram c name n small = ram_one name n small
