use Rattle.c_join.proofs.CauseLaws.{told}
use Rattle.c_join.proofs.whole.join.Goals as goal

pub returns-clause-fault : goal.returns-clause-fault
returns-clause-fault c = told c.args.units.now c.joined.result c.joined.ensures
