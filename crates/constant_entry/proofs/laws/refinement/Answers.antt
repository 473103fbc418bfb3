use Rattle.constant_entry.proofs.OneEntry.{refines_one, only_one, declared_one}
use Rattle.constant_entry.proofs.laws.refinement.Goals as goal

pub returns-clause-does : goal.returns-clause-does
returns-clause-does c name n small = refines_one name n small

pub returns-clause-only : goal.returns-clause-only
returns-clause-only c name n small = only_one name n small

pub returns-clause-declared : goal.returns-clause-declared
returns-clause-declared c name n small = declared_one name n small
