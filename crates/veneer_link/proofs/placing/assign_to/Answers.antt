use Rattle.veneer_link.proofs.AssignLaws.{kept}
use Rattle.veneer_link.proofs.placing.assign_to.Goals as goal

pub returns-clause-kept : goal.returns-clause-kept
returns-clause-kept c = kept c.args.entries.now c.args.old.now _ c.in_ok-veneers.ensures
