use Rattle.std.proofs.Common.{All, Contains, IfOk, subst}
use Rattle.veneer_link.proofs.placing.assign.Goals as goal

pub returns-clause-kept : goal.returns-clause-kept
returns-clause-kept c =
    subst (λ o. IfOk c.assign_to.result (λ new. All (Contains new.list) o)) c.old_list.ensures c.assign_to.ensures.kept
