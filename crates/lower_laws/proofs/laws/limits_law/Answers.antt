use Rattle.lower_laws.proofs.MidLaws.{limited, entries_are, stack_from, stack_to, stack_by_eight}
use Rattle.lower_laws.proofs.laws.limits_law.Goals as goal

pub returns-clause-functions : goal.returns-clause-functions
returns-clause-functions c names globals f is = limited names globals f is

pub returns-clause-entries : goal.returns-clause-entries
returns-clause-entries c p good = entries_are p good

pub returns-clause-stack : goal.returns-clause-stack
returns-clause-stack c p good = (stack_from p, stack_to p good, stack_by_eight p)
