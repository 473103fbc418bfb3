use Rattle.ns_types.proofs.BoundLaws.{adds_phase, reaches_phase}
use Rattle.ns_types.proofs.laws.phases.Goals as goal

pub returns-clause-adds : goal.returns-clause-adds
returns-clause-adds c enters enter adds turns fuel w = adds_phase enters enter adds turns fuel w

pub returns-clause-further : goal.returns-clause-further
returns-clause-further c enters low high adds more turns turns' most fuel w = reaches_phase enters low high adds more turns turns' most fuel w

pub returns-clause-both : goal.returns-clause-both
returns-clause-both c meaning law enters a b within fuel w =
    (adds_phase enters (meaning b) (law.adds b) b.turns fuel w, reaches_phase enters (meaning a) (meaning b) (law.adds b) (law.more a b within) a.turns b.turns within.0 fuel w)
