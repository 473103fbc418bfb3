use Rattle.c_mean.proofs.Further.{goes_further, runs_extend}
use Rattle.c_mean.proofs.laws.bound_law.Goals as goal

pub returns-clause-bodies : goal.returns-clause-bodies
returns-clause-bodies c p enters = goes_further p enters

pub returns-clause-runs : goal.returns-clause-runs
returns-clause-runs c p veneers start ts a b within = runs_extend p veneers start ts a b within
