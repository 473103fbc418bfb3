use Rattle.std.proofs.Common.{length, refl, arith}
use Rattle.ns_types.proofs.CounterLaws.{same_chain, same_phase, same_run, chain_goes_on, phase_goes_on}
use Rattle.ns_types.proofs.laws.counters.Goals as goal

pub returns-clause-chains : goal.returns-clause-chains
returns-clause-chains c enters enter on next turns exit kept n m g args w p q =
    same_chain enters enter on turns next next (length w.turns) (λ v le. refl) exit kept n m g args w p q (omega arith)

pub returns-clause-phases : goal.returns-clause-phases
returns-clause-phases c enters enter on turns fuel fuel' w p q = same_phase enters enter on turns fuel fuel' w p q

pub returns-clause-runs : goal.returns-clause-runs
returns-clause-runs c enters enter on turns start memory ts fuel n p q = same_run enters enter on turns start memory ts fuel n p q

pub returns-clause-chains_go_on : goal.returns-clause-chains_go_on
returns-clause-chains_go_on c enters enter on next later turns exit kept n g args w = chain_goes_on enters enter on turns next later exit kept n g args w

pub returns-clause-phases_go_on : goal.returns-clause-phases_go_on
returns-clause-phases_go_on c enters enter on turns fuel w = phase_goes_on enters enter on turns fuel w
