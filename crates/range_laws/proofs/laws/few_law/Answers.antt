use Rattle.range_laws.proofs.DeriveLaws.{derived_law, nonsecure_declared_law, specified_law}
use Rattle.range_laws.proofs.laws.few_law.Goals as goal

pub returns-clause-words : goal.returns-clause-words
returns-clause-words c w first h = specified_law w first h

pub returns-clause-derivations : goal.returns-clause-derivations
returns-clause-derivations c t ds place h f = derived_law t ds place h f

pub returns-clause-nonsecure : goal.returns-clause-nonsecure
returns-clause-nonsecure c t place h = nonsecure_declared_law t place h
