use Rattle.range_laws.proofs.TableLaws as tables
use Rattle.range_laws.proofs.laws.block_law.Goals as goal

pub returns-clause-locals : goal.returns-clause-locals
returns-clause-locals c scope name t initialised s fit f = tables.local_law scope name t initialised s fit f

pub returns-clause-parameters : goal.returns-clause-parameters
returns-clause-parameters c scope name t first s fit f = tables.parameter_law scope name t first s fit f

pub returns-clause-completed : goal.returns-clause-completed
returns-clause-completed c n t s fit f g = tables.complete_local_law n t s fit f g

pub returns-clause-closed : goal.returns-clause-closed
returns-clause-closed c scope s fit = tables.close_block_law scope s fit

pub returns-clause-lists : goal.returns-clause-lists
returns-clause-lists c outer s t g fit = tables.close_parameters_law outer s t g fit
