use Rattle.range_laws.proofs.TableLaws as tables
use Rattle.range_laws.proofs.laws.tag_law.Goals as goal

pub returns-clause-used : goal.returns-clause-used
returns-clause-used c scope name s fit = tables.struct_use_law scope name s fit

pub returns-clause-declared : goal.returns-clause-declared
returns-clause-declared c scope name s fit = tables.declare_struct_law scope name s fit

pub returns-clause-begun : goal.returns-clause-begun
returns-clause-begun c tag s fit = tables.begin_struct_law tag s fit

pub returns-clause-ended : goal.returns-clause-ended
returns-clause-ended c n l place s fit f = tables.end_struct_law n l place s fit f

pub returns-clause-enums : goal.returns-clause-enums
returns-clause-enums c tag s fit = tables.begin_enum_law tag s fit

pub returns-clause-members : goal.returns-clause-members
returns-clause-members c name t l f h = tables.added_law name t l f h
