use Rattle.range_laws.proofs.TableLaws as tables
use Rattle.range_laws.proofs.laws.file_law.Goals as goal

pub returns-clause-typedefs : goal.returns-clause-typedefs
returns-clause-typedefs c name t s fit f = tables.typedef_law name t s fit f

pub returns-clause-constants : goal.returns-clause-constants
returns-clause-constants c name n s fit = tables.constant_law name n s fit

pub returns-clause-objects : goal.returns-clause-objects
returns-clause-objects c name t how initialised s fit f h = tables.object_law name t how initialised s fit f h

pub returns-clause-functions : goal.returns-clause-functions
returns-clause-functions c name t how s fit f = tables.function_law name t how s fit f

pub returns-clause-defined : goal.returns-clause-defined
returns-clause-defined c n s fit = tables.define_function_law n s fit

pub returns-clause-completed : goal.returns-clause-completed
returns-clause-completed c n t s fit f g h = tables.complete_object_law n t s fit f g h
