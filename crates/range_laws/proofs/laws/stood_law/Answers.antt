use Rattle.range_laws.proofs.StoodLaws.{function_stood, object_stood}
use Rattle.range_laws.proofs.laws.stood_law.Goals as goal

pub returns-clause-objects : goal.returns-clause-objects
returns-clause-objects c name t how initialised s sound = object_stood name t how s sound initialised

pub returns-clause-functions : goal.returns-clause-functions
returns-clause-functions c name t how s sound = function_stood name t how s sound
