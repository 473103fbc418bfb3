use Rattle.join_laws.proofs.SeenLaws.{functions_differ, seen_functions, seen_globals}
use Rattle.join_laws.proofs.laws.twice_law.Goals as goal

pub returns-clause-functions : goal.returns-clause-functions
returns-clause-functions c us none = seen_functions us none

pub returns-clause-globals : goal.returns-clause-globals
returns-clause-globals c us none = seen_globals us none

pub returns-clause-differ : goal.returns-clause-differ
returns-clause-differ c us none = functions_differ us none
