use Rattle.range_laws.proofs.LookupLaws.{member_of_law, named_law, type_named_law}
use Rattle.range_laws.proofs.laws.named_law.Goals as goal

pub returns-clause-exprs : goal.returns-clause-exprs
returns-clause-exprs c entry s fit name = named_law entry s fit name

pub returns-clause-types : goal.returns-clause-types
returns-clause-types c s fit name = type_named_law s fit name

pub returns-clause-members : goal.returns-clause-members
returns-clause-members c s fit t dot name = member_of_law s fit t dot name
