use Rattle.ns_turns.proofs.OnlyLaws.{only_from_refines, stops_as_program}
use Rattle.ns_turns.proofs.laws.only.Goals as goal

pub returns-clause-only : goal.returns-clause-only
returns-clause-only c device enters run refines stops = only_from_refines device enters run refines stops

pub returns-clause-stops : goal.returns-clause-stops
returns-clause-stops c enters run none = stops_as_program enters run none
