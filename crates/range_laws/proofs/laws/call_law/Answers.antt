use Rattle.range_laws.proofs.CallLaws.{called_law, intrinsic_law}
use Rattle.range_laws.proofs.laws.call_law.Goals as goal

pub returns-clause-called : goal.returns-clause-called
returns-clause-called c a place f args h g = called_law a place f args h g

pub returns-clause-intrinsics : goal.returns-clause-intrinsics
returns-clause-intrinsics c a place i args h = intrinsic_law a place i args h
