use Rattle.std.proofs.Common.{length}
use Rattle.c_lex.proofs.StepLaws.{SoFar}
use Rattle.c_lex.proofs.lexer.split.Given as goal

abbrev pub invariant-loop-rest : goal.invariant-loop-rest
invariant-loop-rest l = SoFar l.unit l.text l.tokens l.spot l.rest

abbrev pub decreases-loop-rest : goal.decreases-loop-rest
decreases-loop-rest l = length l.rest
