use Rattle.std.proofs.Common.{subst}
use Rattle.c_parse.specs.Answer.{Answers, read_whole}
use Rattle.c_parse.proofs.AnswerLaws.{derived, given, not_derived, refused}
use Rattle.c_parse.proofs.parser.parse.Goals as goal

pub returns-clause-found : goal.returns-clause-found
returns-clause-found c = derived c.sound_law.ensures c.args.tokens.now c.whole.result c.whole.ensures

pub returns-clause-only : goal.returns-clause-only
returns-clause-only c = λ all d e. given c.complete_law.ensures c.args.tokens.now c.whole.result c.whole.ensures all d e

pub returns-clause-deep : goal.returns-clause-deep
returns-clause-deep c = λ all d left e. refused c.deep_law.ensures c.args.tokens.now c.whole.result c.whole.ensures all d left e

pub returns-clause-none : goal.returns-clause-none
returns-clause-none c = λ place e all d.
    not_derived c.complete_law.ensures c.deep_law.ensures c.args.tokens.now place (subst (λ r. Answers c.args.tokens.now r (read_whole c.args.tokens.now)) e c.whole.ensures) all d
