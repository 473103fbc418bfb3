use Rattle.std.proofs.lemmas.Result.{err_from_is_err_and}
use Rattle.c_lex.proofs.StepLaws.{step_fault}
use Rattle.c_lex.proofs.lexer.step.Goals as goal

pub returns-in_err-kind-clause-err : goal.returns-in_err-kind-clause-err
returns-in_err-kind-clause-err c =
    let p = err_from_is_err_and c.from_residual.result c.from_residual.ensures.1 in
    rw (p.1, p.2) (step_fault c.args.spot c.args.text.now c.in_err-kind.field-0.0 c.requires.some c.in_err-kind.ensures)
