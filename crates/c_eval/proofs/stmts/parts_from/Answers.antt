use Rattle.c_eval.proofs.Steps.{entered_are}
use Rattle.c_eval.proofs.stmts.parts_from.Goals as goal

pub returns : goal.returns
returns c = entered_are c.args.x c.skipped-k.result c.args.parts.now c.skipped-k.ensures
