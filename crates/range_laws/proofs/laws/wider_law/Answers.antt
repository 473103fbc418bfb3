use Rattle.range_laws.proofs.Wider.{expr_wider, function_wider, stmt_wider}
use Rattle.range_laws.proofs.laws.wider_law.Goals as goal

pub returns-clause-exprs : goal.returns-clause-exprs
returns-clause-exprs c a b within e h = expr_wider a b within e h

pub returns-clause-stmts : goal.returns-clause-stmts
returns-clause-stmts c a b within x h = stmt_wider a b within x h

pub returns-clause-functions : goal.returns-clause-functions
returns-clause-functions c a b within f h = function_wider a b within f h
