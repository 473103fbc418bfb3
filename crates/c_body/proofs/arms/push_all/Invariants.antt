use Rattle.std.proofs.Common.{◌≡◌, ◌++◌, map, take}
use Rattle.c_tree.specs.declared.stmt.Part.TheVariants.{Stmt}
use Rattle.c_body.proofs.arms.push_all.Given as goal

abbrev pub invariant-loop-stmt : goal.invariant-loop-stmt
invariant-loop-stmt l = l.parts ≡ l.fn.parts ++ map Stmt (take l.stmt-index l.stmts)
