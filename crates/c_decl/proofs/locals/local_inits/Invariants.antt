use Rattle.std.proofs.Common.{◌≡◌, [], drop}
use Rattle.c_decl.specs.Locals.{local_inits}
use Rattle.c_decl.proofs.locals.local_inits.Given as goal

-- what is left to declare answers as the whole
abbrev pub invariant-loop-x : goal.invariant-loop-x
invariant-loop-x l = local_inits l.head l.around [] l.inits l.fn.tables ≡ local_inits l.head l.around l.done (drop l.x-index l.inits) l.tables
