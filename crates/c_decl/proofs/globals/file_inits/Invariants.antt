use Rattle.std.proofs.Common.{◌≡◌, drop}
use Rattle.c_decl.specs.Globals.{file_inits}
use Rattle.c_decl.proofs.globals.file_inits.Given as goal

-- what is left to declare answers as the whole
abbrev pub invariant-loop-x : goal.invariant-loop-x
invariant-loop-x l = file_inits l.head l.fn.made l.inits l.fn.tables ≡ file_inits l.head l.all (drop l.x-index l.inits) l.tables
