use Rattle.std.proofs.Common.{◌≡◌, drop}
use Rattle.c_scope.specs.Headers.{header_names}
use Rattle.c_scope.proofs.headers.header_names.Given as goal

-- what is left to declare answers as the whole
abbrev pub invariant-loop-name : goal.invariant-loop-name
invariant-loop-name l = header_names l.names l.place l.fn.tables ≡ header_names (drop l.name-index l.names) l.place l.tables
