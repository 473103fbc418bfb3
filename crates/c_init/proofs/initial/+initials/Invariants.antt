use Rattle.std.proofs.Common.{◌≡◌, drop, map}
use Rattle.c_init.specs.Initials.{set_parts, setting}
use Rattle.c_init.proofs.initial.+initials.Given as goal

-- what is left to set answers as the whole
abbrev pub invariant-set_parts-loop-x : goal.invariant-set_parts-loop-x
invariant-set_parts-loop-x l = set_parts l.parts l.place l.around l.from 0 l.fn.items (map setting l.list) l.fn.tables ≡ set_parts l.parts l.place l.around l.from l.i l.done (map setting (drop l.x-index l.list)) l.tables
