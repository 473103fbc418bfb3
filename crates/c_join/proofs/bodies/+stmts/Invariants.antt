use Rattle.std.proofs.Common.{◌≡◌, take}
use Rattle.join_laws.specs.Renumber.{renumbered_parts, renumbered_stmts}
use Rattle.c_join.proofs.bodies.+stmts.Given as goal

abbrev pub invariant-renumber_stmts-loop-s : goal.invariant-renumber_stmts-loop-s
invariant-renumber_stmts-loop-s l = l.done ≡ renumbered_stmts l.numbers (take l.s-index l.list)

abbrev pub invariant-renumber_parts-loop-part : goal.invariant-renumber_parts-loop-part
invariant-renumber_parts-loop-part l = l.done ≡ renumbered_parts l.numbers (take l.part-index l.parts)
