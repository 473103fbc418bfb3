use Rattle.std.proofs.Common.{◌≡◌, drop}
use Rattle.join_laws.specs.Uses.{noted, parts_uses, stmts_uses}
use Rattle.c_join.proofs.uses.+stmts.Given as goal

abbrev pub invariant-note_stmts-loop-s : goal.invariant-note_stmts-loop-s
invariant-note_stmts-loop-s l = noted l.numbers l.externs l.first (stmts_uses (drop l.s-index l.list)) ≡ noted l.numbers l.externs l.fn.first (stmts_uses l.list)

abbrev pub invariant-note_parts-loop-part : goal.invariant-note_parts-loop-part
invariant-note_parts-loop-part l = noted l.numbers l.externs l.first (parts_uses (drop l.part-index l.parts)) ≡ noted l.numbers l.externs l.fn.first (parts_uses l.parts)
